use Rattle.std.proofs.Common.{◌≡◌, ◌∙◌, ℕ, true, List, length, map, Some, sym, ap, subst}
use Rattle.std.specs.Prelude.{slice_get}
use Rattle.std.specs.Option.{option_map}
use Rattle.std.proofs.lemmas.Bool.{both_ways, true_from_ne_false}
use Rattle.std.proofs.lemmas.Option.{slice_get-map}
use Rattle.std_lemmas.proofs.Lists.{got_map}
use Rattle.slot_match.specs.declared.rows.Row.{Row}
use Rattle.slot_histories.specs.Tests.{is_empty}
use Rattle.descriptor_runs.specs.InputSteps.{InputValue, row_in}
use Rattle.descriptor_runs.specs.PortSteps.{AsksAt, NoneBefore, ComesTo}
use Rattle.descriptor_runs.specs.SwitchSteps.{AreInputs}
use Rattle.descriptor_runs.proofs.Letting.{asking-goes_on, coming-goes_on, none-asks, nothing-comes}
use Rattle.descriptor_runs.proofs.input_ports.InputPorts.activity.Goals as goal

-- where no input asks, its row is empty
empty-row : (inputs : List InputValue) (rows : List Row) → rows ≡ map row_in inputs → (((i : ℕ) × AsksAt rows i) → ⊥)
    → (i : ℕ) (input : InputValue) → slice_get inputs i ≡ Some input → is_empty (row_in input) ≡ true
empty-row inputs rows are none i input at =
    true_from_ne_false (is_empty (row_in input)) (λ asks.
    none (i, (row_in input, ap (λ rs. slice_get rs i) are ∙ (slice_get-map row_in inputs i ∙ ap (option_map row_in) at), asks)))

pub returns-then-has_any : goal.returns-then-has_any
returns-then-has_any c = λ scheduler plan t are.
    let inputs = c.self.inside.inputs.items in
    let rows_are = c.self.invariant.rows_are in
    let (i, (row, there, asks)) = c.has_any.ensures.0 c.if-has_any.true in
    let (input, at, is) = got_map row_in inputs i row (ap (λ rs. slice_get rs i) (sym rows_are) ∙ there) in
    asking-goes_on scheduler plan t c.args.self.now are i input (ap (λ (is : List InputValue). slice_get is i) (sym c.self.view_is) ∙ at)
    (ap is_empty is ∙ asks)

pub returns-in-Some : goal.returns-in-Some
returns-in-Some c = λ scheduler plan t are.
    let inputs = c.self.inside.inputs.items in
    let kept = c.self.invariant in
    let here = subst (AreInputs scheduler plan t true) (sym c.self.view_is) are in
    let none = empty-row inputs c.self.inside.requests kept.rows_are (λ some. both_ways c.has_any.result c.if-has_any.false (c.has_any.ensures.1 some)) in
    let first = c.in-Some.field-0 in (
      coming-goes_on scheduler plan t inputs here first (subst (ComesTo (length inputs) inputs) c.in-Some.is kept.next.there),
      none-asks scheduler plan t inputs here none,
    )

pub returns-in-None : goal.returns-in-None
returns-in-None c = λ scheduler plan t are.
    let inputs = c.self.inside.inputs.items in
    let kept = c.self.invariant in
    let here = subst (AreInputs scheduler plan t true) (sym c.self.view_is) are in
    let none = empty-row inputs c.self.inside.requests kept.rows_are (λ some. both_ways c.has_any.result c.if-has_any.false (c.has_any.ensures.1 some)) in
    nothing-comes scheduler plan t inputs here none (subst (NoneBefore (length inputs) inputs) c.in-None.is kept.next.least)
