use Rattle.std.proofs.Common.{◌≡◌, ◌∙◌, List, [], length, ap, sym, subst, arith}
use Rattle.std.proofs.lemmas.List.{length-replicate}
use Rattle.output_queued.specs.declared.tally.Tally.{Tally}
use Rattle.output_queued.specs.Switches.{IsSwitch}
use Rattle.output_queued.specs.NotingSteps.{no_tally, tally_at}
use Rattle.output_queued.specs.Steps.{HaveEntered}
use Rattle.output_queued.proofs.FirstNoted.{no_tallies, first-stand, first-noted, first-same}
use Rattle.output_queued.proofs.reference.Reference.make.Goals as goal

pub let_in-unserved-requires-clause-stand : goal.let_in-unserved-requires-clause-stand
let_in-unserved-requires-clause-stand c =
    let n = c.args.n in
    let sources = c.in_ok-inputs.inputs.items in
    let switch = subst (IsSwitch n c.args.depth) (sym c.in_ok-inputs.ensures.coming) c.requires in (
      n,
      c.args.depth,
      (λ i. []),
      first-stand n c.args.depth sources switch c.in_ok-inputs.ensures.before,
      ap length c.in_ok-tallies.ensures ∙ length-replicate n no_tally,
    )

pub returns-clause-noted : goal.returns-clause-noted
returns-clause-noted c =
    let n = c.args.n in
    let sources = c.in_ok-inputs.inputs.items in
    let switch = subst (IsSwitch n c.args.depth) (sym c.in_ok-inputs.ensures.coming) c.requires in
    let before = c.in_ok-inputs.ensures.before in
    let made = c.let_in-unserved.ensures in
    let after = c.let_in-unserved.new.inputs.items in
    let counted = c.let_in-unserved.new.tallies.items in
    let entered = subst (λ (ts : List Tally). HaveEntered n c.args.depth 0 n (λ i. []) sources after ts counted) c.in_ok-tallies.ensures
    (made.entered n c.args.depth (λ i. []) (first-stand n c.args.depth sources switch before)) in
    first-noted n c.args.depth sources switch before after counted c.let_in-unserved.result entered
    (made.count ∙ ap length c.in_ok-tallies.ensures ∙ length-replicate n no_tally)
    (λ j.
    let most = made.small j in
    let none : (tally_at c.in_ok-tallies.tallies.items j).came ≡ 0 = ap (λ (ts : List Tally). (tally_at ts j).came) c.in_ok-tallies.ensures
    ∙ ap (λ (t : Tally). t.came) (no_tallies n j) in
    omega arith)
    made.unserved

pub invariant_of-result : goal.invariant_of-result
invariant_of-result c = ([], returns-clause-noted c)

pub returns-clause-coming : goal.returns-clause-coming
returns-clause-coming c =
    let n = c.args.n in
    let sources = c.in_ok-inputs.inputs.items in
    let switch = subst (IsSwitch n c.args.depth) (sym c.in_ok-inputs.ensures.coming) c.requires in
    let before = c.in_ok-inputs.ensures.before in
    let made = c.let_in-unserved.ensures in
    let after = c.let_in-unserved.new.inputs.items in
    let counted = c.let_in-unserved.new.tallies.items in
    let entered = subst (λ (ts : List Tally). HaveEntered n c.args.depth 0 n (λ i. []) sources after ts counted) c.in_ok-tallies.ensures
    (made.entered n c.args.depth (λ i. []) (first-stand n c.args.depth sources switch before)) in
    first-same n c.args.depth sources switch before after counted c.let_in-unserved.result entered
    (made.count ∙ ap length c.in_ok-tallies.ensures ∙ length-replicate n no_tally)
    (λ j.
    let most = made.small j in
    let none : (tally_at c.in_ok-tallies.tallies.items j).came ≡ 0 = ap (λ (ts : List Tally). (tally_at ts j).came) c.in_ok-tallies.ensures
    ∙ ap (λ (t : Tally). t.came) (no_tallies n j) in
    omega arith)
    made.unserved ∙ c.in_ok-inputs.ensures.coming
