use Rattle.std.proofs.Common.{◌≡◌, ◌∙◌, ◌+◌, ◌<◌, ◌⊎◌, List, true, Some, length, get_or, set, sym, ap, subst, arith, inl, inr}
use Rattle.std.specs.Prelude.{slice_get}
use Rattle.std.proofs.lemmas.List.{length-set, set-get_or}
use Rattle.std.proofs.lemmas.Option.{slice_get-get_or, slice_get_within}
use Rattle.std.proofs.Math.Seq.{map-set_same}
use Rattle.std_lemmas.proofs.Lists.{get-set_other}
use Rattle.rotating_pick.specs.PortSets.{Has}
use Rattle.run_laws.specs.Runs.{parts_under}
use Rattle.run_laws.proofs.Base.{served-length}
use Rattle.descriptor_runs.specs.InputSteps.{InputValue, HasServed}
use Rattle.descriptor_runs.specs.PortSteps.{IsFirst, earlier_of}
use Rattle.descriptor_runs.proofs.InputPorts.{row-there, rows-set, each-more}
use Rattle.descriptor_runs.proofs.Arriving.{first-more}
use Rattle.descriptor_runs.proofs.input_ports.take_arrivals.Goals as goal
use Rattle.descriptor_runs.proofs.input_ports.take_arrivals.Goals.{then-let_in, else-let_in}

pub let_in-requires-clause-served : goal.let_in-requires-clause-served
let_in-requires-clause-served c =
    let (scheduler, plan, few, are) = c.requires.served in
    let at = c.loop-place in
    let k = at.place in
    let input = get_or at.inputs k c.index-inputs-place.result in
    let test = c.loop-place-test.true in
    let long = at.invariant.count in
    let inside : k < length at.inputs = omega arith in
    let old : slice_get c.args.inputs.now k ≡ Some input =
    sym (at.invariant.later k (omega arith)) ∙ slice_get-get_or at.inputs k c.index-inputs-place.result inside in
    (parts_under scheduler plan k c.args.slot, are.served k input old, sym (served-length scheduler plan k c.args.slot), few)

pub let_in-requires-clause-row : goal.let_in-requires-clause-row
let_in-requires-clause-row c =
    let at = c.loop-place in
    let test = c.loop-place-test.true in
    let long = at.invariant.count in
    row-there at.inputs at.requests at.invariant.rows at.place c.index-inputs-place.result (omega arith)

pub with-came-requires : goal.with-came-requires
with-came-requires c =
    let test = c.loop-place-test.true in
    let long = c.loop-place.invariant.count in
    let size = c.requires.size in
    omega arith

pub loop-place-preserved : goal.loop-place-preserved
loop-place-preserved c =
    let at = c.loop-place in
    let k = at.place in
    let t = c.args.slot in
    let d = c.index-inputs-place.result in
    let input = get_or at.inputs k d in
    let new = c.let_in.new.input in
    let test = c.loop-place-test.true in
    let long = at.invariant.count in
    let inside : k < length at.inputs = omega arith in
    let old : slice_get c.args.inputs.now k ≡ Some input = sym (at.invariant.later k (omega arith)) ∙ slice_get-get_or at.inputs k d inside in
    record {
      count = length-set at.inputs k new ∙ long;
      plans = map-set_same (λ (x : InputValue). x.plan) at.inputs k new d c.let_in.ensures.plan ∙ at.invariant.plans;
      later = λ i after. get-set_other at.inputs k i new (λ e. absurd (omega arith)) ∙ at.invariant.later i (omega arith);
      rows = c.let_in.ensures.row ∙ rows-set at.inputs at.requests at.invariant.rows k new;
      arrived = λ scheduler plan were. each-more (λ i (x : InputValue). HasServed x (parts_under scheduler plan i t) true) k at.inputs new inside
          (at.invariant.arrived scheduler plan were)
          (c.let_in.ensures.arrived (parts_under scheduler plan k t) (were.served k input old) (sym (served-length scheduler plan k t)));
      others = λ i lacks. elim c.if-let_in.branch [
        | then-let_in w ↦
            let none : (i ≡ k) ⊎ Has at.came i → ⊥ = λ s. lacks (subst (λ ports. Has ports i) (sym w.came-is) ((w.with-came.ensures i).1 s)) in
            get-set_other at.inputs k i new (λ same. none (inl same)) ∙ at.invariant.others i (λ has. none (inr has))
        | else-let_in w ↦
            ap (λ (x : InputValue). slice_get (set at.inputs k x) i) (c.let_in.ensures.same w.if-let_in.false)
            ∙ (ap (λ (xs : List InputValue). slice_get xs i) (set-get_or at.inputs k d)
            ∙ at.invariant.others i (λ has. lacks (subst (λ ports. Has ports i) (sym w.came-is) has)))
      ];
      first = subst (IsFirst (k + 1) (set at.inputs k new)) (sym (c.earlier-next.ensures ∙ ap (earlier_of at.next) c.next_slot.ensures))
          (first-more k at.inputs at.next new inside at.invariant.first);
    }

pub returns-clause-arrived : goal.returns-clause-arrived
returns-clause-arrived c = λ scheduler plan were.
    let at = c.loop-place in
    let past = c.loop-place-test.false in
    let most = at.auto.place-end in
    let long = at.invariant.count in
    record {
      plans = at.invariant.plans ∙ were.plans;
      served = λ i input mine. let inside = slice_get_within at.inputs i input mine in at.invariant.arrived scheduler plan were i input (omega arith) mine;
    }

pub returns-clause-first : goal.returns-clause-first
returns-clause-first c =
    let at = c.loop-place in
    let past = c.loop-place-test.false in
    let most = at.auto.place-end in
    let long = at.invariant.count in
    let all : at.place ≡ length at.inputs = omega arith in
    subst (λ k. IsFirst k at.inputs at.next) all at.invariant.first
