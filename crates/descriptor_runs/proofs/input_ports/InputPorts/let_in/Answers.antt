use Rattle.std.proofs.Common.{◌≡◌, ◌∙◌, ◌≤◌, true, false, List, length, map, sym, ap, subst, arith}
use Rattle.std.specs.Prelude.{slice_get}
use Rattle.std_lemmas.proofs.Lists.{whole_back}
use Rattle.descriptor_runs.specs.InputSteps.{InputValue, row_in}
use Rattle.descriptor_runs.specs.PortSteps.{AreKept}
use Rattle.descriptor_runs.specs.SwitchSteps.{AreInputs}
use Rattle.descriptor_runs.proofs.Arriving.{not-now, none-now}
use Rattle.descriptor_runs.proofs.input_ports.InputPorts.let_in.Goals as goal

pub take_arrivals-came-requires-clause-served : goal.take_arrivals-came-requires-clause-served
take_arrivals-came-requires-clause-served c =
    let (scheduler, plan, few, are) = c.requires in
    (scheduler, plan, few, subst (AreInputs scheduler plan c.args.slot false) (sym (c.deref_mut.ensures.value ∙ c.self.view_is)) are)

pub take_arrivals-came-requires-clause-size : goal.take_arrivals-came-requires-clause-size
take_arrivals-came-requires-clause-size c = subst (λ (is : List InputValue). length is ≤ 64) (sym c.deref_mut.ensures.value) c.self.invariant.size

pub take_arrivals-came-requires-clause-rows : goal.take_arrivals-came-requires-clause-rows
take_arrivals-came-requires-clause-rows c = c.self.invariant.rows_are ∙ ap (map row_in) (sym c.deref_mut.ensures.value)

pub invariant_of-self : goal.invariant_of-self
invariant_of-self c =
    let inputs = c.self.inside.inputs in
    let new : List InputValue = c.take_arrivals-came.new.inputs in
    let long : length new ≡ length inputs.items = c.take_arrivals-came.auto.inputs ∙ ap length c.deref_mut.ensures.value in
    let size = c.self.invariant.size in
    subst (λ (is : List InputValue). AreKept is c.take_arrivals-came.new.requests c.take_arrivals-came.result.1)
    (sym (whole_back inputs.len new inputs.items inputs.ok.0 long))
    (record { size = omega arith; rows_are = c.take_arrivals-came.ensures.rows; next = c.take_arrivals-came.ensures.first })

pub returns-then-eq-clause-arrived : goal.returns-then-eq-clause-arrived
returns-then-eq-clause-arrived c = λ scheduler plan are.
    let inputs = c.self.inside.inputs in
    let new : List InputValue = c.take_arrivals-came.new.inputs in
    let long : length new ≡ length inputs.items = c.take_arrivals-came.auto.inputs ∙ ap length c.deref_mut.ensures.value in
    subst (AreInputs scheduler plan c.args.slot true) (sym (whole_back inputs.len new inputs.items inputs.ok.0 long))
    (c.take_arrivals-came.ensures.arrived scheduler plan
    (subst (AreInputs scheduler plan c.args.slot false) (sym (c.deref_mut.ensures.value ∙ c.self.view_is)) are))

pub returns-then-eq-clause-others : goal.returns-then-eq-clause-others
returns-then-eq-clause-others c = λ i lacks.
    let inputs = c.self.inside.inputs in
    let new : List InputValue = c.take_arrivals-came.new.inputs in
    let long : length new ≡ length inputs.items = c.take_arrivals-came.auto.inputs ∙ ap length c.deref_mut.ensures.value in
    let at = λ (is : List InputValue). slice_get is i in
    ap at (whole_back inputs.len new inputs.items inputs.ok.0 long)
    ∙ (c.take_arrivals-came.ensures.others i lacks ∙ ap at (c.deref_mut.ensures.value ∙ c.self.view_is))

pub returns-else-eq-clause-arrived : goal.returns-else-eq-clause-arrived
returns-else-eq-clause-arrived c = λ scheduler plan are.
    let inputs = c.self.inside.inputs.items in
    let here = subst (AreInputs scheduler plan c.args.slot false) (sym c.self.view_is) are in
    let other = not-now c.self.inside.first c.args.slot c.eq.result c.eq.ensures c.if-eq.false in
    subst (AreInputs scheduler plan c.args.slot true) c.self.view_is
    (none-now scheduler plan c.args.slot inputs here c.self.inside.first c.self.invariant.next other)
