use Rattle.std.proofs.Common.{◌≡◌, ◌∙◌, List, length, replicate, ap, subst, arith}
use Rattle.std.proofs.lemmas.List.{length-map}
use Rattle.slot_match.specs.Rows.{empty_row}
use Rattle.card_core.specs.Plans.{plan_of}
use Rattle.descriptor_runs.specs.InputSteps.{InputValue}
use Rattle.descriptor_runs.specs.PortSteps.{IsFirst}
use Rattle.descriptor_runs.proofs.Begun.{new-rows}
use Rattle.descriptor_runs.proofs.input_ports.InputPorts.make.Goals as goal

pub invariant_of-result : goal.invariant_of-result
invariant_of-result c =
    let plans = c.args.plans in
    let inputs : List InputValue = c.in_ok-inputs.inputs.items in
    let ports = c.len-ports.ensures in
    let made = ap length c.in_ok-inputs.ensures.plans in
    let long = length-map inputs (λ (input : InputValue). input.plan) in
    let planned = length-map plans.items plan_of in
    let given = plans.ok.0 in
    let size = c.requires.size in
    let count : c.len-ports.result ≡ length inputs = omega arith in
    record {
      size = omega arith;
      rows_are = c.new.ensures ∙ (ap (λ n. replicate n empty_row) count ∙ new-rows inputs c.in_ok-inputs.ensures.served);
      next = subst (λ (is : List InputValue). IsFirst (length is) is c.first_arrival-first.result) c.deref.ensures.value c.first_arrival-first.ensures;
    }
