use Rattle.std.proofs.Common.{◌∙◌, Some, sym, ap}
use Rattle.std.proofs.lemmas.Bool.{both_ways}
use Rattle.descriptor_runs.specs.InputSteps.{row_in}
use Rattle.descriptor_runs.proofs.Arriving.{is-now, not-now}
use Rattle.descriptor_runs.proofs.InputPorts.{rows-same}
use Rattle.descriptor_runs.proofs.ServedInputs.{none_arrives}
use Rattle.descriptor_runs.proofs.input_ports.let_in.Goals as goal

pub arrive-changed-requires : goal.arrive-changed-requires
arrive-changed-requires c =
    let (served, was, is, few) = c.requires.served in
    (served, was, is, sym c.next_slot.ensures ∙ is-now c.next_slot.result c.args.slot c.eq-comes.result c.eq-comes.ensures c.if-comes.true, few)

pub follow-requires : goal.follow-requires
follow-requires c = (row_in c.args.input.now, c.requires.row, c.arrive-changed.ensures.changed)

pub returns-then-comes-clause-arrived : goal.returns-then-comes-clause-arrived
returns-then-comes-clause-arrived c = λ served was is.
    c.arrive-changed.ensures.arrived served was is
    (sym c.next_slot.ensures ∙ is-now c.next_slot.result c.args.slot c.eq-comes.result c.eq-comes.ensures c.if-comes.true)

pub returns-then-comes-clause-same : goal.returns-then-comes-clause-same
returns-then-comes-clause-same c = λ none. absurd (both_ways c.eq-comes.result none c.if-comes.true)

pub returns-else-comes-clause-arrived : goal.returns-else-comes-clause-arrived
returns-else-comes-clause-arrived c = λ served was is. none_arrives c.args.input.now served was (λ now.
    not-now c.next_slot.result c.args.slot c.eq-comes.result c.eq-comes.ensures c.if-comes.false (c.next_slot.ensures ∙ (now ∙ ap Some (sym is))))

pub returns-else-comes-clause-row : goal.returns-else-comes-clause-row
returns-else-comes-clause-row c = rows-same c.args.requests.now c.args.port (row_in c.args.input.now) c.requires.row
