use Rattle.firm_rounds.proofs.HeldSlots.{told_within, IsDecidedBy-held}
use Rattle.firm_rounds.proofs.slot.decide_firm_over.Goals as goal

pub hold-requires-clause-refused : goal.hold-requires-clause-refused
hold-requires-clause-refused c =
    let decided = c.decide_over_with_refused in
    told_within c.args.n c.args.rounds c.args.slot c.args.columns.now c.args.p.now c.args.out.now c.requires decided.new.out decided.result.0
    decided.new.p decided.result.1 decided.ensures.decided decided.ensures.refused

pub returns : goal.returns
returns c =
    let decided = c.decide_over_with_refused in
    IsDecidedBy-held c.args.n c.args.rounds c.args.slot c.args.columns.now c.args.p.now c.args.out.now c.requires decided.new.out decided.result.0
    decided.new.p decided.result.1 decided.ensures.decided decided.ensures.refused c.hold.new.p c.ports.ensures.at_ports
    c.hold.ensures.held c.hold.ensures.at_ports
