use Rattle.std.proofs.Common.{◌∙◌}
use Rattle.eslip_rounds.proofs.Refusing.{AreToldWithin-refused}
use Rattle.rrm_rounds.proofs.PassedSlots.{IsDecidedBy-passed}
use Rattle.rrm_rounds.proofs.slot.decide_rrm_over.Goals as goal

pub pass-requires-clause-size : goal.pass-requires-clause-size
pass-requires-clause-size c = c.requires.size

pub pass-requires-clause-ports : goal.pass-requires-clause-ports
pass-requires-clause-ports c = c.decide_over_with_refused.ensures.decided.slot.moved.ports ∙ c.requires.pointers

pub pass-requires-clause-refused : goal.pass-requires-clause-refused
pass-requires-clause-refused c =
    AreToldWithin-refused c.args.n c.args.slot c.args.columns.now c.args.p.now c.decide_over_with_refused.result.1 c.decide_over_with_refused.ensures.refused

pub returns : goal.returns
returns c =
    let made = c.decide_over_with_refused in
    IsDecidedBy-passed c.args.n c.args.rounds c.args.slot c.args.columns.now c.args.p.now
    (record { matched = made.new.out; numbers = made.result.0; places = made.new.p }) c.pass.new.p made.ensures.decided (record {
      some = c.requires.rounds_some;
      within = c.requires.within;
      ports = c.requires.pointers;
      at_ports = c.ports.ensures.at_ports;
      refused = made.result.1;
      are = made.ensures.refused;
      beyond = c.pass.ensures.passed;
      after_at_ports = c.pass.ensures.at_ports;
    })
