use Rattle.std.proofs.Common.{arith}
use Rattle.journal_check.proofs.NumberReads.{ports_within, rounds_within, slots_within}
use Rattle.journal_check.proofs.header.read_header.Goals as goal

pub overflow_cast-ports : goal.overflow_cast-ports
overflow_cast-ports c = let p = (ports_within _ _ _ _ c.in_ok-ports.ensures).1 in omega arith

pub overflow_cast-rounds : goal.overflow_cast-rounds
overflow_cast-rounds c = let p = (rounds_within _ _ _ _ c.in_ok-rounds.ensures).1 in omega arith

pub overflow_cast-slots : goal.overflow_cast-slots
overflow_cast-slots c = let p = (slots_within _ _ _ _ _ c.in_ok-slots.ensures).1 in omega arith

pub returns-clause-limits : goal.returns-clause-limits
returns-clause-limits c =
    let ports = ports_within _ _ _ _ c.in_ok-ports.ensures in
    let rounds = rounds_within _ _ _ _ c.in_ok-rounds.ensures in
    let slots = slots_within _ _ _ _ _ c.in_ok-slots.ensures in
    record { ports_some = ports.0; ports_few = ports.1; rounds_some = rounds.0; rounds_few = rounds.1; slots_some = slots.0; slots_few = slots.1 }
