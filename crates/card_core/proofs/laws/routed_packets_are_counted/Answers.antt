use Rattle.std.proofs.Common.{true, false}
use Rattle.card_core.proofs.Admitting.{count-is, both-are}
use Rattle.card_core.proofs.laws.routed_packets_are_counted.Goals as goal

pub returns-clause-admitted : goal.returns-clause-admitted
returns-clause-admitted c plan served t good = count-is plan good served true t

pub returns-clause-dropped : goal.returns-clause-dropped
returns-clause-dropped c plan served t good = count-is plan good served false t

pub returns-clause-all : goal.returns-clause-all
returns-clause-all c plan served t good = both-are plan good served t
