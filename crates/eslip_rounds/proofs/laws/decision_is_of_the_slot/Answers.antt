use Rattle.eslip_rounds.proofs.Settling.{IsSlot-decision_of, AreAtPorts-decision_of}
use Rattle.eslip_rounds.proofs.laws.decision_is_of_the_slot.Goals as goal

pub returns-clause-slot : goal.returns-clause-slot
returns-clause-slot c n rounds t rows before within at_ports ports = IsSlot-decision_of n t rows before within at_ports ports rounds

pub returns-clause-at_ports : goal.returns-clause-at_ports
returns-clause-at_ports c n rounds t rows before within at_ports ports = AreAtPorts-decision_of n t rows before within at_ports ports rounds
