use Rattle.firm_rounds.proofs.Computed.{IsFirmSlot-firm_decision, AreAtPorts-firm_decision}
use Rattle.firm_rounds.proofs.laws.firm_decision_is_of_the_slot.Goals as goal

pub returns-clause-slot : goal.returns-clause-slot
returns-clause-slot c n rounds t rows before within at_ports ports = IsFirmSlot-firm_decision n t rows before within at_ports ports rounds

pub returns-clause-at_ports : goal.returns-clause-at_ports
returns-clause-at_ports c n rounds t rows before within at_ports ports = AreAtPorts-firm_decision n t rows before within at_ports ports rounds
