use Rattle.firm_rounds.proofs.OneDecision.{IsFirmSlot-only}
use Rattle.firm_rounds.proofs.laws.one_firm_decision.Goals as goal

pub returns : goal.returns
returns c n rounds t rows before a b within at_ports ports a_in b_in = IsFirmSlot-only n t rows before within at_ports ports rounds a b a_in b_in
