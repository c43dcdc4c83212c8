use Rattle.rrm_rounds.proofs.OneDecision.{IsRrmSlot-only}
use Rattle.rrm_rounds.proofs.laws.one_rrm_decision.Goals as goal

pub returns : goal.returns
returns c n rounds t rows before a b within at_ports ports a_in b_in = IsRrmSlot-only n t rows before within at_ports ports rounds a b a_in b_in
