use Rattle.eslip_rounds.proofs.Unique.{IsSlot-only}
use Rattle.eslip_rounds.proofs.laws.one_decision.Goals as goal

pub returns : goal.returns
returns c n rounds t rows before a b within at_ports ports a_in b_in = IsSlot-only n rounds t rows before within at_ports ports a b a_in b_in
