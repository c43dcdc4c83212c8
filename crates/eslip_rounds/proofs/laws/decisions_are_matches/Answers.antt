use Rattle.eslip_rounds.proofs.Unique.{IsMatch-slot}
use Rattle.eslip_rounds.proofs.laws.decisions_are_matches.Goals as goal

pub returns : goal.returns
returns c n rounds t rows before a within at_ports ports = IsMatch-slot n rounds t rows before within at_ports ports a
