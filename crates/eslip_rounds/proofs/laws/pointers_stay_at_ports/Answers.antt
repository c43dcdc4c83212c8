use Rattle.eslip_rounds.proofs.Unique.{ArePointing-slot}
use Rattle.eslip_rounds.proofs.laws.pointers_stay_at_ports.Goals as goal

pub returns : goal.returns
returns c n rounds t rows before a within at_ports ports = ArePointing-slot n rounds t rows before within at_ports ports a
