use Rattle.eslip_rounds.specs.Schedulers.{StayAtPorts}
use Rattle.maximal_matches.proofs.MaximalSlots.{slot_maximal, slot_unused}
use Rattle.maximal_matches.proofs.laws.decisions_are_maximal.Goals as goal

pub returns : goal.returns
returns c =
    record {
      enough = λ scheduler n rounds t rows places is within at_ports ports.
          slot_maximal StayAtPorts n rounds t rows places (scheduler n rounds t rows places) within at_ports ports
          (is n rounds t rows places within at_ports ports);
      unused = λ scheduler n rounds t rows places is within at_ports ports.
          slot_unused StayAtPorts n rounds t rows places (scheduler n rounds t rows places) within at_ports ports
          (is n rounds t rows places within at_ports ports);
    }
