use Rattle.eslip_rounds.specs.Slots.{AreMoved}
use Rattle.eslip_rounds.specs.Schedulers.{StayAtPorts}
use Rattle.maximal_matches.proofs.RoundsKept.{Serves-more, count-more}
use Rattle.maximal_matches.proofs.laws.more_rounds_match_more.Goals as goal

pub returns : goal.returns
returns c =
    record {
      slot = λ n rounds more t rows before a b. Serves-more n t rows before AreMoved AreMoved rounds more a b;
      count = λ n rounds more t rows before a b. count-more n t rows before AreMoved AreMoved rounds more a b;
      decision = λ scheduler n rounds more t rows places is within at_ports ports at_most.
          Serves-more n t rows places StayAtPorts StayAtPorts rounds more (scheduler n rounds t rows places) (scheduler n more t rows places) at_most
          (is n rounds t rows places within at_ports ports) (is n more t rows places within at_ports ports);
    }
