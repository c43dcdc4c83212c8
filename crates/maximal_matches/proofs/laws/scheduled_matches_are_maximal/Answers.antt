use Rattle.eslip_rounds.specs.Slots.{AreMoved}
use Rattle.service_bound.proofs.InWindows.{AreMoved-keep}
use Rattle.maximal_matches.proofs.MaximalSlots.{all_maximal, all_unused, all_maximal_by_any, all_unused_by_any}
use Rattle.maximal_matches.proofs.laws.scheduled_matches_are_maximal.Goals as goal

pub returns : goal.returns
returns c =
    record {
      enough = λ n rounds t places slots at_ports ports. all_maximal n rounds t places slots at_ports ports AreMoved (AreMoved-keep n);
      unused = λ n rounds t places slots at_ports ports. all_unused n rounds t places slots at_ports ports AreMoved (AreMoved-keep n);
      enough_by_any = all_maximal_by_any;
      unused_by_any = all_unused_by_any;
    }
