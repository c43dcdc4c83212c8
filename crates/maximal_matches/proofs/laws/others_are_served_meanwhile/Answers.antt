use Rattle.eslip_rounds.specs.Slots.{AreMoved}
use Rattle.service_bound.proofs.InWindows.{AreMoved-keep}
use Rattle.maximal_matches.proofs.MaximalSlots.{all_maximal, all_maximal_by_any}
use Rattle.maximal_matches.proofs.Meanwhile.{one_of_two, waits_within, waits_within-decided}
use Rattle.maximal_matches.proofs.laws.others_are_served_meanwhile.Goals as goal

pub returns : goal.returns
returns c =
    record {
      slot = one_of_two;
      slots = waits_within;
      schedule = λ n rounds t i j level places slots i_in j_in at_ports ports schedule within enough.
          waits_within-decided n i j level slots i_in j_in
          (all_maximal n rounds t places slots at_ports ports AreMoved (AreMoved-keep n) schedule within enough);
      schedule_by_any = λ n rounds t i j level places slots i_in j_in at_ports ports schedule within enough.
          waits_within-decided n i j level slots i_in j_in (all_maximal_by_any n rounds t places slots at_ports ports schedule within enough);
    }
