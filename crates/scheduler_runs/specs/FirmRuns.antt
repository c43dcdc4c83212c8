-- The run of a plan under FIRM.
use Rattle.std.specs.Prelude.{ℕ, ◌*◌}
use Rattle.firm_rounds.specs.Decisions.{firm_decision}
use Rattle.switch_plan.specs.GoodPlans.{SwitchPlan}
use Rattle.run_laws.specs.Runs.{ports_of}
use Rattle.run_laws.specs.Promises.{ArrivalsComeFirst, BusySlotsMatchUnder, CompletesUnder, DeliversUnder, DeliversNoOthersUnder, HasFewSlotsUnder}
use Rattle.run_laws.specs.Promises.{ServesUnder, WaitsUnder}
use Rattle.run_laws.specs.InTime.{CompletesInTimeUnder, ServesInTimeUnder}
use Rattle.run_laws.specs.Outcomes.{summary_under, CountsPacketsOnce}

-- What is promised of a plan's run under FIRM that has so many slots: what it delivers, that all packets
-- arrive before its end and are counted once, within how many slots a unicast queue is served and a multicast head
-- completes, also in a run of fewer slots, how long waits are, how many slots it has, and that no busy slot is without a match.
pub record FirmPromises (plan : SwitchPlan) (slots : ℕ) : Type 0 where
  pub delivers : DeliversUnder firm_decision plan slots
  pub no_others : DeliversNoOthersUnder firm_decision plan slots
  pub arrivals : ArrivalsComeFirst plan slots
  pub counts : CountsPacketsOnce (summary_under firm_decision plan slots)
  pub serves : ServesUnder firm_decision plan slots (ports_of plan * ports_of plan)
  pub serves_in_time : ServesInTimeUnder firm_decision plan slots (ports_of plan * ports_of plan)
  pub waits : WaitsUnder firm_decision plan slots (ports_of plan * ports_of plan)
  pub completes : CompletesUnder firm_decision plan slots
  pub completes_in_time : CompletesInTimeUnder firm_decision plan slots
  pub few_slots : HasFewSlotsUnder firm_decision plan slots
  pub busy_slots : BusySlotsMatchUnder firm_decision plan
