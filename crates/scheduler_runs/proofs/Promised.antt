-- What holds of every run under FIRM.
use Rattle.std.proofs.Common.{◌≡◌, ◌∙◌, ℕ, ◌+◌, ◌*◌, map, take, drop, length, ap, sym, subst, arith}
use Rattle.std.specs.List.{range_with_len}
use Rattle.std.proofs.lemmas.List.FromFn.{length-map-range_with_len}
use Rattle.std_lemmas.proofs.Ranges.{middle}
use Rattle.scheduler_names.specs.declared.names.SchedulerName.TheVariants.{Firm}
use Rattle.rotating_pick.specs.declared.kinds.Kind.TheVariants.{Uni}
use Rattle.slot_match.specs.Rows.{Names, row_of}
use Rattle.pointer_state.specs.Places.{places_at_first}
use Rattle.slot_histories.proofs.PostedRows.{row_of-slot_rows}
use Rattle.slot_board.specs.Schedules.{decided_under}
use Rattle.service_bound.specs.Windows.{IsWindowBy, InFirst, places_after}
use Rattle.service_bound.proofs.PartsOfSchedules.{part_is_window_by}
use Rattle.firm_rounds.specs.Slots.{AreMovedByFirm}
use Rattle.firm_rounds.specs.Decisions.{firm_decision}
use Rattle.firm_rounds.proofs.InTime.{firm_longest_wait, firm_served_in_time, firm_quiet_served_in_time}
use Rattle.firm_rounds.proofs.PointersKept.{firm_keep}
use Rattle.switch_plan.specs.GoodPlans.{SwitchPlan, IsGood}
use Rattle.run_laws.specs.Runs.{ports_of, setup_for, posts_under}
use Rattle.run_laws.specs.Ends.{IsLengthUnder}
use Rattle.run_laws.specs.Sums.{schedule_under}
use Rattle.run_laws.specs.Promises.{ServesUnder, WaitsUnder}
use Rattle.run_laws.specs.InTime.{ServesInTimeUnder}
use Rattle.run_laws.proofs.Arrivals.{arrivals_first}
use Rattle.run_laws.proofs.BusySlots.{busy_matches}
use Rattle.run_laws.proofs.Emptied.{packets_delivered}
use Rattle.run_laws.proofs.InTime.{serves-in_time_by}
use Rattle.run_laws.proofs.OfFlows.{all_of_flows}
use Rattle.run_laws.proofs.RunEnds.{run_bound}
use Rattle.run_laws.proofs.RunSchedule.{run-schedule, run-within, run-kept}
use Rattle.run_laws.proofs.RunWindows.{begins, in_first, best-window, best-alone}
use Rattle.run_laws.proofs.Counted.{counted-once}
use Rattle.scheduler_runs.specs.FirmRuns.{FirmPromises}
use Rattle.scheduler_runs.proofs.Completing.{completes-firm, completes-in_time_under_each}
use Rattle.named_schedulers.proofs.FirmScheduler.{IsSchedulerBy-firm_decision, IsScheduler-firm_decision}

module _ (plan : SwitchPlan) (good : IsGood plan) (slots : ℕ) where
  -- a unicast queue is served
  firm-serves : ServesUnder firm_decision plan slots (ports_of plan * ports_of plan)
  firm-serves first level i j below inside few quiet named =
      let n = ports_of plan in
      let count = n * n in
      let slot = decided_under firm_decision (setup_for plan) (posts_under firm_decision plan) in
      let all = schedule_under firm_decision plan slots in
      let part = take count (drop first all) in
      let is : part ≡ map slot (range_with_len first count) = middle slot first count slots few in
      let window : IsWindowBy AreMovedByFirm n plan.rounds (0 + first) level (places_after (places_at_first n) (take first all)) part =
      part_is_window_by AreMovedByFirm n plan.rounds 0 level first count (places_at_first n) all (firm_keep n level) (begins plan good level below)
      (run-schedule firm_decision IsScheduler-firm_decision plan good AreMovedByFirm IsSchedulerBy-firm_decision slots)
      (run-within firm_decision IsScheduler-firm_decision plan good slots) (run-kept firm_decision IsScheduler-firm_decision plan good slots)
      (λ k d short. (quiet k d short).0) in
      let there : Names (row_of (slot first).rows i) level Uni j = subst (λ row. Names row level Uni j)
      (sym (row_of-slot_rows n (posts_under firm_decision plan) first i inside)) named in
      let long : length part ≡ count = ap length is ∙ length-map-range_with_len slot first count in
      firm_served_in_time n plan.rounds (0 + first) level i j (places_after (places_at_first n) (take first all)) part good.rounds.some inside window
      (λ k d short. (quiet k d short).1)
      (subst (InFirst (λ rows. Names (row_of rows i) level Uni j)) (sym is)
      (in_first (λ rows. Names (row_of rows i) level Uni j) slot first count there)) (omega (arith, long))

  -- within that number of slots, or before the end, also where only its output is asked for nothing better
  firm-serves_in_time : IsLengthUnder firm_decision plan slots → ServesInTimeUnder firm_decision plan slots (ports_of plan * ports_of plan)
  firm-serves_in_time =
      serves-in_time_by AreMovedByFirm firm_decision plan (ports_of plan * ports_of plan)
      (record {
        scheduling = IsScheduler-firm_decision;
        moving = IsSchedulerBy-firm_decision;
        keep = firm_keep (ports_of plan);
        enough = λ t level i j places part. firm_quiet_served_in_time (ports_of plan) plan.rounds t level i j places part good.rounds.some;
      }) good slots

  -- no wait of the best level is longer
  firm-waits : WaitsUnder firm_decision plan slots (ports_of plan * ports_of plan)
  firm-waits level best =
      firm_longest_wait (ports_of plan) plan.rounds 0 level (places_at_first (ports_of plan))
      (schedule_under firm_decision plan slots) good.size.some good.rounds.some
      (best-window firm_decision IsScheduler-firm_decision plan good slots level best AreMovedByFirm IsSchedulerBy-firm_decision)
      (best-alone firm_decision IsScheduler-firm_decision plan good slots level best)

  pub promises-of : IsLengthUnder firm_decision plan slots → FirmPromises plan slots
  promises-of ends = record {
    delivers = λ i j level kind inside to below. packets_delivered firm_decision IsScheduler-firm_decision plan good i j level kind slots ends inside to below;
    no_others = λ j. all_of_flows firm_decision IsScheduler-firm_decision plan good j slots;
    arrivals = arrivals_first firm_decision plan slots ends;
    counts = counted-once firm_decision plan slots good ends;
    serves = firm-serves;
    serves_in_time = firm-serves_in_time ends;
    waits = firm-waits;
    completes = completes-firm plan slots good;
    completes_in_time = completes-in_time_under_each Firm plan slots good ends;
    few_slots = run_bound firm_decision IsScheduler-firm_decision plan good slots ends;
    busy_slots = λ i t inside busy. busy_matches firm_decision IsScheduler-firm_decision plan good i t inside busy;
  }
