-- Multicast heads of a run complete within twice as many slots as there are ports.
use Rattle.std.proofs.Common.{◌≡◌, ◌∙◌, ℕ, ◌+◌, ◌*◌, map, take, drop, length, ap, sym, subst, arith}
use Rattle.std.specs.List.{range_with_len}
use Rattle.std.proofs.lemmas.List.FromFn.{length-map-range_with_len}
use Rattle.std_lemmas.proofs.Ranges.{middle}
use Rattle.rotating_pick.specs.declared.kinds.Kind.TheVariants.{Multi}
use Rattle.slot_match.specs.Rows.{Names, HasHead, row_of}
use Rattle.pointer_state.specs.Places.{places_at_first}
use Rattle.eslip_rounds.specs.Schedulers.{Scheduler, IsSchedulerBy, IsScheduler}
use Rattle.eslip_rounds.specs.Slots.{Moving, AreMoved}
use Rattle.eslip_rounds.specs.Decisions.{decision_of}
use Rattle.eslip_rounds.proofs.Scheduling.{IsSchedulerBy-decision_of, IsScheduler-decision_of}
use Rattle.slot_histories.proofs.PostedRows.{row_of-slot_rows}
use Rattle.slot_board.specs.Schedules.{decided_under}
use Rattle.service_bound.specs.Windows.{IsWindowBy, InFirst, places_after}
use Rattle.service_bound.proofs.InWindows.{KeepPointing, AreMoved-keep}
use Rattle.service_bound.proofs.HeadsComplete.{PassHeads, AreMoved-pass, completes_by}
use Rattle.service_bound.proofs.PartsOfSchedules.{part_is_window_by}
use Rattle.switch_plan.specs.GoodPlans.{SwitchPlan, IsGood}
use Rattle.run_laws.specs.Runs.{ports_of, setup_for, posts_under}
use Rattle.run_laws.specs.Sums.{schedule_under}
use Rattle.run_laws.specs.Promises.{CompletesUnder, CompletesMulticast}
use Rattle.run_laws.proofs.RunSchedule.{run-schedule, run-within, run-kept}
use Rattle.run_laws.proofs.RunWindows.{begins, in_first}

-- under a scheduler whose pointers stay at ports, and whose shared pointer passes the heads that complete
pub heads-complete_by : (Moves : Moving) (scheduler : Scheduler)
    (plan : SwitchPlan) → IsScheduler scheduler → IsSchedulerBy Moves scheduler → ((level : ℕ) → KeepPointing Moves (ports_of plan) level)
    → ((level : ℕ) → PassHeads Moves (ports_of plan) level) → IsGood plan → (slots : ℕ) → CompletesUnder scheduler plan slots
heads-complete_by Moves scheduler plan scheduling moving keep pass good slots first level i j below inside few clean named =
    let n = ports_of plan in
    let slot = decided_under scheduler (setup_for plan) (posts_under scheduler plan) in
    let all = schedule_under scheduler plan slots in
    let part = take (2 * n) (drop first all) in
    let is : part ≡ map slot (range_with_len first (2 * n)) = middle slot first (2 * n) slots few in
    let window : IsWindowBy Moves n plan.rounds (0 + first) level (places_after (places_at_first n) (take first all)) part =
    part_is_window_by Moves n plan.rounds 0 level first (2 * n) (places_at_first n) all (keep level) (begins plan good level below)
    (run-schedule scheduler scheduling plan good Moves moving slots) (run-within scheduler scheduling plan good slots)
    (run-kept scheduler scheduling plan good slots) clean in
    let there : Names (row_of (slot first).rows i) level Multi j =
    subst (λ row. Names row level Multi j) (sym (row_of-slot_rows n (posts_under scheduler plan) first i inside)) named in
    let long : length part ≡ 2 * n = ap length is ∙ length-map-range_with_len slot first (2 * n) in
    completes_by Moves n plan.rounds (0 + first) level i (places_after (places_at_first n) (take first all)) part (keep level)
    (pass level) good.rounds.some inside window
    (subst (InFirst (λ rows. HasHead rows level i)) (sym is) (in_first (λ rows. HasHead rows level i) slot first (2 * n) (j, there))) (omega (arith, long))

-- under the board's scheduler
pub heads-complete : (plan : SwitchPlan) → IsGood plan → (slots : ℕ) → CompletesMulticast plan slots
heads-complete plan good slots =
    heads-complete_by AreMoved decision_of plan IsScheduler-decision_of IsSchedulerBy-decision_of (AreMoved-keep (ports_of plan))
    (AreMoved-pass (ports_of plan)) good slots
