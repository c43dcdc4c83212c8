-- Slots of a run are windows of its schedule, in which a queue waits no longer than the longest service.
use Rattle.std.proofs.Common.{◌≡◌, ◌∙◌, ℕ, zero, suc, ◌+◌, ◌<◌, ◌≤◌, List, All, map, take, drop, length, refl, sym, ap, subst, arith}
use Rattle.std.specs.Prelude.{slice_index_or}
use Rattle.std.specs.List.{range_with_len}
use Rattle.std.proofs.lemmas.List.FromFn.{length-map-range_with_len, get_or-map-range_with_len}
use Rattle.std_lemmas.proofs.Ranges.{middle}
use Rattle.rotating_pick.specs.declared.kinds.Kind.{Kind}
use Rattle.rotating_pick.specs.declared.kinds.Kind.TheVariants.{Uni, Multi}
use Rattle.rotating_pick.specs.declared.limits.TheConstants.{LEVELS}
use Rattle.slot_match.specs.declared.rows.Row.{Row}
use Rattle.slot_match.specs.Rows.{Names, row_of}
use Rattle.pointer_state.specs.Places.{ArePointing, places_at_first}
use Rattle.pointer_state.proofs.Moves.{AreAtPorts-at_first}
use Rattle.eslip_rounds.specs.Slots.{Moving, AreMoved}
use Rattle.eslip_rounds.specs.Schedules.{DecidedSlot}
use Rattle.eslip_rounds.specs.Schedulers.{Scheduler, IsSchedulerBy, IsScheduler}
use Rattle.eslip_rounds.specs.Decisions.{decision_of}
use Rattle.eslip_rounds.proofs.Scheduling.{IsSchedulerBy-decision_of, IsScheduler-decision_of}
use Rattle.slot_histories.specs.Slots.{slot_rows}
use Rattle.slot_histories.proofs.PostedRows.{row_of-slot_rows}
use Rattle.slot_board.specs.Schedules.{decided_under, decided_slot}
use Rattle.service_bound.specs.Windows.{IsWindowBy, IsWindow, IsClean, IsWithoutMulticast, AreAtLineRate, InFirst, places_after}
use Rattle.service_bound.specs.Waits.{noted_of, longest_wait, longest_service_at_line_rate}
use Rattle.service_bound.proofs.PartsOfSchedules.{part_is_window}
use Rattle.service_bound.proofs.LineRateByRounds.{served_by_rounds_at_line_rate, longest_wait-below_at_line_rate}
use Rattle.card_core.specs.Plans.{level_of, kind_of, queue_of}
use Rattle.card_core.proofs.After.{level-queue}
use Rattle.switch_plan.specs.GoodPlans.{SwitchPlan, IsGood}
use Rattle.run_laws.specs.Runs.{ports_of, setup_for, card_at, parts_under, posts_under}
use Rattle.run_laws.specs.RunSteps.{posts_in, IsBestLevel}
use Rattle.run_laws.specs.Crossings.{queue_to}
use Rattle.run_laws.specs.Sums.{schedule_under, run_schedule, IsBestUnder}
use Rattle.run_laws.specs.Promises.{ServesWaiting}
use Rattle.run_laws.proofs.Base.{good-card}
use Rattle.run_laws.proofs.FlowCells.{level_to, kind_to}
use Rattle.run_laws.proofs.LineRate.{at-line_rate}
use Rattle.run_laws.proofs.RunSchedule.{run-schedule, run-within, run-kept}
use Rattle.run_laws.proofs.WaitingPackets.{named-waits, waiting-admitted}

-- ---- slots out of the middle

pub in_first : (P : List Row → Type 0) (f : ℕ → DecidedSlot) (first count : ℕ) → P (f first).rows → InFirst P (map f (range_with_len first count))
in_first P f first zero there = tt
in_first P f first (suc count) there = there

pub begins : (plan : SwitchPlan) → IsGood plan → (level : ℕ) → level < LEVELS → ArePointing (ports_of plan) level (places_at_first (ports_of plan))
unfolding places_at_first
begins plan good level below = (AreAtPorts-at_first (ports_of plan) good.size.some good.size.most).pointing level below

module _ (plan : SwitchPlan) (good : IsGood plan) where
  abbrev slot_at : ℕ → DecidedSlot
  slot_at = decided_slot (setup_for plan) (posts_in plan)

  pub served-in-window : (slots : ℕ) → ServesWaiting plan slots
  served-in-window slots first level i j below inside few quiet named =
      let n = ports_of plan in
      let count = longest_service_at_line_rate n plan.rounds in
      let part = take count (drop first (run_schedule plan slots)) in
      let is : part ≡ map slot_at (range_with_len first count) = middle slot_at first count slots few in
      let window : IsWindow n plan.rounds (0 + first) level (places_after (places_at_first n) (take first (run_schedule plan slots))) part =
      part_is_window n plan.rounds 0 level first count (places_at_first n) (run_schedule plan slots) good.size.some (begins plan good level below)
      (run-schedule decision_of IsScheduler-decision_of plan good AreMoved IsSchedulerBy-decision_of slots)
      (run-within decision_of IsScheduler-decision_of plan good slots) (run-kept decision_of IsScheduler-decision_of plan good slots)
      (λ k d short. (quiet k d short).0) in
      let there : Names (row_of (slot_at first).rows i) level Uni j =
      subst (λ row. Names row level Uni j) (sym (row_of-slot_rows n (posts_in plan) first i inside)) named in
      let long : length part ≡ count = ap length is ∙ length-map-range_with_len slot_at first count in
      let gains : AreAtLineRate n level part = subst (AreAtLineRate n level) (sym is) (at-line_rate decision_of plan good level first count) in
      served_by_rounds_at_line_rate n plan.rounds (0 + first) level i j
      (places_after (places_at_first n) (take first (run_schedule plan slots))) part good.rounds.some inside window (λ k d short. (quiet k d short).1) gains
      (subst (InFirst (λ rows. Names (row_of rows i) level Uni j)) (sym is) (in_first (λ rows. Names (row_of rows i) level Uni j) slot_at first count there))
      (omega arith)

-- ---- where no packet of a better level is admitted, and no multicast packet of the level
module _ (scheduler : Scheduler) (scheduling : IsScheduler scheduler) (plan : SwitchPlan) (good : IsGood plan) (slots level : ℕ)
    (best : IsBestUnder scheduler plan slots level) where
  abbrev slot_under : ℕ → DecidedSlot
  slot_under = decided_under scheduler (setup_for plan) (posts_under scheduler plan)

  -- what a row names is of an admitted packet of the level and the kind
  named_at : (u i there j : ℕ) (kind : Kind) → u < slots → i < ports_of plan → there < LEVELS
      → Names (row_of (slot_rows (ports_of plan) (posts_under scheduler plan) u) i) there kind j
      → (level ≤ there) × (there ≡ level → kind ≡ Uni)
  named_at u i there j kind early inside below named =
      let row : Names (posts_under scheduler plan i u).row there kind j =
      subst (λ row. Names row there kind j) (row_of-slot_rows (ports_of plan) (posts_under scheduler plan) u i inside) named in
      let waits = named-waits (card_at plan i) (good-card plan good i inside).good (parts_under scheduler plan i u) u j there kind row in
      let (p, admitted, is) = waiting-admitted scheduler scheduling plan good slots i u inside early (queue_to j there kind) waits in
      let levels : p.level ≡ there = sym (level-queue p) ∙ ap level_of (sym is) ∙ level_to j there kind in
      let kinds : kind ≡ kind_of (queue_of p) = sym (kind_to j there kind) ∙ ap kind_of is in
      let least = best.best i p inside admitted in
      (omega arith, λ same. kinds ∙ best.unicast i p inside admitted (levels ∙ same))

  clean_at : (u : ℕ) → u < slots → IsClean (ports_of plan) level (slot_rows (ports_of plan) (posts_under scheduler plan) u)
  clean_at u early i better j kind inside less named = let least = (named_at u i better j kind early inside (omega (arith, best.level_in)) named).0 in
      omega arith

  alone_at : (u : ℕ) → u < slots → IsWithoutMulticast (ports_of plan) level (slot_rows (ports_of plan) (posts_under scheduler plan) u)
  alone_at u early i j inside named = let kind : Multi ≡ Uni = (named_at u i level j Multi early inside best.level_in named).1 refl in cc

  all_slots : (P : List Row → Type 0) → ((u : ℕ) → u < slots → P (slot_rows (ports_of plan) (posts_under scheduler plan) u))
      → All (λ slot. P slot.rows) (schedule_under scheduler plan slots)
  all_slots P each k d short =
      let long = length-map-range_with_len slot_under 0 slots in
      let here : slice_index_or (schedule_under scheduler plan slots) k d ≡ slot_under k =
      get_or-map-range_with_len slot_under 0 slots k k d (omega arith) (omega arith) in
      subst (λ (slot : DecidedSlot). P slot.rows) (sym here) (each k (omega arith))

  -- the slots are a window, in which nothing of the level is multicast
  pub best-window : (Moves : Moving) → IsSchedulerBy Moves scheduler
      → IsWindowBy Moves (ports_of plan) plan.rounds 0 level (places_at_first (ports_of plan)) (schedule_under scheduler plan slots)
  best-window Moves moving = record {
    pointing = begins plan good level best.level_in;
    schedule = run-schedule scheduler scheduling plan good Moves moving slots;
    within = run-within scheduler scheduling plan good slots;
    kept = run-kept scheduler scheduling plan good slots;
    clean = all_slots (IsClean (ports_of plan) level) clean_at;
  }

  pub best-alone : All (λ slot. IsWithoutMulticast (ports_of plan) level slot.rows) (schedule_under scheduler plan slots)
  best-alone = all_slots (IsWithoutMulticast (ports_of plan) level) alone_at

pub waits-short : (plan : SwitchPlan) → IsGood plan → (slots level : ℕ) → IsBestLevel plan slots level
    → longest_wait (ports_of plan) level (map noted_of (run_schedule plan slots)) < longest_service_at_line_rate (ports_of plan) plan.rounds
waits-short plan good slots level best =
    longest_wait-below_at_line_rate (ports_of plan) plan.rounds 0 level (places_at_first (ports_of plan))
    (run_schedule plan slots) good.size.some good.rounds.some
    (best-window decision_of IsScheduler-decision_of plan good slots level best AreMoved IsSchedulerBy-decision_of)
    (best-alone decision_of IsScheduler-decision_of plan good slots level best)
    (at-line_rate decision_of plan good level 0 slots)
