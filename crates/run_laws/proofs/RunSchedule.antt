-- The slots of a run are a schedule of rows that are kept.
use Rattle.std.proofs.Common.{◌≡◌, ℕ, suc, ◌+◌, ◌<◌, All, sym, subst, arith}
use Rattle.std.specs.Prelude.{slice_index_or}
use Rattle.std.proofs.lemmas.List.FromFn.{length-map-range_with_len, get_or-map-range_with_len}
use Rattle.slot_match.specs.Rows.{AreWithin}
use Rattle.slot_match.specs.Keeping.{KeepsRest, Keeps, Gives}
use Rattle.slot_match.proofs.KeepingParts.{KeepsRest-iff_keeps}
use Rattle.pointer_state.specs.Places.{places_at_first}
use Rattle.eslip_rounds.specs.Slots.{Moving}
use Rattle.eslip_rounds.specs.Schedules.{DecidedSlot, IsScheduleBy}
use Rattle.service_bound.specs.Windows.{AreKept}
use Rattle.eslip_rounds.specs.Schedulers.{Scheduler, IsSchedulerBy, IsScheduler}
use Rattle.slot_histories.specs.Slots.{decision_under, served_under}
use Rattle.slot_board.specs.Schedules.{decided_under}
use Rattle.slot_board.proofs.DecidedSlots.{IsSchedule-from, AreKept-from}
use Rattle.switch_plan.specs.GoodPlans.{SwitchPlan, IsGood}
use Rattle.run_laws.specs.Runs.{ports_of, setup_for, posts_under}
use Rattle.run_laws.specs.Sums.{schedule_under}
use Rattle.run_laws.proofs.Base.{accepted, within, sound, slot-moved}

module _ (scheduler : Scheduler) (scheduling : IsScheduler scheduler) (plan : SwitchPlan) (good : IsGood plan) where
  -- the row that a port posts next keeps the one before
  pub row-kept : (i t : ℕ) → i < ports_of plan
      → Keeps (decision_under scheduler (setup_for plan) (posts_under scheduler plan) t).matched i (posts_under scheduler plan i t).row
      (posts_under scheduler plan i (suc t)).row
  row-kept i t inside =
      let matches = (sound scheduler scheduling plan good t).matches in
      let keeps : KeepsRest (Gives (served_under scheduler (setup_for plan) (posts_under scheduler plan) i t)) (posts_under scheduler plan i t).row
      (posts_under scheduler plan i (suc t)).row = (accepted scheduler scheduling plan good i (suc t) inside).keeps in
      (KeepsRest-iff_keeps (ports_of plan) (decision_under scheduler (setup_for plan) (posts_under scheduler plan) t).matched matches i
      (posts_under scheduler plan i t).row (posts_under scheduler plan i (suc t)).row).0 keeps

  pub run-schedule : (Moves : Moving) → IsSchedulerBy Moves scheduler
      → (slots : ℕ) → IsScheduleBy Moves (ports_of plan) plan.rounds 0 (places_at_first (ports_of plan)) (schedule_under scheduler plan slots)
  run-schedule Moves moving slots =
      IsSchedule-from scheduler (setup_for plan) (posts_under scheduler plan) Moves 0 slots
      (λ k after below. slot-moved scheduler scheduling plan good Moves moving k)

  pub run-within : (slots : ℕ) → All (λ slot. AreWithin (ports_of plan) slot.rows) (schedule_under scheduler plan slots)
  run-within slots k d below =
      let long = length-map-range_with_len (decided_under scheduler (setup_for plan) (posts_under scheduler plan)) 0 slots in
      let here : slice_index_or (schedule_under scheduler plan slots) k d ≡ decided_under scheduler (setup_for plan) (posts_under scheduler plan) k =
      get_or-map-range_with_len (decided_under scheduler (setup_for plan) (posts_under scheduler plan)) 0 slots k k d (omega arith) (omega arith) in
      subst (λ (slot : DecidedSlot). AreWithin (ports_of plan) slot.rows) (sym here) (within scheduler scheduling plan good k)

  pub run-kept : (slots : ℕ) → AreKept (ports_of plan) (schedule_under scheduler plan slots)
  run-kept slots = AreKept-from scheduler (setup_for plan) (posts_under scheduler plan) 0 slots (λ k i after below inside.
      let next : suc k ≡ k + 1 = omega arith in
      subst (λ t. Keeps (decision_under scheduler (setup_for plan) (posts_under scheduler plan) k).matched i (posts_under scheduler plan i k).row
      (posts_under scheduler plan i t).row) next (row-kept i k inside))
