-- A queue of a run is served within its bound, or before the run's end: in the last slot none is posted.
use Rattle.std.proofs.Common.{◌≡◌, ◌∙◌, ℕ, zero, suc, ◌+◌, ◌-◌, ◌*◌, ◌<◌, ◌≤◌, true, List, All, Any, map, take, drop, length, ap, sym, subst, inl, inr, arith}
use Rattle.std.specs.List.{range_with_len}
use Rattle.std.proofs.lemmas.Bool.{cases_lt}
use Rattle.std.proofs.lemmas.List.{take_all, drop-map}
use Rattle.std.proofs.lemmas.List.FromFn.{length-map-range_with_len}
use Rattle.std_lemmas.proofs.Lists.{Any-here, Any-later}
use Rattle.std_lemmas.proofs.Ranges.{middle, drop-range}
use Rattle.rotating_pick.specs.declared.kinds.Kind.TheVariants.{Uni, Multi}
use Rattle.slot_match.specs.Rows.{Names, HasHead, row_of}
use Rattle.slot_match.specs.Matches.{Serves, Completes}
use Rattle.slot_match.proofs.Pairs.{Serves-decides}
use Rattle.pointer_state.specs.Places.{Places, places_at_first}
use Rattle.eslip_rounds.specs.Slots.{Moving, AreMoved}
use Rattle.eslip_rounds.specs.Schedules.{DecidedSlot}
use Rattle.eslip_rounds.specs.Schedulers.{Scheduler, IsSchedulerBy, IsScheduler}
use Rattle.eslip_rounds.specs.Decisions.{decision_of}
use Rattle.eslip_rounds.proofs.Deciding.{Completes-or}
use Rattle.eslip_rounds.proofs.Scheduling.{IsSchedulerBy-decision_of, IsScheduler-decision_of}
use Rattle.slot_histories.specs.Slots.{is_done_at}
use Rattle.slot_histories.proofs.PostedRows.{row_of-slot_rows}
use Rattle.slot_board.specs.Schedules.{decided_under}
use Rattle.service_bound.specs.Windows.{IsKeptScheduleBy, IsQuietFor, InFirst, places_after}
use Rattle.service_bound.specs.Waits.{longest_service_by}
use Rattle.service_bound.proofs.InWindows.{KeepPointing, AreMoved-keep}
use Rattle.service_bound.proofs.PartsOfSchedules.{part_is_kept_by}
use Rattle.service_bound.proofs.LineRateByRounds.{quiet_served_by_rounds}
use Rattle.switch_plan.specs.GoodPlans.{SwitchPlan, IsGood}
use Rattle.run_laws.specs.Runs.{ports_of, setup_for, posts_under}
use Rattle.run_laws.specs.Sums.{schedule_under}
use Rattle.run_laws.specs.Ends.{IsLengthUnder, IsLength}
use Rattle.run_laws.specs.Promises.{CompletesUnder}
use Rattle.run_laws.specs.InTime.{ServesInTimeUnder, CompletesInTimeUnder}
use Rattle.run_laws.proofs.Base.{within}
use Rattle.run_laws.proofs.Emptied.{last_post}
use Rattle.run_laws.proofs.RunSchedule.{row-kept, run-schedule, run-within, run-kept}
use Rattle.run_laws.proofs.RunWindows.{begins, in_first}
use Rattle.run_laws.proofs.RunCompletes.{heads-complete}

module _ (scheduler : Scheduler) (scheduling : IsScheduler scheduler) (plan : SwitchPlan) (good : IsGood plan) where
  abbrev slot_at : ℕ → DecidedSlot
  slot_at = decided_under scheduler (setup_for plan) (posts_under scheduler plan)

  -- ---- before the end
  module _ (last level i : ℕ) (inside : i < ports_of plan) (done : is_done_at (ports_of plan) (posts_under scheduler plan) last ≡ true) where
    served_by_end : (j k first : ℕ) → first + k ≡ last → Names (posts_under scheduler plan i first).row level Uni j
        → Any (λ slot. Serves slot.decision.matched i j level Uni) (map slot_at (range_with_len first (suc k)))
    served_by_end j zero first at named =
        let end : first ≡ last = omega arith in
        absurd (last_post scheduler scheduling plan good i last inside done level j Uni
        (subst (λ t. Names (posts_under scheduler plan i t).row level Uni j) end named))
    served_by_end j (suc k) first at named =
        let Served : DecidedSlot → Type 0 = λ slot. Serves slot.decision.matched i j level Uni in
        let rest = map slot_at (range_with_len (first + 1) (suc k)) in
        let next : suc first ≡ first + 1 = omega arith in
        elim (Serves-decides (slot_at first).decision.matched i j level Uni) [
          | inl served ↦ Any-here Served (slot_at first) rest served
          | inr left ↦ Any-later Served (slot_at first) rest (served_by_end j k (first + 1) (omega arith)
              (subst (λ t. Names (posts_under scheduler plan i t).row level Uni j) next
              ((row-kept scheduler scheduling plan good i first inside).uni level j named left)))
        ]

    completed_by_end : (j k first : ℕ) → first + k ≡ last → Names (posts_under scheduler plan i first).row level Multi j
        → Any (λ slot. HasHead slot.rows level i × Completes slot.rows slot.decision.matched level i) (map slot_at (range_with_len first (suc k)))
    completed_by_end j zero first at named =
        let end : first ≡ last = omega arith in
        absurd (last_post scheduler scheduling plan good i last inside done level j Multi
        (subst (λ t. Names (posts_under scheduler plan i t).row level Multi j) end named))
    completed_by_end j (suc k) first at named =
        let n = ports_of plan in
        let Done : DecidedSlot → Type 0 = λ slot. HasHead slot.rows level i × Completes slot.rows slot.decision.matched level i in
        let rest = map slot_at (range_with_len (first + 1) (suc k)) in
        let next : suc first ≡ first + 1 = omega arith in
        let same = row_of-slot_rows n (posts_under scheduler plan) first i inside in
        elim (Completes-or n (slot_at first).rows (slot_at first).decision.matched level i (within scheduler scheduling plan good first) inside) [
          | inl done ↦ Any-here Done (slot_at first) rest ((j, subst (λ row. Names row level Multi j) (sym same) named), done)
          | inr more ↦
              let other = more.0 in
              let asked = subst (λ row. Names row level Multi other) same more.1 in
              Any-later Done (slot_at first) rest (completed_by_end other k (first + 1) (omega arith)
              (subst (λ t. Names (posts_under scheduler plan i t).row level Multi other) next
              (((row-kept scheduler scheduling plan good i first inside).multi level other asked more.2 other).1 (asked, more.2))))
        ]

  -- the slots of a run from one on, of which there are fewer than so many
  rest_of : (slots first bound k : ℕ) → slots ≡ first + suc k → slots < first + bound
      → take bound (drop first (schedule_under scheduler plan slots)) ≡ map slot_at (range_with_len first (suc k))
  rest_of slots first bound k count few =
      let all : drop first (schedule_under scheduler plan slots) ≡ map slot_at (range_with_len first (suc k)) =
      drop-map slot_at first (range_with_len 0 slots)
      ∙ ap (map slot_at) (drop-range first 0 slots (omega arith) ∙ ap (λ a. range_with_len a (slots - first)) (let e : 0 + first ≡ first = omega arith in e)
      ∙ ap (range_with_len first) (let e : slots - first ≡ suc k = omega arith in e)) in
      let long : length (drop first (schedule_under scheduler plan slots)) ≡ suc k = ap length all ∙ length-map-range_with_len slot_at first (suc k) in
      take_all bound (drop first (schedule_under scheduler plan slots)) (omega arith) ∙ all

-- ---- within the bound, or before the end
-- A scheduler that moves its pointers so that in so many slots in a row, in which nothing better is posted for its output, a
-- unicast queue that is posted in the first is served.
pub record ServesQuiet (Moves : Moving) (scheduler : Scheduler) (n rounds bound : ℕ) : Type 0 where
  pub scheduling : IsScheduler scheduler
  pub moving : IsSchedulerBy Moves scheduler
  pub keep : (level : ℕ) → KeepPointing Moves n level
  pub enough : (t level i j : ℕ) (places : Places) (part : List DecidedSlot) → i < n → IsKeptScheduleBy Moves n rounds t level places part
      → All (λ slot. IsQuietFor n level j slot.rows) part → InFirst (λ rows. Names (row_of rows i) level Uni j) part → bound ≤ length part
      → Any (λ slot. Serves slot.decision.matched i j level Uni) part

pub serves-in_time_by : (Moves : Moving) (scheduler : Scheduler) (plan : SwitchPlan) (bound : ℕ)
    → ServesQuiet Moves scheduler (ports_of plan) plan.rounds bound → IsGood plan → (slots : ℕ) → IsLengthUnder scheduler plan slots
    → ServesInTimeUnder scheduler plan slots bound
serves-in_time_by Moves scheduler plan bound serves good slots ends first level i j below inside early quiet named =
    let scheduling = serves.scheduling in
    let n = ports_of plan in
    let slot = decided_under scheduler (setup_for plan) (posts_under scheduler plan) in
    let all = schedule_under scheduler plan slots in
    let count = ends.count in
    elim (cases_lt slots (first + bound)) [
      | inl few ↦
          let k = ends.last - first in
          subst (Any (λ slot. Serves slot.decision.matched i j level Uni))
          (sym (rest_of scheduler scheduling plan good slots first bound k (omega arith) few))
          (served_by_end scheduler scheduling plan good ends.last level i inside ends.done j k first (omega arith) named)
      | inr many ↦
          let part = take bound (drop first all) in
          let is : part ≡ map slot (range_with_len first bound) = middle slot first bound slots many in
          let whole : IsKeptScheduleBy Moves n plan.rounds 0 level (places_at_first n) all = record {
            pointing = begins plan good level below;
            schedule = run-schedule scheduler scheduling plan good Moves serves.moving slots;
            within = run-within scheduler scheduling plan good slots;
            kept = run-kept scheduler scheduling plan good slots;
          } in
          let there : Names (row_of (slot first).rows i) level Uni j =
          subst (λ row. Names row level Uni j) (sym (row_of-slot_rows n (posts_under scheduler plan) first i inside)) named in
          let long : length part ≡ bound = ap length is ∙ length-map-range_with_len slot first bound in
          serves.enough (0 + first) level i j (places_after (places_at_first n) (take first all)) part inside
          (part_is_kept_by Moves n plan.rounds 0 level first bound (places_at_first n) all (serves.keep level) whole) quiet
          (subst (InFirst (λ rows. Names (row_of rows i) level Uni j)) (sym is)
          (in_first (λ rows. Names (row_of rows i) level Uni j) slot first bound there)) (omega arith)
    ]

pub serves-in_time : (plan : SwitchPlan) (slots : ℕ) → IsGood plan → IsLength plan slots
    → ServesInTimeUnder decision_of plan slots (longest_service_by (ports_of plan) plan.rounds)
serves-in_time plan slots good =
    serves-in_time_by AreMoved decision_of plan (longest_service_by (ports_of plan) plan.rounds)
    (record {
      scheduling = IsScheduler-decision_of;
      moving = IsSchedulerBy-decision_of;
      keep = AreMoved-keep (ports_of plan);
      enough = λ t level i j places part. quiet_served_by_rounds (ports_of plan) plan.rounds t level i j places part good.rounds.some;
    }) good slots

pub completes-in_time_by : (scheduler : Scheduler) (plan : SwitchPlan) → IsScheduler scheduler → IsGood plan → (slots : ℕ) → CompletesUnder scheduler plan slots
    → IsLengthUnder scheduler plan slots → CompletesInTimeUnder scheduler plan slots
completes-in_time_by scheduler plan scheduling good slots completes ends first level i j below inside early clean named =
    let count = ends.count in
    elim (cases_lt slots (first + 2 * ports_of plan)) [
      | inl few ↦
          let k = ends.last - first in
          subst (Any (λ slot. HasHead slot.rows level i × Completes slot.rows slot.decision.matched level i))
          (sym (rest_of scheduler scheduling plan good slots first (2 * ports_of plan) k (omega arith) few))
          (completed_by_end scheduler scheduling plan good ends.last level i inside ends.done j k first (omega arith) named)
      | inr many ↦ completes first level i j below inside many clean named
    ]

pub completes-in_time : (plan : SwitchPlan) (slots : ℕ) → IsGood plan → IsLength plan slots → CompletesInTimeUnder decision_of plan slots
completes-in_time plan slots good = completes-in_time_by decision_of plan IsScheduler-decision_of good slots (heads-complete plan good slots)
