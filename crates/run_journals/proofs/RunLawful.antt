-- The journal of a run is a lawful file: the run's posts are accepted, and its last slot alone is done.
use Rattle.std.proofs.Common.{◌≡◌, ℕ, zero, suc, ◌<◌, ◌≤◌, not, true, List, map, refl, sym, ap, arith, ◌∙◌}
use Rattle.std.specs.List.{range_with_len}
use Rattle.std.proofs.lemmas.List.FromFn.{length-map-range_with_len}
use Rattle.std.proofs.lemmas.Simd.{map-map}
use Rattle.std_lemmas.proofs.Ranges.{map_range-same}
use Rattle.rotating_pick.specs.declared.limits.TheConstants.{LEVELS}
use Rattle.slot_match.specs.declared.rows.Row.{Row}
use Rattle.eslip_rounds.specs.Schedulers.{Scheduler, IsScheduler}
use Rattle.board_state.specs.Boards.{IsSetup}
use Rattle.service_bound.specs.Waits.{NotedSlot, noted_of, longest_wait}
use Rattle.slot_board.specs.Schedules.{decided_under}
use Rattle.card_core.specs.Posts.{unis_at, rest_at}
use Rattle.switch_plan.specs.GoodPlans.{SwitchPlan, IsGood, IsBurst}
use Rattle.run_laws.specs.Runs.{ports_of, setup_for, card_at, parts_under, posts_under, slot_under}
use Rattle.run_laws.specs.Ends.{IsLengthUnder}
use Rattle.run_laws.specs.Sums.{schedule_under}
use Rattle.run_laws.proofs.Base.{accepted, sound}
use Rattle.run_laws.proofs.FirstDone.{not_done, one_length}
use Rattle.run_laws.proofs.RunEnds.{run_ends}
use Rattle.run_laws.specs.Outcomes.{summary_under}
use Rattle.run_laws.proofs.Limits.{slots_some, slots_few, slots_halved}
use Rattle.journal_check.specs.declared.verdict.Verdict.TheVariants.{Yes}
use Rattle.journal_check.specs.Texts.{file_slot, HasLevels, IsFile}
use Rattle.journal_check.specs.Verdicts.{noted_of as noted_in, longest_waits, yes_on}
use Rattle.journal_check.specs.Lawful.{IsLawfulUnder}
use Rattle.journal_check.proofs.SlotsLawful.{AreWhole, going_before, slot as slot_of, rows-slot, count_slots, slots_lawful, slots_are_file}
use Rattle.run_journals.specs.RunFiles.{run_file_under}

module _ (scheduler : Scheduler) (scheduling : IsScheduler scheduler) (plan : SwitchPlan) (good : IsGood plan) (slots : ℕ)
    (ends : IsLengthUnder scheduler plan slots) where
  last_is : slots ≡ suc ends.last
  last_is = let count = ends.count in omega arith

  goes : (t : ℕ) → t < slots → going_before (ports_of plan) (posts_under scheduler plan) t ≡ true
  goes zero below = refl
  goes (suc t) below = ap not (not_done (ports_of plan) (posts_under scheduler plan) ends.last t (omega (arith, last_is)) ends.going)

  whole : AreWhole scheduler (setup_for plan) (posts_under scheduler plan) slots
  whole = record {
    accepted = λ i t inside below. accepted scheduler scheduling plan good i t inside;
    matches = λ t below. (sound scheduler scheduling plan good t).matches;
    going = goes;
    ended = ap (going_before (ports_of plan) (posts_under scheduler plan)) last_is ∙ ap not ends.done;
  }

  pub run_lawful : IsLawfulUnder scheduler (run_file_under scheduler plan slots)
  run_lawful = slots_lawful scheduler (setup_for plan) (posts_under scheduler plan) slots whole

  is_setup : IsBurst plan → IsSetup (setup_for plan)
  is_setup burst = record {
    ports_some = good.size.some;
    ports_few = good.size.most;
    rounds_some = good.rounds.some;
    rounds_few = good.rounds.most;
    slots_some = slots_some plan good burst;
    slots_few = slots_few plan good burst;
    slots_halved = slots_halved plan good burst;
  }

  few : slots ≤ plan.max_slots
  few =
      let run = run_ends scheduler scheduling plan good in
      let same = one_length scheduler plan slots run.0 ends run.1 in
      omega (arith, run.2)

  four_levels : (i t : ℕ) → HasLevels (posts_under scheduler plan i t).row
  four_levels i t = record {
    uni = length-map-range_with_len (unis_at (card_at plan i) (parts_under scheduler plan i t) t) 0 LEVELS;
    multi = length-map-range_with_len (rest_at (card_at plan i) (parts_under scheduler plan i t) t) 0 LEVELS;
  }

  pub run_is_file : IsBurst plan → IsFile (run_file_under scheduler plan slots)
  run_is_file burst =
      slots_are_file scheduler (setup_for plan) (posts_under scheduler plan) slots whole (is_setup burst) few (λ i t inside below. four_levels i t)

-- ---- what is told of the file is what the summary tells of the run
module _ (scheduler : Scheduler) (plan : SwitchPlan) (slots : ℕ) where
  -- what is noted of a slot for the waits is the same of the file and of the run
  noted-same : map noted_in (run_file_under scheduler plan slots).slots ≡ map noted_of (schedule_under scheduler plan slots)
  noted-same =
      let slot = slot_of scheduler (setup_for plan) (posts_under scheduler plan) in
      let decided = decided_under scheduler (setup_for plan) (posts_under scheduler plan) in
      let all = range_with_len 0 slots in
      ap (map noted_in) (map-map file_slot (slot_under scheduler plan) all)
      ∙ map-map noted_in slot all
      ∙ map_range-same (λ (t : ℕ). noted_in (slot t)) (λ (t : ℕ). noted_of (decided t)) 0 slots
      (λ t below. ap (λ (rows : List Row). let noted : NotedSlot = record { rows = rows; matched = (slot t).matched } in noted)
      (rows-slot scheduler (setup_for plan) (posts_under scheduler plan) t))
      ∙ sym (map-map noted_of decided all)

  pub yes_told : yes_on (run_file_under scheduler plan slots) ≡ Yes slots (summary_under scheduler plan slots).longest
  unfolding longest_waits summary_under
  yes_told =
      ap (λ (n : ℕ). Yes n (longest_waits (run_file_under scheduler plan slots))) (count_slots scheduler (setup_for plan) (posts_under scheduler plan) slots)
      ∙ ap (λ (noted : List NotedSlot). Yes slots (map (λ (level : ℕ). longest_wait (ports_of plan) level noted) (range_with_len 0 LEVELS))) noted-same
