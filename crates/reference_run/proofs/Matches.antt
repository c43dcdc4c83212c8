-- The matches of a run, and the run as slots that serve what their rows name.
use Rattle.std.proofs.Common.{◌≡◌, ◌∙◌, ℕ, ◌+◌, ◌<◌, [], ◌∷◌, ◌++◌, map, length, slice_index_or, sym, ap, subst, arith}
use Rattle.std.specs.List.{range_with_len}
use Rattle.std.proofs.lemmas.List.FromFn.{length-map-range_with_len, get_or-map-range_with_len, map-range_with_len_more}
use Rattle.std.proofs.lemmas.Simd.{map-map}
use Rattle.rotating_pick.specs.declared.kinds.Kind.{Kind}
use Rattle.slot_match.specs.Rows.{Names, row_of as row_in, no_row}
use Rattle.slot_match.specs.Matches.{Serves, IsMatch}
use Rattle.slot_match.specs.Parts.{served_of}
use Rattle.eslip_rounds.specs.Schedulers.{Scheduler, IsScheduler}
use Rattle.crossbar.specs.declared.cards.Post.{Post}
use Rattle.slot_histories.specs.Slots.{decision_under}
use Rattle.slot_histories.specs.Answers.{JournalSlot}
use Rattle.card_core.specs.Posts.{row_at}
use Rattle.switch_plan.specs.GoodPlans.{SwitchPlan, IsGood, IsCountable}
use Rattle.run_laws.specs.Runs.{ports_of, setup_for, card_at, parts_under, posts_under, slot_under}
use Rattle.run_laws.specs.Ends.{IsLengthUnder}
use Rattle.run_laws.proofs.Base.{served-is, row_at-same, good-card, sound, is-slot, pair-named}
use Rattle.run_laws.proofs.RunEnds.{run_bound}
use Rattle.run_laws.proofs.RunWork.{total_admitted-le}
use Rattle.output_queued.specs.Switches.{Matched, match_at, served_in, AreCards, AreServed}
use Rattle.reference_run.specs.RunLines.{run_matches_under}
use Rattle.reference_run.specs.MeetingSteps.{run_rows_under}

module _ (scheduler : Scheduler) (plan : SwitchPlan) where
  -- the match of slot t
  abbrev pub match_of : ℕ → Matched
  match_of t = (decision_under scheduler (setup_for plan) (posts_under scheduler plan) t).matched

  pub matches-are : (slots : ℕ) → run_matches_under scheduler plan slots ≡ map match_of (range_with_len 0 slots)
  matches-are slots = map-map (λ (slot : JournalSlot). slot.matched) (slot_under scheduler plan) (range_with_len 0 slots)

  pub matches-long : (slots : ℕ) → length (run_matches_under scheduler plan slots) ≡ slots
  matches-long slots = ap length (matches-are slots) ∙ length-map-range_with_len match_of 0 slots

  pub match-is : (slots t : ℕ) → t < slots → match_at (run_matches_under scheduler plan slots) t ≡ match_of t
  match-is slots t below = ap (λ ms. slice_index_or ms t []) (matches-are slots) ∙ get_or-map-range_with_len match_of 0 slots t t [] below (omega arith)

  pub served-run : (slots i : ℕ) → served_in (run_matches_under scheduler plan slots) i ≡ parts_under scheduler plan i slots
  served-run slots i =
      let part = λ (m : Matched). served_of m i in
      ap (map part) (matches-are slots) ∙ map-map part match_of (range_with_len 0 slots) ∙ sym (served-is scheduler plan i slots)

  pub matches-more : (t : ℕ) → run_matches_under scheduler plan (t + 1) ≡ run_matches_under scheduler plan t ++ (slot_under scheduler plan t).matched ∷ []
  matches-more t = matches-are (t + 1) ∙ map-range_with_len_more match_of 0 t t (omega arith) ∙ ap (λ ms. ms ++ match_of t ∷ []) (sym (matches-are t))

  -- the rows of slot t
  pub rows-run : (t : ℕ)
      → run_rows_under scheduler plan t ≡ map (λ i. row_at (card_at plan i) (parts_under scheduler plan i t) t) (range_with_len 0 (ports_of plan))
  rows-run t = map-map (λ (post : Post). post.row) (λ i. posts_under scheduler plan i t) (range_with_len 0 (ports_of plan))

  pub row-run : (t i : ℕ) → i < ports_of plan → row_in (run_rows_under scheduler plan t) i ≡ (posts_under scheduler plan i t).row
  row-run t i inside = ap (λ r. row_in r i) (rows-run t)
      ∙ get_or-map-range_with_len (λ k. row_at (card_at plan k) (parts_under scheduler plan k t) t) 0 (ports_of plan) i i no_row inside (omega arith)

pub run-cards : (plan : SwitchPlan) → IsGood plan → AreCards plan.cards
run-cards plan good = record { good = λ i inside. (good-card plan good i inside).good; ports = λ i inside. (good-card plan good i inside).ports }

module _ (scheduler : Scheduler) (scheduling : IsScheduler scheduler) (plan : SwitchPlan) (good : IsGood plan) where
  pub run-whole : (t : ℕ) → IsMatch (ports_of plan) (match_of scheduler plan t)
  run-whole t = (sound scheduler scheduling plan good t).matches

  pub run-named : (t i j level : ℕ) (kind : Kind) → Serves (match_of scheduler plan t) i j level kind → Names (posts_under scheduler plan i t).row level kind j
  run-named t i j level kind pair = pair-named scheduler (setup_for plan) (posts_under scheduler plan) t (sound scheduler scheduling plan good t)
      (is-slot scheduler scheduling plan good t) i j level kind ((run-whole t).input_in i j level kind pair) pair

  pub run-served : (slots : ℕ) → AreServed plan.cards (run_matches_under scheduler plan slots)
  run-served slots =
      let long = matches-long scheduler plan slots in
      record {
        whole = λ t below. subst (IsMatch (ports_of plan)) (sym (match-is scheduler plan slots t (omega arith))) (run-whole t);
        named = λ t i j level kind below pair.
            let row : row_at (card_at plan i) (served_in (run_matches_under scheduler plan slots) i) t ≡ (posts_under scheduler plan i t).row =
            ap (λ served. row_at (card_at plan i) served t) (served-run scheduler plan slots i) ∙ row_at-same scheduler plan i t slots (omega arith) in
            subst (λ r. Names r level kind j) (sym row)
            (run-named t i j level kind (subst (λ m. Serves m i j level kind) (match-is scheduler plan slots t (omega arith)) pair));
      }

  -- ---- the run of a countable plan has fewer than 2^32 slots
  pub run-few : IsCountable plan → (slots : ℕ) → IsLengthUnder scheduler plan slots → slots < 4294967296
  run-few countable slots end =
      let bound = run_bound scheduler scheduling plan good slots end in
      let work = total_admitted-le scheduler plan slots in
      let few = countable.slots in
      let most = good.max_slots in
      omega arith
