-- The notes of a run that grow by a slot.
use Rattle.std.proofs.Common.{◌≡◌, ◌<◌, ◌+◌, ◌++◌, ℕ, zero, suc, List, [], ◌∷◌, map, length, get_or, Option, None, Some, IfSome}
use Rattle.std.proofs.Common.{refl, sym, ap, subst, ◌∙◌, arith}
use Rattle.std.specs.List.{enumerate_from, range_with_len}
use Rattle.std.proofs.lemmas.List.{append-nil, length-map, map-append}
use Rattle.std.proofs.lemmas.List.Concat.{flat_map-append}
use Rattle.std.proofs.lemmas.List.FromFn.{length-map-range_with_len, get_or-map-range_with_len, map-range_with_len_more}
use Rattle.std_lemmas.proofs.Ranges.{map_range-same}
use Rattle.islip_rounds.specs.declared.numbers.RoundsUsed.{RoundsUsed}
use Rattle.crossbar.specs.declared.cards.Post.{Post}
use Rattle.eslip_rounds.specs.Schedulers.{Scheduler, IsScheduler}
use Rattle.eslip_rounds.specs.Decisions.{decision_of}
use Rattle.eslip_rounds.proofs.Scheduling.{IsScheduler-decision_of}
use Rattle.slot_match.specs.Parts.{served_of}
use Rattle.slot_match.specs.declared.rows.Row.{Row}
use Rattle.card_core.specs.Posts.{IsServable}
use Rattle.slot_histories.specs.Answers.{JournalSlot}
use Rattle.board_state.specs.Boards.{no_slot}
use Rattle.board_state.specs.declared.limits.TheConstants.{MAX_SLOTS}
use Rattle.slot_report.specs.Lines.{line_text, lines_text}
use Rattle.slot_report.specs.Texts.{journal_line, map_with_place, slot_line}
use Rattle.switch_plan.specs.GoodPlans.{SwitchPlan, IsGood}
use Rattle.run_laws.specs.Ends.{IsLengthUnder}
use Rattle.run_laws.specs.Runs.{journal_under, posts_under, run_journal, slot_under, IsSlotUnder}
use Rattle.run_laws.specs.RunSteps.{run_slot}
use Rattle.run_laws.proofs.Base.{requested}
use Rattle.run_laws.proofs.Limits.{slots_few}
use Rattle.run_laws.proofs.RunEnds.{run_bound}
use Rattle.run_laws.proofs.RunWork.{total_admitted-le}
use Rattle.journal_check.specs.Texts.{file_post, file_slot}
use Rattle.journal_check.specs.WritingSteps.{WriterValue}
use Rattle.run_journals.specs.RunFiles.{run_file_under}
use Rattle.output_queued.specs.Lines.{line_of, lines_of}
use Rattle.output_queued.specs.NotingSteps.{MayNote, State, cards_in}
use Rattle.output_queued.specs.Switches.{Matched}
use Rattle.reference_run.specs.MeetingSteps.{IsReferenceOf, run_rows_under}
use Rattle.reference_run.specs.RunLines.{run_matches_under}
use Rattle.reference_run.proofs.Told.{line-told}
use Rattle.run_sinks.specs.NotedSlots.{IsRunSlot}
use Rattle.run_notes.specs.NotingSteps.{HasNoted, IsJournalOf, IsKept, IsReferenceAfter, Notes}

-- f of each place and of what g makes there
places-range : {X Y : Type 0} (f : ℕ → X → Y) (g : ℕ → X) (a n : ℕ)
    → map (λ p. f p.0 p.1) (enumerate_from a (map g (range_with_len a n))) ≡ map (λ k. f k (g k)) (range_with_len a n)
places-range f g a zero = refl
places-range f g a (suc n) = ap (λ ys. f a (g a) ∷ ys) (places-range f g (a + 1) n)

-- the lines of a slot more
pub lines_more : (scheduler : Scheduler) (plan : SwitchPlan) (t : ℕ) → lines_text (map_with_place journal_line (journal_under scheduler plan (t + 1)))
    ≡ lines_text (map_with_place journal_line (journal_under scheduler plan t)) ++ line_text (journal_line t (slot_under scheduler plan t))
lines_more scheduler plan t =
    let g = slot_under scheduler plan in
    let h = λ (k : ℕ). journal_line k (slot_under scheduler plan k) in
    let place : 0 + t ≡ t = omega arith in
    ap lines_text (places-range journal_line g 0 (t + 1) ∙ map-range_with_len_more h 0 t t place)
    ∙ flat_map-append line_text (map h (range_with_len 0 t)) (h t ∷ [])
    ∙ ap (λ s. lines_text (map h (range_with_len 0 t)) ++ s) (append-nil (line_text (h t)))
    ∙ ap (λ lines. lines_text lines ++ line_text (h t)) (sym (places-range journal_line g 0 t))

-- the lines of the plan's reference are those of the run
pub lines_of_run : (scheduler : Scheduler) (plan : SwitchPlan) (slots : ℕ) (reference : State) → IsGood plan
    → IsReferenceOf plan reference (run_matches_under scheduler plan slots)
    → map (line_of (cards_in reference) (run_matches_under scheduler plan slots)) (range_with_len 0 reference.ports)
    ≡ lines_of plan.cards (run_matches_under scheduler plan slots)
lines_of_run scheduler plan slots reference good is =
    let matches = run_matches_under scheduler plan slots in
    ap (λ (n : ℕ). map (line_of (cards_in reference) matches) (range_with_len 0 n)) is.ports
    ∙ map_range-same (line_of (cards_in reference) matches) (line_of plan.cards matches) 0 (length plan.cards)
    (λ j below. line-told plan good reference matches is matches j)

-- the line that is told of a slot of the run is that slot's
pub line_of_slot : (scheduler : Scheduler) (plan : SwitchPlan) (t : ℕ) (posts : List Post) (matched : Matched) (numbers : RoundsUsed)
    → IsRunSlot scheduler plan t posts matched numbers → slot_line t numbers matched ≡ journal_line t (slot_under scheduler plan t)
line_of_slot scheduler plan t posts matched numbers is = ap (λ (n : RoundsUsed). slot_line t n matched) is.numbers_are
    ∙ ap (slot_line t (slot_under scheduler plan t).numbers) is.slot.matched_is

-- a slot of the run is that slot of its journal
pub posts_of_slot : (scheduler : Scheduler) (plan : SwitchPlan) (t : ℕ) (posts : List Post) (matched : Matched) → IsSlotUnder scheduler plan t posts matched
    → posts ≡ (slot_under scheduler plan t).posts
posts_of_slot scheduler plan t posts matched is = is.posts_are

-- the file of a slot more
pub file_more : (scheduler : Scheduler) (plan : SwitchPlan) (t : ℕ) (posts : List Post) (matched : Matched) → IsSlotUnder scheduler plan t posts matched
    → (run_file_under scheduler plan t).slots ++ (record { posts = map file_post posts; matched = matched }) ∷ []
    ≡ (run_file_under scheduler plan (t + 1)).slots
file_more scheduler plan t posts matched is =
    let place : 0 + t ≡ t = omega arith in
    let journal = journal_under scheduler plan t in
    sym (ap (map file_slot) (map-range_with_len_more (slot_under scheduler plan) 0 t t place)
    ∙ map-append file_slot journal (slot_under scheduler plan t ∷ [])
    ∙ ap (λ (p : List Post). map file_slot journal ++ (record { posts = map file_post p; matched = (slot_under scheduler plan t).matched }) ∷ [])
    (sym (posts_of_slot scheduler plan t posts matched is))
    ∙ ap (λ (m : Matched). map file_slot journal ++ (record { posts = map file_post posts; matched = m }) ∷ []) (sym is.matched_is))

-- the writer of a run's first slots may put a slot of the run
pub writer_below : (scheduler : Scheduler) (plan : SwitchPlan) (t slots : ℕ) → IsScheduler scheduler → IsLengthUnder scheduler plan slots → t < slots
    → (notes : Notes) → HasNoted scheduler plan notes t → IfSome notes.journal (λ writer. writer.slots < MAX_SLOTS)
writer_below scheduler plan t slots scheduling ends below notes noted = few notes.journal noted.journal where
  few : (journal : Option WriterValue) → IsKept notes.wanted.journal (IsJournalOf scheduler plan t) journal
      → IfSome journal (λ writer. writer.slots < MAX_SLOTS)
  few None kept = tt
  few (Some writer) kept =
      let most = slots_few plan noted.good (noted.burst (sym kept.there)) in
      let bound = run_bound scheduler scheduling plan noted.good slots ends in
      let work = total_admitted-le scheduler plan slots in
      let max = noted.good.max_slots in
      let count : length (run_file_under scheduler plan t).slots ≡ t = length-map (journal_under scheduler plan t) file_slot
      ∙ length-map-range_with_len (slot_under scheduler plan) 0 t in
      omega (arith, most, bound, work, max, count, kept.holds.slots)

-- the reference may note a slot that may come next
pub may_note_slot : (scheduler : Scheduler) (plan : SwitchPlan) (t : ℕ) (reference : Option State) (posts : List Post) (matched : Matched)
    → IsSlotUnder scheduler plan t posts matched
    → ((r : State) → IsReferenceAfter scheduler plan t r → MayNote r (run_rows_under scheduler plan t) (slot_under scheduler plan t).matched)
    → IfSome reference (IsReferenceAfter scheduler plan t) → IfSome reference (λ r. (rows : List Row) × MayNote r rows matched)
may_note_slot scheduler plan t None posts matched is may none = none
may_note_slot scheduler plan t (Some r) posts matched is may noted =
    (run_rows_under scheduler plan t, subst (MayNote r (run_rows_under scheduler plan t)) (sym is.matched_is) (may r noted))

-- the journal of a run has as many slots as the run
pub count_of_run : (plan : SwitchPlan) (slots : ℕ) (journal : List JournalSlot) → journal ≡ run_journal plan slots → length journal ≡ slots
count_of_run plan slots journal are = ap length are ∙ length-map-range_with_len (run_slot plan) 0 slots

-- what the journal tells of a slot is that slot of the run
pub slot_of_journal : (plan : SwitchPlan) (slots t : ℕ) (journal : List JournalSlot) → IsGood plan → journal ≡ run_journal plan slots → t < slots
    → IsRunSlot decision_of plan t (get_or journal t no_slot).posts (get_or journal t no_slot).matched (get_or journal t no_slot).numbers
slot_of_journal plan slots t journal good are below =
    let place : 0 + t ≡ t = omega arith in
    let slot : get_or journal t no_slot ≡ run_slot plan t =
    ap (λ (all : List JournalSlot). get_or all t no_slot) are ∙ get_or-map-range_with_len (run_slot plan) 0 slots t t no_slot below place in
    let matched_is = ap (λ (s : JournalSlot). s.matched) slot in
    record {
      slot = record {
        posts_are = ap (λ (s : JournalSlot). s.posts) slot;
        matched_is = matched_is;
        servable = λ i inside. subst (λ (m : Matched). IsServable (posts_under decision_of plan i t).row (served_of m i)) (sym matched_is)
            (requested decision_of IsScheduler-decision_of plan good i t inside);
      };
      numbers_are = ap (λ (s : JournalSlot). s.numbers) slot;
    }
