-- The journal of what was decided.
use Rattle.std.proofs.Common.{◌≡◌, ◌∙◌, ℕ, ◌+◌, ◌<◌, List, length, map, ap, sym, subst, arith, slice_index_or}
use Rattle.std.proofs.lemmas.List.FromFn.{length-map-range_with_len, get_or-map-range_with_len}
use Rattle.slot_match.specs.Rows.{row_of, AreWithin}
use Rattle.slot_match.specs.Keeping.{Keeps}
use Rattle.slot_histories.specs.declared.events.Event.{Event}
use Rattle.slot_histories.specs.Events.{Setup, decides, posted}
use Rattle.slot_histories.specs.Slots.{slot_rows, decision_at}
use Rattle.slot_histories.specs.Legal.{IsLegal}
use Rattle.slot_histories.specs.Answers.{JournalSlot, journal_slot, journal_of}
use Rattle.slot_histories.proofs.PostedRows.{row_of-slot_rows, rows_within}
use Rattle.slot_histories.proofs.SoundDecisions.{rows_kept}
use Rattle.board_state.specs.Boards.{BoardValue, JournalValue, IsSetup, no_slot, board_journal}
use Rattle.board_state.specs.JournalRows.{rows_at, AreJournalRows}

module _ (board : BoardValue) {journal : JournalValue} (is : board_journal board ≡ journal) where
  pub slots_are : length journal.slots ≡ decides board.events
  slots_are =
      let long = length-map-range_with_len (journal_slot board.setup (posted board.events)) 0 (decides board.events) in
      subst (λ (j : JournalValue). length j.slots ≡ decides board.events) is long

  pub is_decided : (t : ℕ) → t < length journal.slots → t < decides board.events
  is_decided t below = omega (arith, below, slots_are)

  pub slot_is :
      (t : ℕ) → t < length journal.slots →
      journal_slot board.setup (posted board.events) t ≡ slice_index_or journal.slots t no_slot
  slot_is t below =
      let slot = journal_slot board.setup (posted board.events) in
      sym (get_or-map-range_with_len slot 0 (decides board.events) t t no_slot (is_decided t below) (omega arith))
      ∙ ap (λ (j : JournalValue). slice_index_or j.slots t no_slot) is

-- the rows of the journal of a legal list
module _ (s : Setup) (events : List Event) (setup : IsSetup s) (legal : IsLegal s events) where
  long : length (journal_of s events) ≡ decides events
  long = length-map-range_with_len (journal_slot s (posted events)) 0 (decides events)

  slot_at : (t : ℕ) → t < decides events → slice_index_or (journal_of s events) t no_slot ≡ journal_slot s (posted events) t
  slot_at t below = get_or-map-range_with_len (journal_slot s (posted events)) 0 (decides events) t t no_slot below (omega arith)

  rows_are : (t : ℕ) → t < decides events → rows_at (journal_of s events) t ≡ slot_rows s.ports (posted events) t
  rows_are t below = ap (λ (slot : JournalSlot). map (λ post. post.row) slot.posts) (slot_at t below)

  row_is : (i t : ℕ) → i < s.ports → t < decides events → (posted events i t).row ≡ row_of (rows_at (journal_of s events) t) i
  row_is i t inside below = sym (ap (λ rows. row_of rows i) (rows_are t below) ∙ row_of-slot_rows s.ports (posted events) t i inside)

  pub AreJournalRows-legal : AreJournalRows s.ports (journal_of s events)
  AreJournalRows-legal =
      record {
        within = λ t below. let decided : t < decides events = omega (arith, long) in
            subst (AreWithin s.ports) (sym (rows_are t decided)) (rows_within s events t legal decided);
        kept = λ i t inside below.
            let next : t + 1 < decides events = omega (arith, long) in
            let now : t < decides events = omega arith in
            let matched = sym (ap (λ (slot : JournalSlot). slot.matched) (slot_at t now)) in
            let keeps = rows_kept s events i t setup.ports_some setup.ports_few legal next inside in
            subst (λ m. Keeps m i (row_of (rows_at (journal_of s events) t) i) (row_of (rows_at (journal_of s events) (t + 1)) i)) matched
            (subst (λ row. Keeps (decision_at s (posted events) t).matched i row (row_of (rows_at (journal_of s events) (t + 1)) i)) (row_is i t inside now)
            (subst (λ row. Keeps (decision_at s (posted events) t).matched i (posted events i t).row row) (row_is i (t + 1) inside next) keeps));
      }
