-- The rows of a journal: they are within the ports, and are kept until they are served.
use Rattle.std.specs.Prelude.{ℕ, ◌+◌, ◌<◌, List, map, length, slice_index_or}
use Rattle.slot_match.specs.declared.rows.Row.{Row}
use Rattle.slot_match.specs.Rows.{row_of, AreWithin}
use Rattle.slot_match.specs.Keeping.{Keeps}
use Rattle.slot_histories.specs.Answers.{JournalSlot}
use Rattle.board_state.specs.Boards.{no_slot}

-- the rows that were posted for slot t, by card
abbrev pub rows_at : List JournalSlot → ℕ → List Row
rows_at slots t = map (λ post. post.row) (slice_index_or slots t no_slot).posts

-- The rows of each slot name none but the n ports, and the row that a card posts next keeps the one before, of
-- which the match served its pairs.
pub record AreJournalRows (n : ℕ) (slots : List JournalSlot) : Type 0 where
  pub within : (t : ℕ) → t < length slots → AreWithin n (rows_at slots t)
  pub kept : (i t : ℕ) → i < n → t + 1 < length slots
      → Keeps (slice_index_or slots t no_slot).matched i (row_of (rows_at slots t) i) (row_of (rows_at slots (t + 1)) i)
