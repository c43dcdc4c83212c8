-- A call for slots that follow each other, by what is passed and by what comes back.
use Rattle.std.specs.Prelude.{◌≡◌, ℕ, ◌+◌, ◌*◌, ◌%◌, ◌<◌, ◌≤◌, List, length, slice_index_or}
use Rattle.std.specs.List.{between}
use Rattle.slot_match.specs.declared.rows.Row.{Row}
use Rattle.slot_match.specs.Rows.{AreWithin}
use Rattle.slot_match.specs.Matches.{IsMatch, IsMaximal}
use Rattle.pointer_state.specs.Places.{Places}
use Rattle.pointer_state.specs.declared.caller_tables.PointerTables.{PointerTables}
use Rattle.pointer_state.specs.CallerTables.{AreInRange, places_from}
use Rattle.eslip_rounds.specs.Slots.{Decision}
use Rattle.scheduler_c.specs.declared.words.RoundsWords.{RoundsWords}
use Rattle.scheduler_c.specs.declared.feeds.FeedWords.{FeedWords}
use Rattle.scheduler_c.specs.Words.{IsSize}
use Rattle.scheduler_c.specs.Feeds.{AreFeeds, matched_from}
use Rattle.scheduler_c.specs.FourLevels.{decision_from}

-- of the words of all slots, n for each, those of slot s
abbrev pub of_slot : {A : Type 0} → ℕ → ℕ → List A → List A
of_slot n s words = between (s * n) (s * n + n) words

-- the number of the slot that is s slots later; numbers begin anew after the greatest
abbrev pub number_of : ℕ → ℕ → ℕ
number_of slot s = (slot + s) % 4294967296

-- of a slot that is not there, how its rounds were used
abbrev pub no_rounds : RoundsWords
no_rounds = record { used = 0; first = 0; last_added = 0 }

-- what is passed may be: for each slot there is a row for each of n inputs, which names none but the outputs, and
-- there are words for n outputs; and all pointers are at ports
pub record IsManyCall (n rounds : ℕ) (rows : List Row) (pointers : PointerTables) (feeds : List FeedWords) (used : List RoundsWords) : Type 0 where
  pub size : IsSize n rounds
  pub row_count : length rows ≡ length used * n
  pub within : (s : ℕ) → s < length used → AreWithin n (of_slot n s rows)
  pub in_range : AreInRange n pointers
  pub outputs : length feeds ≡ length used * n

-- one slot is decided as `is_slot` says, from pointers at `before`, and leaves them at `after`; the match is one, of words in
-- range, and maximal where the last round of all added nothing, and where there are n rounds
pub record IsDecided (is_slot : ℕ → ℕ → ℕ → List Row → Places → Decision → Type 0) (n rounds number : ℕ) (rows : List Row)
    (before : PointerTables) (feeds : List FeedWords) (used : RoundsWords) (after : PointerTables) : Type 0 where
  pub slot : is_slot n rounds number rows (places_from n before) (decision_from n feeds used after)
  pub are_feeds : AreFeeds n feeds
  pub whole : IsMatch n (matched_from feeds)
  pub unused : used.last_added ≡ 0 → IsMaximal n rows (matched_from feeds)
  pub enough : n ≤ rounds → IsMaximal n rows (matched_from feeds)

-- the first slots, so many, are decided one after the other: the first from pointers at `before`, each other from where the
-- one before it left them, and the last leaves them at `after`
pub record AreDecided (is_slot : ℕ → ℕ → ℕ → List Row → Places → Decision → Type 0) (slots n rounds slot : ℕ) (rows : List Row)
    (before : PointerTables) (feeds : List FeedWords) (used : List RoundsWords) (after : PointerTables) : Type 0 where
  pub tables : ℕ → PointerTables
  pub first : tables 0 ≡ before
  pub last : tables slots ≡ after
  pub each : (s : ℕ) → s < slots
      → IsDecided is_slot n rounds (number_of slot s) (of_slot n s rows) (tables s) (of_slot n s feeds) (slice_index_or used s no_rounds) (tables (s + 1))
