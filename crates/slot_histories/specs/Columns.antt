-- A line card's column: what it posted and what it took, and what that tells of the card.
use Rattle.std.specs.Prelude.{◌≡◌, ℕ, zero, suc, ◌+◌, ◌<◌, ◌≤◌, ◌==◌, if◌then◌else◌, Bool, false, List, [], ◌∷◌, ◌++◌, length, Option, None, slice_get}
use Rattle.std.specs.Prelude.{slice_index_or}
use Rattle.std.specs.List.{list_any}
use Rattle.std.specs.Option.{option_and_then}
use Rattle.slot_match.specs.declared.rows.Row.{Row}
use Rattle.slot_match.specs.declared.matching.Served.{Served}
use Rattle.crossbar.specs.declared.cards.Post.{Post as CardPost}
use Rattle.crossbar.specs.declared.cards.Taken.{Taken}
use Rattle.slot_histories.specs.declared.events.Event.{Event}
use Rattle.slot_histories.specs.declared.events.Event.TheVariants.{Post, Decide, Take}
use Rattle.slot_histories.specs.Events.{Setup, posts_of, takes_of, posted, no_post}
use Rattle.slot_histories.specs.Slots.{is_done_before, taken_at, row_before, served_before}
use Rattle.slot_histories.specs.Answers.{takings_of}

-- A card's column: what it posted and what it took, each in order.
pub record Column : Type 0 where
  pub posts : List CardPost
  pub takings : List Taken

-- card i's column in the events at a board
abbrev pub column_of : Setup → ℕ → List Event → Column
column_of s i events = record { posts = posts_of i events; takings = takings_of s i events }

-- a column with a post more
abbrev pub with_post : Column → CardPost → Column
with_post column post = record column { posts = column.posts ++ post ∷ [] }

-- a column with a taking more
abbrev pub with_taking : Column → Taken → Column
with_taking column taken = record column { takings = column.takings ++ taken ∷ [] }

-- card i's column after these events and one event more
abbrev pub column_after : Setup → ℕ → List Event → Event → Column
column_after s i events (Post card post) = if card == i then with_post (column_of s i events) post else column_of s i events
column_after s i events Decide = column_of s i events
column_after s i events (Take card) =
    if card == i then with_taking (column_of s i events) (taken_at s (posted events) i (takes_of i events)) else column_of s i events

-- how many slots the card took
abbrev pub slots_taken : Column → ℕ
slots_taken column = length column.takings

-- whether it took the last slot of the run
abbrev pub has_ended : Column → Bool
has_ended column = list_any (λ taken. taken.done) column.takings

-- the row that it posted for the slot before the one that it is to post, or has posted and not taken
abbrev pub row_told : Column → Row
row_told column = row_before (λ i t. slice_index_or column.posts t no_post) 0 (slots_taken column)

-- what it was served in the last of its first k slots
abbrev pub part_told : ℕ → List Taken → Option Served
part_told zero takings = None
part_told (suc k) takings = option_and_then (λ taken. taken.served) (slice_get takings k)

-- what it was served in the slot that it took last
abbrev pub served_told : Column → Option Served
served_told column = part_told (slots_taken column) column.takings

-- After these events card i's column tells its slot, whether it is done, its last row and what it was served
-- last. It has posted each slot that it took, and at most one more and only where it is not done; and none
-- but the board's slots.
pub record IsTold (s : Setup) (i : ℕ) (events : List Event) (column : Column) : Type 0 where
  pub slot : takes_of i events ≡ slots_taken column
  pub done : is_done_before s.ports (posted events) (takes_of i events) ≡ has_ended column
  pub row : row_before (posted events) i (takes_of i events) ≡ row_told column
  pub served : served_before s (posted events) i (takes_of i events) ≡ served_told column
  pub posts_from : slots_taken column ≤ length column.posts
  pub posts_to : length column.posts ≤ slots_taken column + 1
  pub room : length column.posts ≤ s.max_slots
  pub going : slots_taken column < length column.posts → has_ended column ≡ false
