-- Slot by slot, from what each card posts for each slot: `posts i t` is card i's post for slot t. What ends in `under`
-- is of any scheduler; the other names are of the scheduler of the board.
use Rattle.std.specs.Prelude.{ℕ, zero, suc, ◌||◌, not, Bool, false, List, map, Option, None}
use Rattle.std.specs.List.{range_with_len, list_all}
use Rattle.slot_match.specs.declared.rows.Row.{Row}
use Rattle.slot_match.specs.declared.matching.Served.{Served}
use Rattle.slot_match.specs.Rows.{empty_row}
use Rattle.slot_match.specs.Parts.{served_of}
use Rattle.pointer_state.specs.Places.{Places, places_at_first}
use Rattle.eslip_rounds.specs.Slots.{Decision}
use Rattle.eslip_rounds.specs.Schedulers.{Scheduler}
use Rattle.eslip_rounds.specs.Decisions.{decision_of}
use Rattle.cell_cutter.specs.declared.cell.Cell.{Cell}
use Rattle.crossbar.specs.Crossing.{fetched}
use Rattle.crossbar.specs.declared.cards.Post.{Post as CardPost}
use Rattle.crossbar.specs.declared.cards.Taken.{Taken}
use Rattle.slot_histories.specs.Events.{Setup}

-- all posts for slot t, by card
abbrev pub slot_posts : ℕ → (ℕ → ℕ → CardPost) → ℕ → List CardPost
slot_posts n posts t = map (λ i. posts i t) (range_with_len 0 n)

-- all rows of slot t, by card
abbrev pub slot_rows : ℕ → (ℕ → ℕ → CardPost) → ℕ → List Row
slot_rows n posts t = map (λ post. post.row) (slot_posts n posts t)

-- The pointers before slot t: all at port 0 before slot 0, and then those that the slot before left.
abbrev pub places_under : Scheduler → Setup → (ℕ → ℕ → CardPost) → ℕ → Places
places_under scheduler s posts zero = places_at_first s.ports
places_under scheduler s posts (suc t) = (scheduler s.ports s.rounds t (slot_rows s.ports posts t) (places_under scheduler s posts t)).places

abbrev pub places_at : Setup → (ℕ → ℕ → CardPost) → ℕ → Places
places_at = places_under decision_of

-- what slot t decides
abbrev pub decision_under : Scheduler → Setup → (ℕ → ℕ → CardPost) → ℕ → Decision
decision_under scheduler s posts t = scheduler s.ports s.rounds t (slot_rows s.ports posts t) (places_under scheduler s posts t)

abbrev pub decision_at : Setup → (ℕ → ℕ → CardPost) → ℕ → Decision
decision_at = decision_under decision_of

-- card i's part of slot t's match
abbrev pub served_under : Scheduler → Setup → (ℕ → ℕ → CardPost) → ℕ → ℕ → Option Served
served_under scheduler s posts i t = served_of (decision_under scheduler s posts t).matched i

abbrev pub served_at : Setup → (ℕ → ℕ → CardPost) → ℕ → ℕ → Option Served
served_at = served_under decision_of

-- whether slot t is the last of a run: no card has more
abbrev pub is_done_at : ℕ → (ℕ → ℕ → CardPost) → ℕ → Bool
is_done_at n posts t = list_all (λ post. not post.more) (slot_posts n posts t)

-- whether one of the first k slots is done
abbrev pub is_done_before : ℕ → (ℕ → ℕ → CardPost) → ℕ → Bool
is_done_before n posts zero = false
is_done_before n posts (suc k) = is_done_before n posts k || is_done_at n posts k

-- The cell that crosses to output j in slot t: what the input that fed it in the slot before posts now.
abbrev pub crossed_under : Scheduler → Setup → (ℕ → ℕ → CardPost) → ℕ → ℕ → Option Cell
crossed_under scheduler s posts j zero = None
crossed_under scheduler s posts j (suc t) = fetched (decision_under scheduler s posts t).matched (map (λ post. post.cell) (slot_posts s.ports posts (suc t))) j

abbrev pub crossed : Setup → (ℕ → ℕ → CardPost) → ℕ → ℕ → Option Cell
crossed = crossed_under decision_of

-- what card i takes of slot t
abbrev pub taken_under : Scheduler → Setup → (ℕ → ℕ → CardPost) → ℕ → ℕ → Taken
taken_under scheduler s posts i t = record {
  slot = t;
  served = served_under scheduler s posts i t;
  cell = crossed_under scheduler s posts i t;
  done = is_done_at s.ports posts t;
}

abbrev pub taken_at : Setup → (ℕ → ℕ → CardPost) → ℕ → ℕ → Taken
taken_at = taken_under decision_of

-- the row that card i posted for the slot before slot t, where there is one
abbrev pub row_before : (ℕ → ℕ → CardPost) → ℕ → ℕ → Row
row_before posts i zero = empty_row
row_before posts i (suc t) = (posts i t).row

-- what it was served there
abbrev pub served_before_under : Scheduler → Setup → (ℕ → ℕ → CardPost) → ℕ → ℕ → Option Served
served_before_under scheduler s posts i zero = None
served_before_under scheduler s posts i (suc t) = served_under scheduler s posts i t

abbrev pub served_before : Setup → (ℕ → ℕ → CardPost) → ℕ → ℕ → Option Served
served_before = served_before_under decision_of
