-- Which events may come next, and which lists of events are legal.
use Rattle.std.specs.Prelude.{◌≡◌, ℕ, ◌+◌, ◌<◌, ◌⊎◌, true, false, List, [], ◌∷◌, ◌++◌, length, Option, None, Some}
use Rattle.slot_match.specs.declared.rows.Row.{Row}
use Rattle.slot_match.specs.declared.matching.Served.{Served}
use Rattle.slot_match.specs.Rows.{IsWithin, IsOfLevels, IsEmptyRow}
use Rattle.slot_match.specs.Keeping.{KeepsRest, Gives}
use Rattle.cell_cutter.specs.declared.cell.Cell.{Cell}
use Rattle.cell_cutter.specs.Cells.{IsCellForm}
use Rattle.crossbar.specs.declared.cards.Post.{Post as CardPost}
use Rattle.slot_histories.specs.declared.events.Event.{Event}
use Rattle.slot_histories.specs.declared.events.Event.TheVariants.{Post, Decide, Take}
use Rattle.slot_histories.specs.Events.{Setup, posts_of, takes_of, decides, posted}
use Rattle.slot_histories.specs.Slots.{is_done_before, row_before, served_before}

-- The card posts a cell exactly where it was served in the slot before: one of its own, of the served level and kind.
abbrev pub IsGrantedCell : ℕ → Option Served → Option Cell → Type 0
IsGrantedCell card None None = Unit {0}
IsGrantedCell card None (Some cell) = ⊥
IsGrantedCell card (Some served) None = ⊥
IsGrantedCell card (Some served) (Some cell) = IsCellForm cell × (cell.input ≡ card) × (cell.level ≡ served.level) × (cell.kind ≡ served.kind)

-- The post is accepted from the card, which posted `last` for the slot before and was served there so: it names
-- none but the n ports, keeps what was not served, has the cell that was granted, and says that more is to
-- come where it names an output.
pub record IsAccepted (n card : ℕ) (last : Row) (served : Option Served) (post : CardPost) : Type 0 where
  pub within : IsWithin n post.row
  pub levels : IsOfLevels post.row
  pub keeps : KeepsRest (Gives served) last post.row
  pub cell : IsGrantedCell card served post.cell
  pub more : IsEmptyRow post.row ⊎ (post.more ≡ true)

-- After these events the card may post: it has taken all that it posted and no slot that is done, there is a
-- slot left, and the post is accepted.
pub record MayPost (s : Setup) (events : List Event) (card : ℕ) (post : CardPost) : Type 0 where
  pub card_in : card < s.ports
  pub taken : takes_of card events ≡ length (posts_of card events)
  pub room : length (posts_of card events) < s.max_slots
  pub not_done : is_done_before s.ports (posted events) (takes_of card events) ≡ false
  pub accepted : IsAccepted s.ports card (row_before (posted events) card (takes_of card events))
      (served_before s (posted events) card (takes_of card events)) post

-- After these events the next slot may be decided: all cards have posted for it.
abbrev pub MayDecide : Setup → List Event → Type 0
MayDecide s events = (i : ℕ) → i < s.ports → length (posts_of i events) ≡ decides events + 1

-- After these events the card may take: the slot that it posted for is decided.
pub record MayTake (s : Setup) (events : List Event) (card : ℕ) : Type 0 where
  pub card_in : card < s.ports
  pub posted : takes_of card events < length (posts_of card events)
  pub decided : takes_of card events < decides events

-- after these events this one may come
abbrev pub Allows : Setup → List Event → Event → Type 0
Allows s events (Post card post) = MayPost s events card post
Allows s events Decide = MayDecide s events
Allows s events (Take card) = MayTake s events card

-- each of the further events may come after those before it
abbrev pub IsLegalAfter : Setup → List Event → List Event → Type 0
IsLegalAfter s events [] = Unit {0}
IsLegalAfter s events (event ∷ more) = Allows s events event × IsLegalAfter s (events ++ event ∷ []) more

-- a legal list of events: each may come after those before it
abbrev pub IsLegal : Setup → List Event → Type 0
IsLegal s events = IsLegalAfter s [] events
