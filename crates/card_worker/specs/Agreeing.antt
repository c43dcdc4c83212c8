-- Hands that agree with a card's column at a board.
use Rattle.std.specs.Prelude.{◌≡◌, ◌⊎◌, ◌<◌, ℕ, true, List, [], ◌∷◌, ◌++◌, length, slice_index_or, Option, None, Some}
use Rattle.crossbar.specs.declared.cards.Post.{Post}
use Rattle.crossbar.specs.declared.cards.Taken.{Taken}
use Rattle.slot_histories.specs.Events.{Setup, no_post}
use Rattle.slot_histories.specs.Columns.{Column}
use Rattle.slot_board.specs.Columns.{slots_posted}
use Rattle.card_core.specs.Plans.{Plan}
use Rattle.card_core.specs.Posts.{post_at}
use Rattle.card_core.specs.Cards.{CardState, Received, IsAfter, MayReceiveAny, served_in}
use Rattle.card_worker.specs.declared.hands.Hand.{Hand}

-- the taking without its cell
abbrev pub without_cell : Taken → Taken
without_cell taken = record { slot = taken.slot; served = taken.served; cell = None; done = taken.done }

-- What a card with these receipts is given of a taking: all of it, or all but a cell that may not be put.
abbrev pub IsFitted : Received → Taken → Taken → Type 0
IsFitted received taken given = (MayReceiveAny received taken.cell × (given ≡ taken)) ⊎ ((MayReceiveAny received taken.cell → ⊥) × (given ≡ without_cell taken))

-- A card of the plan that was given those before, and has posted since, is given this of the taking.
pub record IsGiven (plan : Plan) (before : List Taken) (taken given : Taken) : Type 0 where
  pub card : CardState
  pub plan_is : card.sends.plan ≡ plan
  pub after : IsAfter card before true
  pub fitted : IsFitted card.receives taken given

-- what a card is given of these takings, one by one, after what it was given before
abbrev pub AreGivenAfter : Plan → List Taken → List Taken → List Taken → Type 0
AreGivenAfter plan before [] [] = Unit {0}
AreGivenAfter plan before [] (one ∷ given) = ⊥
AreGivenAfter plan before (taken ∷ takings) [] = ⊥
AreGivenAfter plan before (taken ∷ takings) (one ∷ given) = IsGiven plan before taken one × AreGivenAfter plan (before ++ one ∷ []) takings given

-- what a card is given of all takings
abbrev pub AreGiven : Plan → List Taken → List Taken → Type 0
AreGiven plan takings given = AreGivenAfter plan [] takings given

-- the column's posts are those of the plan, over what the column was served
abbrev pub IsDriven : Plan → Column → Type 0
IsDriven plan column = (t : ℕ) → t < length column.posts → slice_index_or column.posts t no_post ≡ post_at plan (served_in column.takings) t

-- the card is what the column's posts and takings make of it
pub record IsLevel (card : CardState) (column : Column) : Type 0 where
  pub given : List Taken
  pub are_given : AreGiven card.sends.plan column.takings given
  pub after : IsAfter card given card.sends.posted
  pub posts : length column.posts ≡ slots_posted card.sends.posted (length column.takings)

-- the card is this after one post more, which the column does not have
pub record IsAhead (post : Post) (card : CardState) (column : Column) : Type 0 where
  pub given : List Taken
  pub are_given : AreGiven card.sends.plan column.takings given
  pub after : IsAfter card given true
  pub posts : length column.posts ≡ length column.takings
  pub is : post ≡ post_at card.sends.plan (served_in column.takings) (length column.takings)

-- one or the other, as a post is kept
abbrev pub IsInStep : Option Post → CardState → Column → Type 0
IsInStep None card column = IsLevel card column
IsInStep (Some post) card column = IsAhead post card column

-- the hand agrees with the column of card i at a board
pub record Agrees (hand : Hand) (s : Setup) (i : ℕ) (column : Column) : Type 0 where
  pub ports : hand.card.sends.plan.ports ≡ s.ports
  pub card : hand.card.sends.plan.card ≡ i
  pub driven : IsDriven hand.card.sends.plan column
  pub step : IsInStep hand.kept hand.card column
