-- What one turn of a card adds to the events at the board.
use Rattle.std.specs.Prelude.{◌≡◌, ℕ, true, false, List, [], ◌∷◌, ◌++◌, slice_index, if◌then◌else◌, Result, Ok, Err}
use Rattle.crossbar.specs.declared.cards.Post.{Post as CardPost}
use Rattle.crossbar.specs.declared.cards.Taken.{Taken}
use Rattle.slot_histories.specs.declared.events.Event.{Event}
use Rattle.slot_histories.specs.declared.events.Event.TheVariants.{Post, Decide, Take}
use Rattle.slot_histories.specs.Events.{Setup, takes_of, posted}
use Rattle.slot_histories.specs.Slots.{taken_at}
use Rattle.slot_histories.specs.Legal.{MayDecide, IsLegal}
use Rattle.slot_histories.specs.Tests.{is_allowed}
use Rattle.board_state.specs.Boards.{HavePosted}

-- a board's setup as the fixed numbers of its turn lock
abbrev pub numbers_of : Setup → List ℕ
numbers_of s = s.ports ∷ s.rounds ∷ s.max_slots ∷ []

-- and back
abbrev pub setup_of : List ℕ → Setup
setup_of numbers = record { ports = slice_index numbers 0; rounds = slice_index numbers 1; max_slots = slice_index numbers 2 }

-- A card's turn adds nothing, a post of the card alone or with a decision after it, or a taking of the card.
abbrev pub MayAdd : ℕ → List Event → Type 0
MayAdd i [] = Unit {0}
MayAdd i (Post card post ∷ []) = card ≡ i
MayAdd i (Post card post ∷ Decide ∷ []) = card ≡ i
MayAdd i (Take card ∷ []) = card ≡ i
MayAdd i events = ⊥

-- the decision of the next slot, where all cards have posted it
abbrev pub decision_entries : Setup → List Event → List Event
decision_entries s events = if is_allowed s events Decide then Decide ∷ [] else []

-- a card's post, and the decision of its slot where that was the slot's last post
abbrev pub post_entries : Setup → List Event → ℕ → CardPost → List Event
post_entries s events card post = Post card post ∷ decision_entries s (events ++ Post card post ∷ [])

-- what a try to post adds: nothing where the post may not come
abbrev pub post_adds : ℕ → CardPost → List ℕ → List Event → List Event
post_adds card post numbers events = if is_allowed (setup_of numbers) events (Post card post) then post_entries (setup_of numbers) events card post else []

-- what a try to take adds: nothing where the card may not take
abbrev pub take_adds : ℕ → List ℕ → List Event → List Event
take_adds card numbers events = if is_allowed (setup_of numbers) events (Take card) then Take card ∷ [] else []

-- the events are legal before the turn and after it
pub record StayLegal (s : Setup) (events added : List Event) : Type 0 where
  pub before : IsLegal s events
  pub after : IsLegal s (events ++ added)

-- what a try to take is answered: the card's part of its slot, or where it may not take which cards have posted; a
-- slot that all have posted is decided
abbrev pub TakeAnswers : Setup → ℕ → List Event → Result Taken ℕ → Type 0
TakeAnswers s card events (Ok taken) = (is_allowed s events (Take card) ≡ true) × (taken ≡ taken_at s (posted events) card (takes_of card events))
TakeAnswers s card events (Err ports) = (is_allowed s events (Take card) ≡ false) × HavePosted s events ports × (MayDecide s events → ⊥)
