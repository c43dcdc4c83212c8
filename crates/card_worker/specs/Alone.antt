-- Hands that agree with a board's state, and what one event of a card makes of them.
use Rattle.std.specs.Prelude.{◌≡◌, ◌⊎◌, ◌≤◌, ℕ, true, List, ◌++◌, length, slice_get, Some}
use Rattle.slot_histories.specs.declared.events.Event.{Event}
use Rattle.slot_histories.specs.Events.{Setup, posts_of, takes_of, posted}
use Rattle.slot_histories.specs.Slots.{is_done_before}
use Rattle.slot_board.specs.States.{StateValue}
use Rattle.slot_histories.specs.Columns.{column_of}
use Rattle.card_worker.specs.declared.hands.Hand.{Hand}
use Rattle.card_worker.specs.Agreeing.{Agrees}

-- the hand agrees with card i's column after these events
abbrev pub IsHandOf : Hand → Setup → ℕ → List Event → Type 0
IsHandOf hand s i events = Agrees hand s i (column_of s i events)

-- the hands, by card, agree with the state
pub record AreHandsOf (hands : List Hand) (state : StateValue) : Type 0 where
  pub count : length hands ≡ state.setup.ports
  pub each : (i : ℕ) (hand : Hand) → slice_get hands i ≡ Some hand → IsHandOf hand state.setup i state.events

-- the events go on from those before
abbrev pub GoesOn : List Event → List Event → Type 0
GoesOn old new = (more : List Event) × (new ≡ old ++ more)

-- the card has taken all that it posted, and is done or no slot is left
pub record IsOver (s : Setup) (i : ℕ) (events : List Event) : Type 0 where
  pub taken : takes_of i events ≡ length (posts_of i events)
  pub ended : (is_done_before s.ports (posted events) (takes_of i events) ≡ true) ⊎ (s.max_slots ≤ takes_of i events)
