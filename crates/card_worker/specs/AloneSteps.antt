-- What single acts, and the turns of all cards, make of the hands and their board.
use Rattle.std.specs.Prelude.{◌≡◌, ◌⊎◌, ◌<◌, ◌≤◌, ◌+◌, ℕ, Bool, true, false, List, [], ◌∷◌, ◌++◌, map, length}
use Rattle.slot_histories.specs.declared.events.Event.{Event}
use Rattle.slot_histories.specs.Events.{Setup, posts_of, takes_of, decides, posted}
use Rattle.slot_histories.specs.Slots.{is_done_before}
use Rattle.slot_board.specs.States.{StateValue}
use Rattle.slot_histories.specs.Columns.{column_of}
use Rattle.card_core.specs.Plans.{Plan}
use Rattle.card_worker.specs.declared.hands.Hand.{Hand}
use Rattle.card_worker.specs.TryingSteps.{one_if}
use Rattle.card_worker.specs.Alone.{AreHandsOf, GoesOn}

-- what each hand's card is to send
abbrev pub plans_of : List Hand → List Plan
plans_of hands = map (λ hand. hand.card.sends.plan) hands

-- the state with an event more
abbrev pub with_event : StateValue → Event → StateValue
with_event state event = record state { events = state.events ++ event ∷ [] }

-- The card can't act: its slot is not decided where it has posted that, and else it is done or no slot is left.
pub record IsStill (s : Setup) (i : ℕ) (events : List Event) : Type 0 where
  pub waits : takes_of i events < length (posts_of i events) → decides events ≤ takes_of i events
  pub ended : (takes_of i events < length (posts_of i events) → ⊥) → (is_done_before s.ports (posted events) (takes_of i events) ≡ true)
      ⊎ (s.max_slots ≤ takes_of i events)

-- one of the card's posts and takes came, or none where it can't act
pub record AfterAct (i : ℕ) (old new : StateValue) (acted : Bool) : Type 0 where
  pub setup : new.setup ≡ old.setup
  pub refused : new.refused ≡ old.refused
  pub count : length new.events ≡ length old.events + one_if acted
  pub goes_on : GoesOn old.events new.events
  pub others : (j : ℕ) → (j ≡ i → ⊥) → column_of old.setup j new.events ≡ column_of old.setup j old.events
  pub still : acted ≡ false → (new.events ≡ old.events) × IsStill old.setup i old.events

-- the first k cards had their turns, in which `made` events came
pub record AfterTurns (hands : List Hand) (old new : StateValue) (k made : ℕ) : Type 0 where
  pub hands_are : AreHandsOf hands new
  pub setup : new.setup ≡ old.setup
  pub refused : new.refused ≡ old.refused
  pub count : length new.events ≡ length old.events + made
  pub goes_on : GoesOn old.events new.events
  pub still : made ≡ 0 → (new.events ≡ old.events) × ((j : ℕ) → j < k → IsStill old.setup j old.events)
