-- A run that was made to its end, and what its cards leave.
use Rattle.std.specs.Prelude.{◌≡◌, ℕ, ◌≤◌, Bool, List, length, Some, slice_get}
use Rattle.crossbar.specs.declared.cards.Taken.{Taken}
use Rattle.slot_histories.specs.Events.{decides}
use Rattle.slot_histories.specs.Answers.{journal_of}
use Rattle.slot_board.specs.States.{StateValue}
use Rattle.card_core.specs.declared.outcome.CardOut.{CardOut}
use Rattle.card_core.specs.Plans.{Plan as CardPlan}
use Rattle.card_core.specs.Cards.{CardState, IsAfter, IsOut}
use Rattle.card_worker.specs.declared.hands.Hand.{Hand}
use Rattle.switch_plan.specs.GoodPlans.{SwitchPlan}
use Rattle.run_laws.specs.Runs.{ports_of, setup_for, run_journal}
use Rattle.run_laws.specs.Ends.{IsLength}
use Rattle.run_laws.specs.Outcomes.{IsOutput}

-- what the card leaves, over all that it may have taken
abbrev pub Leaves : CardState → CardOut → Type 0
Leaves card out = (takings : List Taken) (posted : Bool) → IsAfter card takings posted → IsOut card.sends.plan takings posted out

-- what the hands' cards leave, by card
pub record AreLeft (hands : List Hand) (outputs : List CardOut) : Type 0 where
  pub count : length outputs ≡ length hands
  pub each : (i : ℕ) (hand : Hand) (out : CardOut) → slice_get hands i ≡ Some hand → slice_get outputs i ≡ Some out → Leaves hand.card out

-- the hands' cards are of these plans, by port
abbrev pub AreOfPlans : List CardPlan → List Hand → Type 0
AreOfPlans plans hands = (i : ℕ) (hand : Hand) → slice_get hands i ≡ Some hand → slice_get plans i ≡ Some hand.card.sends.plan

-- The board's events are those of the plan's run, to its end, and each port's card leaves what it has there.
pub record IsRunOf (plan : SwitchPlan) (state : StateValue) (hands : List Hand) : Type 0 where
  pub setup : state.setup ≡ setup_for plan
  pub ends : IsLength plan (decides state.events)
  pub within : decides state.events ≤ plan.max_slots
  pub journal : journal_of state.setup state.events ≡ run_journal plan (decides state.events)
  pub ports : length hands ≡ ports_of plan
  pub outputs : (j : ℕ) (hand : Hand) (out : CardOut) → slice_get hands j ≡ Some hand → Leaves hand.card out → IsOutput plan (decides state.events) j out
