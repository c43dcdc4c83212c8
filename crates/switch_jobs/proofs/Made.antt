-- What the laws of runs say of a run that was made to its end.
use Rattle.std.proofs.Common.{◌≡◌, ◌∙◌, ℕ, ◌<◌, ◌≤◌, List, sym, ap, subst, arith}
use Rattle.std.specs.Prelude.{Some, slice_get}
use Rattle.std.proofs.lemmas.Option.{slice_get_within, get_or_from_slice_get}
use Rattle.std_lemmas.proofs.Lists.{at_place}
use Rattle.crossbar.specs.declared.cards.Taken.{Taken}
use Rattle.slot_histories.specs.declared.events.Event.{Event}
use Rattle.slot_histories.specs.Events.{Setup, takes_of, decides}
use Rattle.slot_histories.specs.Answers.{takings_of, journal_of}
use Rattle.slot_histories.specs.Columns.{column_of}
use Rattle.slot_board.specs.States.{StateValue}
use Rattle.card_core.specs.declared.outcome.CardOut.{CardOut}
use Rattle.card_core.specs.Plans.{Plan as CardPlan}
use Rattle.card_worker.specs.declared.hands.Hand.{Hand}
use Rattle.card_worker.specs.Agreeing.{AreGiven, IsDriven}
use Rattle.card_worker.specs.Alone.{AreHandsOf, IsOver}
use Rattle.switch_plan.specs.GoodPlans.{SwitchPlan}
use Rattle.run_laws.specs.Runs.{ports_of, setup_for, card_at, no_plan, run_journal, run_takings}
use Rattle.run_laws.specs.Ends.{IsLength}
use Rattle.run_laws.specs.Outcomes.{IsOutput}
use Rattle.switch_jobs.specs.EndingSteps.{Leaves, AreOfPlans, IsRunOf}
use Rattle.switch_jobs.proofs.Leaving.{output_left}

-- each port posts what its plan gives
abbrev pub AreDriven : SwitchPlan → List Event → Type 0
AreDriven plan events = (i : ℕ) → i < ports_of plan → IsDriven (card_at plan i) (column_of (setup_for plan) i events)

-- and can act no more
abbrev pub AreOver : SwitchPlan → List Event → Type 0
AreOver plan events = (i : ℕ) → i < ports_of plan → IsOver (setup_for plan) i events

-- what the laws of runs say of a plan and these events
pub record Laws (plan : SwitchPlan) (events : List Event) : Type 0 where
  pub journal : AreDriven plan events → journal_of (setup_for plan) events ≡ run_journal plan (decides events)
  pub takings : AreDriven plan events → (i : ℕ) → i < ports_of plan → takings_of (setup_for plan) i events ≡ run_takings plan i (takes_of i events)
  pub ends : AreDriven plan events → AreOver plan events → IsLength plan (decides events)
  pub taken : AreDriven plan events → AreOver plan events → (i : ℕ) → i < ports_of plan → takes_of i events ≡ decides events
  pub given : (j slots : ℕ) (given : List Taken) → j < ports_of plan → AreGiven (card_at plan j) (run_takings plan j slots) given
      → given ≡ run_takings plan j slots
  pub most : (slots : ℕ) → IsLength plan slots → slots ≤ plan.max_slots

module _ (plan : SwitchPlan) (state : StateValue) (hands : List Hand) (setup : state.setup ≡ setup_for plan) (are : AreHandsOf hands state)
    (over : (i : ℕ) → i < state.setup.ports → IsOver state.setup i state.events) (planned : AreOfPlans plan.cards hands) (laws : Laws plan state.events) where
  ports_are : state.setup.ports ≡ ports_of plan
  ports_are = ap (λ (s : Setup). s.ports) setup

  hand_at : (i : ℕ) → i < ports_of plan → (hand : Hand) × (slice_get hands i ≡ Some hand)
  hand_at i below = let count = are.count in let ports = ports_are in at_place hands i (omega arith)

  plan_at : (i : ℕ) (hand : Hand) → slice_get hands i ≡ Some hand → hand.card.sends.plan ≡ card_at plan i
  plan_at i hand at = sym (get_or_from_slice_get plan.cards i hand.card.sends.plan no_plan (planned i hand at))

  driven : AreDriven plan state.events
  driven i below =
      let (hand, at) = hand_at i below in
      let own = (are.each i hand at).driven in
      subst (λ (p : CardPlan). IsDriven p (column_of (setup_for plan) i state.events)) (plan_at i hand at)
      (subst (λ (s : Setup). IsDriven hand.card.sends.plan (column_of s i state.events)) setup own)

  ended : AreOver plan state.events
  ended i below = let ports = ports_are in subst (λ (s : Setup). IsOver s i state.events) setup (over i (omega arith))

  ends : IsLength plan (decides state.events)
  ends = laws.ends driven ended

  output_is : (j : ℕ) (hand : Hand) (out : CardOut) → slice_get hands j ≡ Some hand → Leaves hand.card out → IsOutput plan (decides state.events) j out
  output_is j hand out at leaves =
      let inside = slice_get_within hands j hand at in
      let count = are.count in
      let ports = ports_are in
      let below : j < ports_of plan = omega arith in
      let took : takings_of state.setup j state.events ≡ run_takings plan j (decides state.events) =
      ap (λ (s : Setup). takings_of s j state.events) setup ∙ (laws.takings driven j below ∙ ap (run_takings plan j) (laws.taken driven ended j below)) in
      output_left plan (decides state.events) j ends hand (column_of state.setup j state.events) out (are.each j hand at).step (plan_at j hand at) took
      (λ given is. laws.given j (decides state.events) given below is) leaves

  pub run_made : IsRunOf plan state hands
  run_made = record {
    setup = setup;
    ends = ends;
    within = laws.most (decides state.events) ends;
    journal = ap (λ (s : Setup). journal_of s state.events) setup ∙ laws.journal driven;
    ports = are.count ∙ ports_are;
    outputs = output_is;
  }
