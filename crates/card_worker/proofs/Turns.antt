-- The turns of all cards at the state of a board, one after the other.
use Rattle.std.proofs.Common.{◌≡◌, ◌∙◌, ℕ, ◌+◌, ◌*◌, ◌<◌, ◌≤◌, Bool, true, false, List, [], ◌++◌, length, set, get_or, refl, sym, ap, subst, arith, inl, inr}
use Rattle.std.specs.Prelude.{slice_get}
use Rattle.std.proofs.lemmas.Bool.{cases_eq, cases_lt, both_ways}
use Rattle.std.proofs.lemmas.List.{length-set, map-set, get_or-map, set-get_or, append-nil, append_assoc}
use Rattle.std_lemmas.proofs.Options.{some_same}
use Rattle.std_lemmas.proofs.Lists.{get-set_same, get-set_other}
use Rattle.slot_histories.specs.declared.events.Event.{Event}
use Rattle.slot_histories.specs.declared.events.Event.TheVariants.{Decide}
use Rattle.slot_histories.specs.Events.{Setup, posts_of, takes_of, decides, posted}
use Rattle.slot_histories.specs.Slots.{is_done_before}
use Rattle.slot_histories.specs.Legal.{MayDecide, IsLegal}
use Rattle.slot_histories.proofs.InStep.{length-in_step}
use Rattle.slot_histories.proofs.LegalLists.{AreInStep-legal, AreAccepted-legal}
use Rattle.board_state.specs.Boards.{IsSetup}
use Rattle.slot_board.specs.States.{StateValue}
use Rattle.slot_histories.specs.Columns.{column_of}
use Rattle.slot_histories.proofs.Telling.{IsTold-legal}
use Rattle.card_core.specs.Plans.{Plan}
use Rattle.card_worker.specs.declared.hands.Hand.{Hand}
use Rattle.card_worker.specs.Agreeing.{Agrees}
use Rattle.card_worker.specs.TryingSteps.{one_if}
use Rattle.card_worker.specs.Alone.{IsHandOf, AreHandsOf, GoesOn, IsOver}
use Rattle.card_worker.specs.AloneSteps.{with_event, plans_of, IsStill, AfterAct, AfterTurns}
use Rattle.card_worker.proofs.Columns.{column-decide}

one_none : (acted : Bool) → one_if acted ≡ 0 → acted ≡ false
one_none true none = absurd (omega (arith, none))
one_none false none = refl

-- a hand whose card keeps its plan
pub plans_of-set : (hands : List Hand) (i : ℕ) (new old : Hand) → i < length hands → new.card.sends.plan ≡ (get_or hands i old).card.sends.plan
    → plans_of (set hands i new) ≡ plans_of hands
plans_of-set hands i new old inside same =
    let plan : Hand → Plan = λ hand. hand.card.sends.plan in
    map-set plan hands i new
    ∙ (ap (set (plans_of hands) i) (same ∙ sym (get_or-map plan hands i old (plan old) inside))
    ∙ set-get_or (plans_of hands) i (plan old))

-- lists that go on from one another
pub GoesOn-none : (events : List Event) → GoesOn events events
GoesOn-none events = ([], sym (append-nil events))

pub GoesOn-more : (old mid new : List Event) → GoesOn old mid → GoesOn mid new → GoesOn old new
GoesOn-more old mid new first next =
    (first.0 ++ next.0, next.1 ∙ ap (λ events. events ++ next.0) first.1 ∙ append_assoc old first.0 next.0)

pub AfterTurns-none : (hands : List Hand) (board : StateValue) → AreHandsOf hands board → AfterTurns hands board board 0 0
AfterTurns-none hands board are =
    record {
      hands_are = are;
      setup = refl;
      refused = refl;
      count = omega arith;
      goes_on = GoesOn-none board.events;
      still = λ none. (refl, λ j below. absurd (omega arith));
    }

-- a hand whose card's column stays
moved : (hand : Hand) (j : ℕ) (mid new : StateValue) → new.setup ≡ mid.setup → column_of mid.setup j new.events ≡ column_of mid.setup j mid.events
    → IsHandOf hand mid.setup j mid.events → IsHandOf hand new.setup j new.events
moved hand j mid new setup column is = subst (λ s. Agrees hand s j (column_of s j new.events)) (sym setup) (subst (Agrees hand mid.setup j) (sym column) is)

module _ (hands : List Hand) (old mid new : StateValue) (k made : ℕ) (before : AfterTurns hands old mid k made) (next : Hand) (acted : Bool)
    (inside : k < length hands) (own : IsHandOf next new.setup k new.events) (act : AfterAct k mid new acted) where
  pub AfterTurns-more : AfterTurns (set hands k next) old new (k + 1) (made + one_if acted)
  AfterTurns-more =
      record {
        hands_are = record {
          count = length-set hands k next ∙ before.hands_are.count ∙ ap (λ s. s.ports) (sym act.setup);
          each = λ j hand at. elim (cases_eq j k) [
            | inl same ↦
                let is : next ≡ hand = some_same next hand (slice_get (set hands k next) j)
                (ap (slice_get (set hands k next)) same ∙ get-set_same hands k next inside) at in
                subst (λ h. IsHandOf h new.setup j new.events) is (subst (λ i. IsHandOf next new.setup i new.events) (sym same) own)
            | inr other ↦ moved hand j mid new act.setup (act.others j other) (before.hands_are.each j hand (sym (get-set_other hands k j next other) ∙ at))
          ];
        };
        setup = act.setup ∙ before.setup;
        refused = act.refused ∙ before.refused;
        count = let a = before.count in let b = act.count in omega arith;
        goes_on = GoesOn-more old.events mid.events new.events before.goes_on act.goes_on;
        still = λ none.
            let first = before.still (omega arith) in
            let last = act.still (one_none acted (omega arith)) in
            let here : IsStill old.setup k old.events =
            subst (λ s. IsStill s k old.events) before.setup (subst (λ events. IsStill mid.setup k events) first.0 last.1) in (
              last.0 ∙ first.0,
              λ j below. elim (cases_eq j k) [
                | inl same ↦ subst (λ i. IsStill old.setup i old.events) (sym same) here
                | inr other ↦ first.1 j (omega arith)
              ],
            );
      }

pub AreHandsOf-decide : (hands : List Hand) (board : StateValue) → AreHandsOf hands board → AreHandsOf hands (with_event board Decide)
AreHandsOf-decide hands board are =
    record {
      count = are.count;
      each = λ j hand at. moved hand j board (with_event board Decide) refl (column-decide board.setup board.events j) (are.each j hand at);
    }

-- where no card can act and the slot can't be decided, all is over
module _ (s : Setup) (events : List Event) (legal : IsLegal s events) (still : (j : ℕ) → j < s.ports → IsStill s j events)
    (undecided : MayDecide s events → ⊥) where
  none_posted : (i : ℕ) → i < s.ports → takes_of i events < length (posts_of i events) → ⊥
  none_posted i inside it =
      let step = AreInStep-legal s events legal in
      let next = step.posted_next i inside in
      let room = step.posts_within i inside in
      let waits = (still i inside).waits it in
      undecided (λ j within. elim (cases_eq (length (posts_of j events)) (decides events + 1)) [
        | inl is ↦ is
        | inr other ↦
            let from = step.decided_posted j within in
            let to = step.posted_next j within in
            let taken = step.taken_decided j within in
            let ahead = (IsTold-legal s j events legal within).posts_to in
            let slot = (IsTold-legal s j events legal within).slot in
            elim (cases_lt (takes_of j events) (length (posts_of j events))) [
              | inl less ↦ let late = (still j within).waits less in absurd (omega arith)
              | inr most ↦
                  elim ((still j within).ended (λ less. absurd (omega arith))) [
                    | inl done ↦
                        let same : takes_of j events ≡ decides events = omega arith in
                        let going = (AreAccepted-legal s events legal).going i (decides events) inside (omega arith) in
                        absurd (both_ways (is_done_before s.ports (posted events) (decides events)) going
                        (ap (is_done_before s.ports (posted events)) (sym same) ∙ done))
                    | inr used ↦ absurd (omega arith)
                  ]
            ]
      ])

  pub all_over : (i : ℕ) → i < s.ports → IsOver s i events
  all_over i inside =
      let step = AreInStep-legal s events legal in
      let from = step.decided_posted i inside in
      let taken = step.taken_decided i inside in
      record {
        taken = elim (cases_lt (takes_of i events) (length (posts_of i events))) [ inl less ↦ absurd (none_posted i inside less) | inr most ↦ omega arith ];
        ended = (still i inside).ended (none_posted i inside);
      }

pub events_few : (s : Setup) (events : List Event) → IsSetup s → IsLegal s events → length events ≤ (2 * s.ports + 1) * s.max_slots
events_few s events setup legal = length-in_step s events setup.ports_some (AreInStep-legal s events legal)

-- after the turns of all cards with no event
pub turns_over : (hands : List Hand) (old mid new : StateValue) → AfterTurns hands old mid (length hands) 0
    → (new ≡ mid) × (MayDecide mid.setup mid.events → ⊥) → IsLegal new.setup new.events → (i : ℕ) → i < new.setup.ports → IsOver new.setup i new.events
turns_over hands old mid new taken none legal =
    let first = taken.still refl in
    let still : (j : ℕ) → j < mid.setup.ports → IsStill mid.setup j mid.events =
    λ j within. subst (λ s. IsStill s j mid.events) (sym taken.setup)
    (subst (λ events. IsStill old.setup j events) (sym first.0) (first.1 j (let count = taken.hands_are.count in omega arith))) in
    let over : (i : ℕ) → i < mid.setup.ports
    → IsOver mid.setup i mid.events = all_over mid.setup mid.events (subst (λ (b : StateValue). IsLegal b.setup b.events) none.0 legal) still none.1 in
    subst (λ (b : StateValue). (i : ℕ) → i < b.setup.ports → IsOver b.setup i b.events) (sym none.0) over
