-- A card is given all that it takes in a run.
use Rattle.std.proofs.Common.{◌≡◌, ◌∙◌, ℕ, zero, suc, ◌+◌, ◌<◌, List, [], ◌∷◌, ◌++◌, map, refl, sym, ap, subst, arith, inl, inr}
use Rattle.std.specs.List.{range_with_len}
use Rattle.std.specs.Option.{option_to_list}
use Rattle.std.proofs.lemmas.List.Folds.{flat_map-map}
use Rattle.std.proofs.lemmas.List.FromFn.{map-range_with_len_more}
use Rattle.eslip_rounds.specs.Decisions.{decision_of}
use Rattle.eslip_rounds.proofs.Scheduling.{IsScheduler-decision_of}
use Rattle.crossbar.specs.declared.cards.Taken.{Taken}
use Rattle.slot_histories.specs.Slots.{taken_at}
use Rattle.card_core.specs.Deliveries.{cells_taken}
use Rattle.card_core.specs.Cards.{HasReceived}
use Rattle.card_worker.specs.Agreeing.{IsGiven, AreGivenAfter, AreGiven}
use Rattle.switch_plan.specs.GoodPlans.{SwitchPlan, IsGood}
use Rattle.run_laws.specs.Runs.{ports_of, setup_for, card_at, run_takings}
use Rattle.run_laws.specs.RunSteps.{posts_in, cells_to}
use Rattle.run_laws.proofs.Fitting.{cell_fits}

module _ (plan : SwitchPlan) (j : ℕ) where
  -- the cells of what a card takes are those that cross to it
  pub cells_taken-run : (slots : ℕ) → cells_taken (run_takings plan j slots) ≡ cells_to plan j slots
  cells_taken-run slots = flat_map-map (λ (taken : Taken). option_to_list taken.cell) (taken_at (setup_for plan) (posts_in plan) j) (range_with_len 0 slots)

  module _ (good : IsGood plan) (inside : j < ports_of plan) where
    one-given : (t : ℕ) (one : Taken) → IsGiven (card_at plan j) (run_takings plan j t) (taken_at (setup_for plan) (posts_in plan) j t) one
        → one ≡ taken_at (setup_for plan) (posts_in plan) j t
    one-given t one given =
        let received : HasReceived (card_at plan j) given.card.receives (cells_to plan j t) =
        subst (HasReceived (card_at plan j) given.card.receives) (cells_taken-run t)
        (subst (λ card. HasReceived card given.card.receives (cells_taken (run_takings plan j t))) given.plan_is given.after.received) in
        let may = cell_fits decision_of IsScheduler-decision_of plan good j t given.card.receives inside received in
        elim given.fitted [
          | inl whole ↦ whole.1
          | inr without ↦ absurd (without.0 may)
        ]

    run_takings-more : (t : ℕ) → run_takings plan j t ++ taken_at (setup_for plan) (posts_in plan) j t ∷ [] ≡ run_takings plan j (t + 1)
    run_takings-more t = sym (map-range_with_len_more (taken_at (setup_for plan) (posts_in plan) j) 0 t t (omega arith))

    given-after : (k t : ℕ) (given : List Taken)
        → AreGivenAfter (card_at plan j) (run_takings plan j t) (map (taken_at (setup_for plan) (posts_in plan) j) (range_with_len t k)) given
        → given ≡ map (taken_at (setup_for plan) (posts_in plan) j) (range_with_len t k)
    given-after zero t [] are = refl
    given-after zero t (one ∷ given) are = absurd are
    given-after (suc k) t [] are = absurd are
    given-after (suc k) t (one ∷ given) are =
        let is = one-given t one are.0 in
        let before : run_takings plan j t ++ one ∷ [] ≡ run_takings plan j (t + 1) = ap (λ taken. run_takings plan j t ++ taken ∷ []) is ∙ run_takings-more t in
        let rest = given-after k (t + 1) given
        (subst (λ takings. AreGivenAfter (card_at plan j) takings (map (taken_at (setup_for plan) (posts_in plan) j) (range_with_len (t + 1) k)) given)
        before are.1) in
        cc

    pub all-given : (slots : ℕ) (given : List Taken) → AreGiven (card_at plan j) (run_takings plan j slots) given → given ≡ run_takings plan j slots
    all-given slots given are = given-after slots 0 given are
