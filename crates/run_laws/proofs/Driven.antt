-- A board on which the cards of a plan act makes the run.
use Rattle.std.proofs.Common.{◌≡◌, ◌∙◌, ℕ, zero, suc, ◌+◌, ◌<◌, ◌≤◌, List, map, length, None, sym, ap, subst, arith, inl, inr, slice_index_or}
use Rattle.std.specs.List.{range_with_len}
use Rattle.std.proofs.lemmas.Bool.{cases_lt}
use Rattle.std.proofs.lemmas.List.FromFn.{get_or-map-range_with_len}
use Rattle.std.proofs.lemmas.Simd.{map-map}
use Rattle.std_lemmas.proofs.Ranges.{map_range-same}
use Rattle.eslip_rounds.specs.Decisions.{decision_of}
use Rattle.crossbar.specs.declared.cards.Taken.{Taken}
use Rattle.slot_histories.specs.declared.events.Event.{Event}
use Rattle.slot_histories.specs.Events.{posts_of, takes_of, decides, posted}
use Rattle.slot_histories.specs.Slots.{served_at, taken_at}
use Rattle.slot_histories.specs.Legal.{IsLegal}
use Rattle.slot_histories.specs.Answers.{takings_of, journal_slot, journal_of}
use Rattle.slot_histories.specs.Columns.{column_of}
use Rattle.slot_histories.proofs.Agreeing.{slot_posts-same, decision_at-same, served_at-same, taken_at-same}
use Rattle.slot_histories.proofs.InStep.{AreInStep}
use Rattle.slot_histories.proofs.LegalLists.{AreInStep-legal}
use Rattle.slot_histories.proofs.Ordering.{takings_of-slots}
use Rattle.slot_histories.proofs.Telling.{IsTold-legal}
use Rattle.card_core.specs.Cards.{served_in}
use Rattle.card_worker.specs.Agreeing.{IsDriven}
use Rattle.switch_plan.specs.GoodPlans.{SwitchPlan}
use Rattle.run_laws.specs.Runs.{ports_of, setup_for, card_at, run_journal, run_takings}
use Rattle.run_laws.specs.RunSteps.{served_by, posts_in, run_slot}
use Rattle.run_laws.proofs.SameParts.{post_at-alike}
use Rattle.run_laws.proofs.Base.{served-at}

module _ (plan : SwitchPlan) (events : List Event) (legal : IsLegal (setup_for plan) events)
    (driven : (i : ℕ) → i < ports_of plan → IsDriven (card_at plan i) (column_of (setup_for plan) i events)) where
  step : AreInStep (setup_for plan) events
  step = AreInStep-legal (setup_for plan) events legal

  -- what a card was served is what its slots gave
  served_in-is : (i : ℕ) → i < ports_of plan
      → served_in (takings_of (setup_for plan) i events) ≡ map (served_at (setup_for plan) (posted events) i) (range_with_len 0 (takes_of i events))
  served_in-is i inside =
      ap served_in (takings_of-slots (setup_for plan) events legal i inside)
      ∙ map-map (λ (taken : Taken). taken.served) (taken_at (setup_for plan) (posted events) i) (range_with_len 0 (takes_of i events))

  -- a card posts at most one slot more than it took
  one_ahead : (i : ℕ) → i < ports_of plan → length (posts_of i events) ≤ takes_of i events + 1
  one_ahead i inside = let told = IsTold-legal (setup_for plan) i events legal inside in omega (arith, told.posts_to, told.slot)

  -- the next slot is posted as the run has it, where those before it are
  posted-next : (t : ℕ) → ((i u : ℕ) → u < t → i < ports_of plan → u < length (posts_of i events) → posted events i u ≡ posts_in plan i u) → (i : ℕ)
      → i < ports_of plan → t < length (posts_of i events) → posted events i t ≡ posts_in plan i t
  posted-next t earlier i inside below =
      let ahead = one_ahead i inside in
      let parts = served_in (takings_of (setup_for plan) i events) in
      let agree : (j u : ℕ) → j < ports_of plan → u < t → posted events j u ≡ posts_in plan j u =
      λ j u within before. earlier j u before within (omega (arith, (step).taken_decided i inside, (step).decided_posted j within)) in
      let same : (u : ℕ) → u < t → slice_index_or parts u None ≡ slice_index_or (served_by plan i t) u None =
      λ u before.
      ap (λ list. slice_index_or list u None) (served_in-is i inside)
      ∙ (get_or-map-range_with_len (served_at (setup_for plan) (posted events) i) 0 (takes_of i events) u u None (omega arith) (omega arith)
      ∙ (served_at-same (setup_for plan) (posted events) (posts_in plan) t agree i u before
      ∙ sym (served-at decision_of plan i u t before))) in
      driven i inside t below ∙ post_at-alike (card_at plan i) parts (served_by plan i t) t same t (omega arith)

  posted-below : (k i t : ℕ) → t < k → i < ports_of plan → t < length (posts_of i events) → posted events i t ≡ posts_in plan i t
  posted-below zero i t less inside below = absurd (omega arith)
  posted-below (suc k) i t less inside below =
      elim (cases_lt t k) [
        | inl earlier ↦ posted-below k i t earlier inside below
        | inr last ↦
            let same : k ≡ t = omega arith in
            subst (λ u. posted events i u ≡ posts_in plan i u) same
            (posted-next k (λ j u before within there. posted-below k j u before within there) i inside (omega arith))
      ]

  -- what is posted is what the run has
  pub posted-run : (i t : ℕ) → i < ports_of plan → t < length (posts_of i events) → posted events i t ≡ posts_in plan i t
  posted-run i t inside below = posted-below (suc t) i t (omega arith) inside below

  pub decided-run : (i t : ℕ) → i < ports_of plan → t < decides events → posted events i t ≡ posts_in plan i t
  decided-run i t inside below = posted-run i t inside (omega (arith, (step).decided_posted i inside))

  pub journal-run : journal_of (setup_for plan) events ≡ run_journal plan (decides events)
  journal-run =
      map_range-same (journal_slot (setup_for plan) (posted events)) (run_slot plan) 0 (decides events) (λ t below.
      let slot = slot_posts-same (setup_for plan) (posted events) (posts_in plan) (decides events) decided-run t (omega arith) in
      let decision = decision_at-same (setup_for plan) (posted events) (posts_in plan) (decides events) decided-run t (omega arith) in
      cc)

  pub takings-run : (i : ℕ) → i < ports_of plan → takings_of (setup_for plan) i events ≡ run_takings plan i (takes_of i events)
  takings-run i inside =
      takings_of-slots (setup_for plan) events legal i inside
      ∙ map_range-same (taken_at (setup_for plan) (posted events) i) (taken_at (setup_for plan) (posts_in plan) i) 0 (takes_of i events) (λ t below.
      taken_at-same (setup_for plan) (posted events) (posts_in plan) (decides events) decided-run i t (omega (arith, (step).taken_decided i inside)))
