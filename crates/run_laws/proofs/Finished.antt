-- Where no card can act any more, the board has decided the slots of the run.
use Rattle.std.proofs.Common.{◌≡◌, ◌∙◌, ◌⊎◌, ℕ, zero, suc, ◌<◌, ◌≤◌, Bool, true, false, ◌||◌, List, refl, sym, arith, inl, inr}
use Rattle.std.proofs.lemmas.Bool.{both_ways}
use Rattle.eslip_rounds.specs.Decisions.{decision_of}
use Rattle.eslip_rounds.proofs.Scheduling.{IsScheduler-decision_of}
use Rattle.crossbar.specs.declared.cards.Post.{Post as CardPost}
use Rattle.slot_histories.specs.declared.events.Event.{Event}
use Rattle.slot_histories.specs.Events.{takes_of, decides, posted}
use Rattle.slot_histories.specs.Slots.{is_done_at, is_done_before}
use Rattle.slot_histories.specs.Legal.{IsLegal}
use Rattle.slot_histories.specs.Columns.{column_of}
use Rattle.slot_histories.proofs.Agreeing.{is_done_at-same, is_done_before-same}
use Rattle.slot_histories.proofs.LegalLists.{AreInStep-legal, AreAccepted-legal, done_is_last}
use Rattle.card_worker.specs.Agreeing.{IsDriven}
use Rattle.card_worker.specs.Alone.{IsOver}
use Rattle.switch_plan.specs.GoodPlans.{SwitchPlan, IsGood}
use Rattle.run_laws.specs.Runs.{ports_of, setup_for, card_at}
use Rattle.run_laws.specs.RunSteps.{posts_in}
use Rattle.run_laws.specs.Ends.{IsLength}
use Rattle.run_laws.proofs.Driven.{decided-run}
use Rattle.run_laws.proofs.RunEnds.{run_ends}

earlier : (a b : Bool) → (a || b) ≡ true → b ≡ false → a ≡ true
earlier true b one none = refl
earlier false b one none = absurd (both_ways b none one)

-- one of the first slots is done
abbrev DoneBelow : ℕ → (ℕ → ℕ → CardPost) → ℕ → Type 0
DoneBelow n posts k = (t : ℕ) × (t < k) × (is_done_at n posts t ≡ true)

done_by : (n : ℕ) (posts : ℕ → ℕ → CardPost) (k : ℕ) (here : Bool) → is_done_at n posts k ≡ here → (is_done_before n posts k ≡ true → DoneBelow n posts k)
    → is_done_before n posts (suc k) ≡ true → DoneBelow n posts (suc k)
done_by n posts k true here before done = (k, omega arith, here)
done_by n posts k false here before done = let found = before (earlier (is_done_before n posts k) (is_done_at n posts k) done here) in
    (found.0, omega (arith, found.1), found.2)

one_done : (n : ℕ) (posts : ℕ → ℕ → CardPost) (k : ℕ) → is_done_before n posts k ≡ true → DoneBelow n posts k
one_done n posts zero done = absurd (cc)
one_done n posts (suc k) done = done_by n posts k (is_done_at n posts k) refl (one_done n posts k) done

module _ (plan : SwitchPlan) (events : List Event) (good : IsGood plan) (legal : IsLegal (setup_for plan) events)
    (driven : (i : ℕ) → i < ports_of plan → IsDriven (card_at plan i) (column_of (setup_for plan) i events)) where
  -- a board that decided a slot of the run that is done has decided the run's slots
  length-from : (t : ℕ) → t < decides events → is_done_at (ports_of plan) (posted events) t ≡ true → IsLength plan (decides events)
  length-from t below done =
      let decided = decided-run plan events legal driven in
      let all = done_is_last (setup_for plan) events good.size.some legal t below done in
      let step = AreInStep-legal (setup_for plan) events legal in
      record {
        last = t;
        count = all;
        done = sym (is_done_at-same (setup_for plan) (posted events) (posts_in plan) (decides events) decided t below) ∙ done;
        going =
            sym (is_done_before-same (setup_for plan) (posted events) (posts_in plan) (decides events) decided t (omega arith))
            ∙ (AreAccepted-legal (setup_for plan) events legal).going 0 t good.size.some (omega (arith, step.decided_posted 0 good.size.some));
      }

  module _ (over : (i : ℕ) → i < ports_of plan → IsOver (setup_for plan) i events) where
    pub taken-all : (i : ℕ) → i < ports_of plan → takes_of i events ≡ decides events
    taken-all i inside =
        let step = AreInStep-legal (setup_for plan) events legal in
        omega (arith, (over i inside).taken, step.decided_posted i inside, step.taken_decided i inside)

    by_end : (is_done_before (ports_of plan) (posted events) (takes_of 0 events) ≡ true) ⊎ (plan.max_slots ≤ takes_of 0 events) → IsLength plan (decides events)
    by_end (inl done) =
        let found = one_done (ports_of plan) (posted events) (takes_of 0 events) done in
        length-from found.0 (omega (arith, found.1, taken-all 0 good.size.some)) found.2
    by_end (inr used) =
        let run = run_ends decision_of IsScheduler-decision_of plan good in
        let length_is = run.1 in
        let few : length_is.last < decides events = omega (arith, taken-all 0 good.size.some, run.2, length_is.count) in
        length-from length_is.last few
        (is_done_at-same (setup_for plan) (posted events) (posts_in plan) (decides events) (decided-run plan events legal driven) length_is.last few
        ∙ length_is.done)

    pub length-run : IsLength plan (decides events)
    length-run = by_end (over 0 good.size.some).ended
