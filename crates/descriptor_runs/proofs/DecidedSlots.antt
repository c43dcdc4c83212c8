-- What a switch decides of a slot, when the packets of the slot have come in, is what the run decides of it.
use Rattle.std.proofs.Common.{◌≡◌, ◌∙◌, ℕ, ◌+◌, ◌<◌, ◌⊎◌, true, List, [], ◌∷◌, ◌++◌, map, length, Option, None, sym, ap, subst, arith, inl, inr}
use Rattle.std.specs.Prelude.{slice_get, slice_index_or}
use Rattle.std.specs.List.{range_with_len}
use Rattle.std.proofs.lemmas.Simd.{map-map}
use Rattle.rotating_pick.specs.PortSets.{Has}
use Rattle.slot_match.specs.declared.rows.Row.{Row}
use Rattle.slot_match.specs.declared.matching.Fed.{Fed}
use Rattle.slot_match.specs.declared.matching.Served.{Served}
use Rattle.slot_match.specs.Rows.{AreWithin}
use Rattle.slot_match.specs.Matches.{IsMatch}
use Rattle.slot_match.specs.Parts.{served_of}
use Rattle.pointer_state.specs.Places.{Places}
use Rattle.eslip_rounds.specs.Calls.{CanDecide}
use Rattle.eslip_rounds.specs.Slots.{Decision}
use Rattle.eslip_rounds.specs.Schedulers.{Scheduler, IsScheduler}
use Rattle.crossbar.specs.declared.cards.Post.{Post}
use Rattle.named_schedulers.specs.Named.{decision_named}
use Rattle.slot_histories.specs.Slots.{slot_rows, decision_under}
use Rattle.slot_histories.proofs.SoundDecisions.{places_under-at_ports}
use Rattle.service_bound.specs.Waits.{NotedSlot, noted_of}
use Rattle.service_bound.specs.MeterSteps.{Meter, HasNoted, HasParts, WaitsAreKept}
use Rattle.slot_board.specs.Schedules.{decided_under}
use Rattle.switch_plan.specs.GoodPlans.{SwitchPlan, IsGood}
use Rattle.run_laws.specs.Runs.{ports_of, setup_for, posts_under}
use Rattle.run_laws.specs.Sums.{schedule_under}
use Rattle.run_laws.proofs.Base.{within}
use Rattle.descriptor_runs.specs.declared.switch.Switch.{Switch}
use Rattle.descriptor_runs.specs.InputSteps.{InputValue, row_in}
use Rattle.descriptor_runs.specs.SwitchSteps.{AreInputs, IsBefore}
use Rattle.descriptor_runs.proofs.InputPorts.{count-inputs}
use Rattle.descriptor_runs.proofs.Letting.{all-rows}
use Rattle.descriptor_runs.proofs.Resting.{noted-more, waits-kept}
use Rattle.descriptor_runs.proofs.ServedPorts.{AreServing, free-unless}

-- the inputs are these when the packets have come in, and these their rows
module _ (scheduler : Scheduler) (scheduling : IsScheduler scheduler) (plan : SwitchPlan) (good : IsGood plan) (t : ℕ) (switch : Switch)
    (is : IsBefore scheduler plan t switch) (inputs : List InputValue) (are : AreInputs scheduler plan t true inputs)
    (rows : List Row) (rows_are : rows ≡ map row_in inputs) where
  -- ---- what is decided of them
  rows-posted : rows ≡ slot_rows (ports_of plan) (posts_under scheduler plan) t
  rows-posted =
      rows_are
      ∙ (all-rows scheduler plan t inputs are
      ∙ sym (map-map (λ (post : Post). post.row) (λ i. posts_under scheduler plan i t) (range_with_len 0 (ports_of plan))))

  pub rows-within : (n : ℕ) → n ≡ ports_of plan → AreWithin n rows
  rows-within n ports =
      subst (λ k. AreWithin k rows) (sym ports) (subst (AreWithin (ports_of plan)) (sym rows-posted) (within scheduler scheduling plan good t))

  abbrev decided : Decision
  decided = decision_under scheduler (setup_for plan) (posts_under scheduler plan) t

  module _ (n : ℕ) (ports : n ≡ switch.pointers.ports) where
    pub ports-are : n ≡ ports_of plan
    ports-are =
        ports ∙ ap (λ (p : Places). p.ports) is.switch_is.pointers
        ∙ (places_under-at_ports scheduler scheduling (setup_for plan) (posts_under scheduler plan) t good.size.some good.size.most
        (λ u below. within scheduler scheduling plan good u) t (omega arith)).1

    pub can-decide : CanDecide n switch.rounds rows switch.pointers switch.matched
    can-decide =
        let same_ports = ports-are in
        let same_rounds = is.switch_is.rounds in
        let size = good.size in
        let few = good.rounds in
        record {
          some = omega arith;
          size = omega arith;
          rounds_some = omega arith;
          rounds_few = omega arith;
          within = rows-within n ports-are;
          pointers = sym ports;
          matched = is.switch_is.matched ∙ sym ports-are;
        }

    -- and these are the parts of its match
    pub has-parts : (matched : List (Option Fed)) (parts : List (Option Served)) → IsMatch n matched
        → ((i : ℕ) → i < length matched → slice_index_or parts i None ≡ served_of matched i) → HasParts switch.meter.ports matched parts
    has-parts matched parts whole each =
        let same_ports = ports-are ∙ sym is.switch_is.meter_ports in
        let long = whole.count in
        record { whole = subst (λ k. IsMatch k matched) same_ports whole; each = λ i inside. each i (omega arith) }

    pub decision-is : (decision : Decision) → decision ≡ decision_named switch.scheduler n switch.rounds t rows switch.pointers → decision ≡ decided
    decision-is decision found =
        found
        ∙ (ap (λ (s : Scheduler). s n switch.rounds t rows switch.pointers) is.switch_is.decides
        ∙ (ap (λ k. scheduler k switch.rounds t rows switch.pointers) ports-are
        ∙ (ap (λ k. scheduler (ports_of plan) k t rows switch.pointers) is.switch_is.rounds
        ∙ (ap (λ x. scheduler (ports_of plan) plan.rounds t x switch.pointers) rows-posted
        ∙ ap (scheduler (ports_of plan) plan.rounds t (slot_rows (ports_of plan) (posts_under scheduler plan) t)) is.switch_is.pointers))))

  -- the meter notes it
  pub noted : (again : List Row) → again ≡ rows → (meter : Meter) (matched : List (Option Fed))
      → ((slots : List NotedSlot) → HasNoted switch.meter slots → HasNoted meter (slots ++ record { rows = again; matched = matched } ∷ []))
      → matched ≡ decided.matched → HasNoted meter (map noted_of (schedule_under scheduler plan (t + 1)))
  noted again as_written meter matched notes m =
      let before = map noted_of (schedule_under scheduler plan t) in
      let r = as_written ∙ rows-posted in
      let one : record { rows = again; matched = matched } ≡ noted_of (decided_under scheduler (setup_for plan) (posts_under scheduler plan) t) =
      λ k. record { rows = r k; matched = m k } in
      subst (HasNoted meter) (ap (λ (n : NotedSlot). before ++ n ∷ []) one ∙ sym (noted-more scheduler plan t)) (notes before is.switch_is.noted)

  -- and needs to look only at inputs to which a packet came, or which this slot or the one before serves
  pub kept : (again : List Row) → again ≡ rows → (n : ℕ) → n ≡ ports_of plan → (matched : List (Option Fed)) → length matched ≡ ports_of plan
      → (came before served news : ℕ) → ((i : ℕ) → (Has came i → ⊥) → slice_get inputs i ≡ slice_get switch.inputs i) → AreServing switch.matched before
      → AreServing matched served → ((i : ℕ) → Has came i ⊎ (Has before i ⊎ Has served i) → Has news i)
      → WaitsAreKept n news (map noted_of (schedule_under scheduler plan t)) (record { rows = again; matched = matched })
  kept again as_written n ports matched long came before served news others was_serving serving all = λ i j level inside below lacks.
      let count = count-inputs plan switch.inputs is.inputs.plans in
      let last = is.switch_is.matched in
      waits-kept (map noted_of (schedule_under scheduler plan t)) inputs switch.inputs again matched switch.matched i j level (omega arith) below
      (as_written ∙ rows_are) (others i (λ has. lacks (all i (inl has))))
      (free-unless matched served i serving (omega arith) (λ has. lacks (all i (inr (inr has)))))
      (free-unless switch.matched before i was_serving (omega arith) (λ has. lacks (all i (inr (inl has))))) is.resting
