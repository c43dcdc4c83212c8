-- An input in the slots of a gap: it is before the slot with which the run goes on as it was before the gap.
use Rattle.std.proofs.Common.{◌≡◌, ◌∙◌, ℕ, ◌<◌, ◌≤◌, ◌⊎◌, false, List, All, length, Option, Some, refl, sym, ap, subst, arith, inl, inr}
use Rattle.std.specs.Prelude.{slice_get, slice_index_or}
use Rattle.std.proofs.lemmas.Option.{slice_get_within, get_or_from_slice_get}
use Rattle.slot_match.specs.declared.matching.Served.{Served}
use Rattle.eslip_rounds.specs.Schedulers.{Scheduler}
use Rattle.card_core.specs.declared.plan.Planned.{Planned}
use Rattle.card_core.specs.Plans.{Plan as CardPlan, Queue}
use Rattle.card_core.specs.Queues.{Passed, before, admitted, dropped}
use Rattle.card_core.specs.States.{AreQueues, queue_now}
use Rattle.switch_plan.specs.GoodPlans.{SwitchPlan}
use Rattle.run_laws.specs.Runs.{ports_of, card_at, parts_under}
use Rattle.run_laws.proofs.Base.{served-length}
use Rattle.idle_slots.specs.Idle.{queue_under}
use Rattle.idle_slots.specs.Skipped.{IsGap}
use Rattle.descriptor_runs.specs.InputSteps.{InputValue, HasServed}
use Rattle.descriptor_runs.specs.SwitchSteps.{AreInputs}
use Rattle.descriptor_runs.proofs.InputPorts.{plan-of, in-ports}

-- From slot s to slot u no packet arrives at the card, and its queues and counts stay.
record IsStillCard (card : CardPlan) (now later : List (Option Served)) (s u : ℕ) : Type 0 where
  few : s ≤ u
  count : length now ≡ s
  count_later : length later ≡ u
  none : All (λ packet. (packet.arrival < s) ⊎ (u ≤ packet.arrival)) card.packets
  queues : (q : Queue) → before card q later u ≡ before card q now s
  admits : admitted card later u ≡ admitted card now s
  drops : dropped card later u ≡ dropped card now s

module _ (input : InputValue) (now later : List (Option Served)) (s u : ℕ) (still : IsStillCard input.plan now later s u)
    (sent : HasServed input now false) where
  none_before : (k : ℕ) (packet : Planned) → slice_get input.plan.packets k ≡ Some packet → input.next ≤ k → u ≤ packet.arrival
  none_before k packet at late =
      let here : slice_index_or input.plan.packets k packet ≡ packet = get_or_from_slice_get input.plan.packets k packet packet at in
      let apart : (packet.arrival < s) ⊎ (u ≤ packet.arrival) =
      subst (λ (p : Planned). (p.arrival < s) ⊎ (u ≤ p.arrival)) here (still.none k packet (slice_get_within input.plan.packets k packet at)) in
      let after = sent.next.after k packet at late in
      let count = still.count in
      elim apart [ inl early ↦ absurd (omega arith) | inr late_too ↦ late_too ]

  queue_same : (q : Queue) → queue_now false input.plan now q ≡ queue_now false input.plan later q
  queue_same q =
      ap (before input.plan q now) still.count ∙ (sym (still.queues q) ∙ sym (ap (before input.plan q later) still.count_later))

  stays : HasServed input later false
  stays =
      let few = still.few in
      let count = still.count in
      let count_later = still.count_later in
      record {
        plan = sent.plan;
        slot = refl;
        phase = refl;
        granted = refl;
        row = tt;
        next = record {
          within = sent.next.within;
          before = λ k packet at early. let was = sent.next.before k packet at early in omega arith;
          after = λ k packet at late. let is = none_before k packet at late in omega arith;
        };
        admitted = sent.admitted ∙ (ap (admitted input.plan now) count ∙ (sym still.admits ∙ sym (ap (admitted input.plan later) count_later)));
        dropped = sent.dropped ∙ (ap (dropped input.plan now) count ∙ (sym still.drops ∙ sym (ap (dropped input.plan later) count_later)));
        queues = subst (λ (at : Queue → Passed). AreQueues input.plan at input.next input.banks input.fans) (λ x q. queue_same q x) sent.queues;
      }

module _ (scheduler : Scheduler) (plan : SwitchPlan) (slot next : ℕ) (skipped : IsGap scheduler plan slot next) where
  still_card : (i : ℕ) → i < ports_of plan
      → IsStillCard (card_at plan i) (parts_under scheduler plan i slot) (parts_under scheduler plan i next) slot next
  still_card i inside =
      let begins = skipped.begins in
      let some = skipped.some in
      record {
        few = omega arith;
        count = served-length scheduler plan i slot;
        count_later = served-length scheduler plan i next;
        none = skipped.none i inside;
        queues = λ q. skipped.idle.queues i next q inside some (omega arith) ∙ ap (queue_under scheduler plan i q) (sym begins);
        admits = skipped.after.admits i inside;
        drops = skipped.after.drops i inside;
      }

  pub gap-inputs : (inputs : List InputValue) → AreInputs scheduler plan slot false inputs → AreInputs scheduler plan next false inputs
  gap-inputs inputs are = record {
    plans = are.plans;
    served = λ i input at.
        let now = parts_under scheduler plan i slot in
        let later = parts_under scheduler plan i next in
        let mine = plan-of plan inputs are.plans i input at in
        let own = subst (λ (card : CardPlan). IsStillCard card now later slot next) (sym mine)
        (still_card i (in-ports plan inputs are.plans i input at)) in
        stays input now later slot next own (are.served i input at);
  }
