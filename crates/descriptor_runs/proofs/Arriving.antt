-- When packets arrive at inputs: the slot of the next arrival at one of them, and the slots in which none arrives.
use Rattle.std.proofs.Common.{◌≡◌, ◌≢◌, ◌∙◌, ℕ, ◌+◌, ◌<◌, ◌≤◌, nat_eq, min, Bool, true, false, List, length, set, Option, None, Some, refl}
use Rattle.std.proofs.Common.{sym, ap, arith, inl, inr}
use Rattle.std.specs.Prelude.{slice_get}
use Rattle.std.specs.Option.{option_eq, option_map}
use Rattle.std.proofs.lemmas.Bool.{both_ways, cases_lt, cases_eq, eqb-true, eq-eqb}
use Rattle.std.proofs.lemmas.Option.{none-some, same_Some, slice_get_within}
use Rattle.std_lemmas.proofs.Lists.{get-set_same, get-set_other, got_set}
use Rattle.card_core.specs.declared.plan.Planned.{Planned}
use Rattle.eslip_rounds.specs.Schedulers.{Scheduler}
use Rattle.switch_plan.specs.GoodPlans.{SwitchPlan}
use Rattle.run_laws.specs.Runs.{parts_under}
use Rattle.run_laws.proofs.Base.{served-length}
use Rattle.descriptor_runs.specs.InputSteps.{InputValue, next_slot}
use Rattle.descriptor_runs.specs.PortSteps.{NoneBefore, ComesTo, IsFirst, earlier_of}
use Rattle.descriptor_runs.specs.SwitchSteps.{AreInputs}
use Rattle.descriptor_runs.proofs.InputPorts.{each-more}
use Rattle.descriptor_runs.proofs.ServedInputs.{none_arrives}

-- ---- the test of a slot tells whether it is the one
pub is-now : (next : Option ℕ) (slot : ℕ) (test : Bool) → test ≡ option_eq nat_eq next (Some slot) → test ≡ true → next ≡ Some slot
is-now None slot test tells is = absurd (cc)
is-now (Some k) slot test tells is = ap Some (eqb-true k slot (sym tells ∙ is))

pub not-now : (next : Option ℕ) (slot : ℕ) (test : Bool) → test ≡ option_eq nat_eq next (Some slot) → test ≡ false → next ≢ Some slot
not-now next slot test tells not is =
    both_ways test not (tells ∙ (ap (λ first. option_eq nat_eq first (Some slot)) is ∙ eq-eqb slot slot refl))

-- ---- the next arrival
-- no packet is to come to the input before this slot
abbrev IsAfter : ℕ → InputValue → Type 0
IsAfter first input = (s : ℕ) → next_slot input ≡ Some s → first ≤ s

module _ (k : ℕ) (inputs : List InputValue) (new : InputValue) (inside : k < length inputs) where
  at-new : slice_get (set inputs k new) k ≡ Some new
  at-new = get-set_same inputs k new inside

  at-other : (i : ℕ) (input : InputValue) → i < k → slice_get inputs i ≡ Some input → slice_get (set inputs k new) i ≡ Some input
  at-other i input below at = get-set_other inputs k i new (λ e. absurd (omega arith)) ∙ at

  least-more : (first next : Option ℕ) → next_slot new ≡ next → NoneBefore k inputs first → NoneBefore (k + 1) (set inputs k new) (earlier_of first next)
  least-more None None is least = each-more (λ i (x : InputValue). next_slot x ≡ None) k inputs new inside least is
  least-more None (Some b) is least = λ i s input below at there.
      each-more (λ i (x : InputValue). IsAfter b x) k inputs new inside
      (λ i x below at s there. absurd (none-some s (sym (least i x below at) ∙ there)))
      (λ s there. let same = same_Some b s (sym is ∙ there) in omega arith) i input below at s there
  least-more (Some a) None is least = λ i s input below at there.
      each-more (λ i (x : InputValue). IsAfter a x) k inputs new inside (λ i x below at s there. least i s x below at there)
      (λ s there. absurd (none-some s (sym is ∙ there))) i input below at s there
  least-more (Some a) (Some b) is least = λ i s input below at there.
      each-more (λ i (x : InputValue). IsAfter (min a b) x) k inputs new inside
      (λ i x below at s there. let late = least i s x below at there in omega arith)
      (λ s there. let same = same_Some b s (sym is ∙ there) in omega arith) i input below at s there

  there-more : (first next : Option ℕ) → next_slot new ≡ next → ComesTo k inputs first → ComesTo (k + 1) (set inputs k new) (earlier_of first next)
  there-more None None is there = tt
  there-more None (Some b) is there = (k, new, omega arith, at-new, is)
  there-more (Some a) None is (i, input, below, at, comes) = (i, input, omega arith, at-other i input below at, comes)
  there-more (Some a) (Some b) is (i, input, below, at, comes) =
      elim (cases_lt a b) [
        | inl less ↦ let least : a ≡ min a b = omega arith in (i, input, omega arith, at-other i input below at, comes ∙ ap Some least)
        | inr more ↦ let least : b ≡ min a b = omega arith in (k, new, omega arith, at-new, is ∙ ap Some least)
      ]

-- with one input more
pub first-more : (k : ℕ) (inputs : List InputValue) (first : Option ℕ) (new : InputValue) → k < length inputs → IsFirst k inputs first
    → IsFirst (k + 1) (set inputs k new) (earlier_of first (next_slot new))
first-more k inputs first new inside is = record {
  least = least-more k inputs new inside first (next_slot new) refl is.least;
  there = there-more k inputs new inside first (next_slot new) refl is.there;
}

-- and where what is put has its next packet in the same slot
module _ (k place : ℕ) (inputs : List InputValue) (old new : InputValue) (at : slice_get inputs place ≡ Some old) (stays : next_slot new ≡ next_slot old) where
  least-stays : (first : Option ℕ) → NoneBefore k inputs first → NoneBefore k (set inputs place new) first
  least-stays None least = λ i input below there.
      elim (got_set inputs place i new input there) [
        | inl here ↦ ap next_slot here.1 ∙ (stays ∙ least place old (omega (arith, here.0)) at)
        | inr other ↦ least i input below other.1
      ]
  least-stays (Some first) least = λ i s input below there comes.
      elim (got_set inputs place i new input there) [
        | inl here ↦ least place s old (omega (arith, here.0)) at (sym stays ∙ (ap next_slot (sym here.1) ∙ comes))
        | inr other ↦ least i s input below other.1 comes
      ]

  there-stays : (first : Option ℕ) → ComesTo k inputs first → ComesTo k (set inputs place new) first
  there-stays None there = tt
  there-stays (Some first) (i, input, below, there, comes) =
      elim (cases_eq i place) [
        | inl same ↦
            let is : input ≡ old = same_Some input old (sym there ∙ (ap (slice_get inputs) same ∙ at)) in
            (place, new, omega arith, get-set_same inputs place new (slice_get_within inputs place old at), stays ∙ (ap next_slot (sym is) ∙ comes))
        | inr apart ↦ (i, input, below, get-set_other inputs place i new apart ∙ there, comes)
      ]

  pub first-stays : (first : Option ℕ) → IsFirst k inputs first → IsFirst k (set inputs place new) first
  first-stays first is = record { least = least-stays first is.least; there = there-stays first is.there }

-- ---- the slots of the next arrivals
module _ (scheduler : Scheduler) (plan : SwitchPlan) (slot : ℕ) (inputs : List InputValue) (are : AreInputs scheduler plan slot false inputs) where
  -- an input's next packet arrives in this slot or later
  pub next-late : (i s : ℕ) (input : InputValue) → slice_get inputs i ≡ Some input → next_slot input ≡ Some s → slot ≤ s
  next-late i s input at next =
      let sent = are.served i input at in
      let long = served-length scheduler plan i slot in
      late (slice_get input.plan.packets input.next) refl next where
        late : (packet : Option Planned) → slice_get input.plan.packets input.next ≡ packet → option_map (λ (p : Planned). p.arrival) packet ≡ Some s
            → slot ≤ s
        late None there is = absurd (none-some s is)
        late (Some packet) there is =
            let same = same_Some packet.arrival s is in
            let after = (are.served i input at).next.after input.next packet there (omega arith) in
            let long = served-length scheduler plan i slot in
            omega arith

  -- so none arrives in the slot where it is not that of the first arrival
  other-slot : (first : Option ℕ) → IsFirst (length inputs) inputs first → first ≢ Some slot
      → (i : ℕ) (input : InputValue) → slice_get inputs i ≡ Some input → next_slot input ≢ Some slot
  other-slot None is other i input at next =
      absurd (none-some slot (sym (is.least i input (slice_get_within inputs i input at) at) ∙ next))
  other-slot (Some first) is other i input at next =
      let early : first ≤ slot = is.least i slot input (slice_get_within inputs i input at) at next in
      let (j, soonest, below, there, comes) = is.there in
      let late : slot ≤ first = next-late j first soonest there comes in
      let same : first ≡ slot = omega arith in
      other (ap Some same)

  pub none-now : (first : Option ℕ) → IsFirst (length inputs) inputs first → first ≢ Some slot → AreInputs scheduler plan slot true inputs
  none-now first is other = record {
    plans = are.plans;
    served = λ i input at.
        let parts = parts_under scheduler plan i slot in
        let long = served-length scheduler plan i slot in
        none_arrives input parts (are.served i input at) (λ next. other-slot first is other i input at (next ∙ ap Some long));
  }
