-- What slots are wanted of a run; and steps of proofs: where nothing is wanted, nothing is noted, after any number of slots.
use Rattle.std.specs.Prelude.{◌≡◌, ℕ, ◌||◌, Bool, true, false, Option, None, Some}
use Rattle.eslip_rounds.specs.Schedulers.{Scheduler}
use Rattle.switch_plan.specs.GoodPlans.{SwitchPlan}
use Rattle.run_notes.specs.NotingSteps.{AreLinesOf, AreQueuesAfter, AreTimesAfter, HasNoted, IsJournalOf, IsKept, IsReferenceAfter, Notes}
use Rattle.run_notes.specs.declared.wanted.Wanted.{Wanted}

-- whether anything is wanted
abbrev pub wants_any : Wanted → Bool
wants_any wanted = wanted.slots || wanted.journal || wanted.reference || wanted.queues || wanted.packets

-- whether slots in which nothing happens are wanted one by one: each has a line, and a place in the journal
abbrev pub wants_each : Wanted → Bool
wants_each wanted = wanted.slots || wanted.journal

pub not_first : (a b : Bool) → (a || b) ≡ false → a ≡ false
not_first true b none = none
not_first false b none = λ i. false

pub not_second : (a b : Bool) → (a || b) ≡ false → b ≡ false
not_second true b none = absurd (cc)
not_second false b none = none

pub not_kept : {X : Type 0} (is_wanted : Bool) (P Q : X → Type 0) (x : Option X) → is_wanted ≡ false → IsKept is_wanted P x → IsKept is_wanted Q x
not_kept is_wanted P Q None none kept = record { there = kept.there; holds = tt }
not_kept is_wanted P Q (Some x) none kept = let there = kept.there in absurd (cc)

pub still_noted : (notes : Notes) (scheduler : Scheduler) (plan : SwitchPlan) (t u : ℕ) → wants_any notes.wanted ≡ false → HasNoted scheduler plan notes t
    → HasNoted scheduler plan notes u
still_noted notes scheduler plan t u none noted =
    let w = notes.wanted in
    let first_four = not_first (w.slots || w.journal || w.reference || w.queues) w.packets none in
    let first_three = not_first (w.slots || w.journal || w.reference) w.queues first_four in
    let first_two = not_first (w.slots || w.journal) w.reference first_three in
    record {
      good = noted.good;
      countable = noted.countable;
      burst = noted.burst;
      slots = not_kept w.slots (AreLinesOf scheduler plan t) (AreLinesOf scheduler plan u) notes.slots (not_first w.slots w.journal first_two) noted.slots;
      journal = not_kept w.journal (IsJournalOf scheduler plan t) (IsJournalOf scheduler plan u) notes.journal (not_second w.slots w.journal first_two)
          noted.journal;
      reference = not_kept w.reference (IsReferenceAfter scheduler plan t) (IsReferenceAfter scheduler plan u) notes.reference
          (not_second (w.slots || w.journal) w.reference first_three) noted.reference;
      queues = not_kept w.queues (AreQueuesAfter scheduler plan t) (AreQueuesAfter scheduler plan u) notes.queues
          (not_second (w.slots || w.journal || w.reference) w.queues first_four) noted.queues;
      packets = not_kept w.packets (AreTimesAfter scheduler plan t) (AreTimesAfter scheduler plan u) notes.packets
          (not_second (w.slots || w.journal || w.reference || w.queues) w.packets none) noted.packets;
    }
