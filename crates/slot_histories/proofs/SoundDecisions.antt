-- The decided slots of a legal list: their matches are matches, their pointers at ports, and rows are kept.
use Rattle.std.proofs.Common.{◌≡◌, ◌∙◌, ℕ, zero, suc, ◌+◌, ◌<◌, ◌≤◌, List, length, refl, sym, subst, arith, add-one}
use Rattle.rotating_pick.specs.declared.limits.TheConstants.{MAX_PORTS}
use Rattle.slot_match.specs.declared.rows.Row.{Row}
use Rattle.slot_match.specs.Rows.{AreWithin}
use Rattle.slot_match.specs.Matches.{unmatched, IsMatch}
use Rattle.slot_match.specs.Keeping.{KeepsRest, Keeps, Gives}
use Rattle.slot_match.proofs.Kept.{IsMatch-unmatched}
use Rattle.slot_match.proofs.KeepingParts.{KeepsRest-iff_keeps}
use Rattle.pointer_state.specs.Places.{Places, AreAtPorts, places_at_first}
use Rattle.pointer_state.proofs.Moves.{AreAtPorts-at_first}
use Rattle.eslip_rounds.specs.Slots.{Decision, Moving, AreMoved, IsSlotBy, IsSlot}
use Rattle.eslip_rounds.specs.Decisions.{decision_of}
use Rattle.eslip_rounds.specs.Schedulers.{Scheduler, IsSchedulerBy, StayAtPorts, IsScheduler}
use Rattle.eslip_rounds.proofs.Matching.{IsMatch-rounds}
use Rattle.eslip_rounds.proofs.Scheduling.{IsSchedulerBy-decision_of, IsScheduler-decision_of}
use Rattle.crossbar.specs.declared.cards.Post.{Post as CardPost}
use Rattle.slot_histories.specs.declared.events.Event.{Event}
use Rattle.slot_histories.specs.Events.{Setup, posts_of, decides, posted}
use Rattle.slot_histories.specs.Slots.{slot_rows, places_under, places_at, decision_under, decision_at, served_at}
use Rattle.slot_histories.specs.Legal.{IsLegal}
use Rattle.slot_histories.proofs.LegalLists.{AreInStep-legal, AreAccepted-legal}
use Rattle.slot_histories.proofs.PostedRows.{rows_within}

-- a decision whose match is a match, and whose pointers are at the n ports
pub record IsSoundDecision (n : ℕ) (decision : Decision) : Type 0 where
  pub matches : IsMatch n decision.matched
  pub at_ports : AreAtPorts decision.places
  pub ports : decision.places.ports ≡ n

-- the decision of a slot of request, grant and accept, after which pointers stay at ports
pub IsSoundDecision-slot : (n rounds t : ℕ) (rows : List Row) (before : Places) (decision : Decision) → AreAtPorts before → before.ports ≡ n
    → IsSlotBy StayAtPorts n rounds t rows before decision → IsSoundDecision n decision
IsSoundDecision-slot n rounds t rows before decision at_ports ports slot =
    record {
      matches = subst (IsMatch n) (sym slot.result) (IsMatch-rounds n t rows before at_ports ports (unmatched n) slot.steps (IsMatch-unmatched n) slot.chain);
      at_ports = slot.moved.0;
      ports = slot.moved.1 ∙ ports;
    }

pub ports-at_first : (n : ℕ) → (places_at_first n).ports ≡ n
unfolding places_at_first
ports-at_first n = refl

-- the decisions of a scheduler in slots whose rows are within the ports
module _ (scheduler : Scheduler) (scheduling : IsScheduler scheduler) (s : Setup) (posts : ℕ → ℕ → CardPost) (k : ℕ) (some : 0 < s.ports)
    (size : s.ports ≤ MAX_PORTS) (within : (t : ℕ) → t < k → AreWithin s.ports (slot_rows s.ports posts t)) where
  pub places_under-at_ports : (t : ℕ) → t ≤ k → AreAtPorts (places_under scheduler s posts t) × ((places_under scheduler s posts t).ports ≡ s.ports)
  places_under-at_ports zero few = (AreAtPorts-at_first s.ports some size, ports-at_first s.ports)
  places_under-at_ports (suc t) few =
      let before = places_under-at_ports t (omega arith) in
      let slot = scheduling s.ports s.rounds t (slot_rows s.ports posts t) (places_under scheduler s posts t) (within t (omega arith)) before.0 before.1 in
      (slot.moved.0, slot.moved.1 ∙ before.1)

  -- each decides a slot, also where its pointers are told to move in another way
  pub decision_under-moved : (Moves : Moving) → IsSchedulerBy Moves scheduler → (t : ℕ) → t < k
      → IsSlotBy Moves s.ports s.rounds t (slot_rows s.ports posts t) (places_under scheduler s posts t) (decision_under scheduler s posts t)
  decision_under-moved Moves moving t below =
      let before = places_under-at_ports t (omega arith) in
      moving s.ports s.rounds t (slot_rows s.ports posts t) (places_under scheduler s posts t) (within t below) before.0 before.1

  pub decision_under-slot : (t : ℕ) → t < k
      → IsSlotBy StayAtPorts s.ports s.rounds t (slot_rows s.ports posts t) (places_under scheduler s posts t) (decision_under scheduler s posts t)
  decision_under-slot t below = decision_under-moved StayAtPorts scheduling t below

  pub decision_under-sound : (t : ℕ) → t < k → IsSoundDecision s.ports (decision_under scheduler s posts t)
  decision_under-sound t below =
      let before = places_under-at_ports t (omega arith) in
      IsSoundDecision-slot s.ports s.rounds t (slot_rows s.ports posts t) (places_under scheduler s posts t)
      (decision_under scheduler s posts t) before.0 before.1 (decision_under-slot t below)

-- the decided slots of a legal list
module _ (s : Setup) (events : List Event) (some : 0 < s.ports) (size : s.ports ≤ MAX_PORTS) (legal : IsLegal s events) where
  pub places_at-legal : (t : ℕ) → t ≤ decides events → AreAtPorts (places_at s (posted events) t) × ((places_at s (posted events) t).ports ≡ s.ports)
  places_at-legal = places_under-at_ports decision_of IsScheduler-decision_of s (posted events) (decides events) some size
      (λ t below. rows_within s events t legal below)

  pub decision_at-legal : (t : ℕ) → t < decides events → IsSoundDecision s.ports (decision_at s (posted events) t)
  decision_at-legal = decision_under-sound decision_of IsScheduler-decision_of s (posted events) (decides events) some size
      (λ t below. rows_within s events t legal below)

  -- each is a slot of the scheduler, from the pointers that the one before left
  pub decision_at-slot : (t : ℕ) → t < decides events
      → IsSlot s.ports s.rounds t (slot_rows s.ports (posted events) t) (places_at s (posted events) t) (decision_at s (posted events) t)
  decision_at-slot =
      decision_under-moved decision_of IsScheduler-decision_of s (posted events) (decides events) some size
      (λ t below. rows_within s events t legal below) AreMoved IsSchedulerBy-decision_of

-- requests stay until they are served, also in a slot that is posted and not decided
pub rows_kept-posted : (s : Setup) (events : List Event) (i t : ℕ) → 0 < s.ports → s.ports ≤ MAX_PORTS → IsLegal s events → t + 1 < length (posts_of i events)
    → i < s.ports → Keeps (decision_at s (posted events) t).matched i (posted events i t).row (posted events i (t + 1)).row
rows_kept-posted s events i t some size legal below inside =
    let step = AreInStep-legal s events legal in
    let stand = AreAccepted-legal s events legal in
    let matches = (decision_at-legal s events some size legal t (omega (arith, step.posted_next i inside))).matches in
    let keeps : KeepsRest (Gives (served_at s (posted events) i t)) (posted events i t).row (posted events i (suc t)).row =
    (stand.accepted i (suc t) inside (omega arith)).keeps in
    rw add-one ((KeepsRest-iff_keeps s.ports (decision_at s (posted events) t).matched matches i (posted events i t).row (posted events i (suc t)).row).0 keeps)

pub rows_kept : (s : Setup) (events : List Event) (i t : ℕ) → 0 < s.ports → s.ports ≤ MAX_PORTS → IsLegal s events → t + 1 < decides events → i < s.ports
    → Keeps (decision_at s (posted events) t).matched i (posted events i t).row (posted events i (t + 1)).row
rows_kept s events i t some size legal below inside =
    let step = AreInStep-legal s events legal in
    rows_kept-posted s events i t some size legal (omega (arith, step.decided_posted i inside)) inside
