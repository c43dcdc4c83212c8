-- Room for the packets that arrive in the first slots: where none is dropped, and where no queue is longer than a depth.
use Rattle.std.proofs.Common.{◌≡◌, ◌∙◌, ℕ, zero, suc, ◌+◌, ◌-◌, ◌<◌, ◌≤◌, ◌&&◌, not, Bool, true, false, List, [], length, Option, Some}
use Rattle.std.proofs.Common.{slice_get, refl, sym, ap, subst, arith, inl, inr, if◌then◌else◌, length-drop}
use Rattle.std.proofs.lemmas.Bool.{cases_eq, leb-true}
use Rattle.slot_match.specs.declared.matching.Served.{Served}
use Rattle.voq_banks.specs.CellQueues.{cells_with_fan}
use Rattle.card_core.specs.declared.plan.Planned.{Planned}
use Rattle.card_core.specs.Plans.{Plan, Queue, IsGoodPlan, is_queue, queue_of, size_of, arriving}
use Rattle.card_core.specs.Queues.{Passed, is_routed, fits, coming, before, is_admitted, count_before, count_in, dropped}
use Rattle.card_core.proofs.Passing.{arriving-there, kept-before}
use Rattle.card_core.proofs.Arriving.{is_queue-refl}
use Rattle.queue_lengths.specs.Lengths.{IsQueue, length_in}
use Rattle.queue_lengths.proofs.Lengths.{arrival_count, cells_count}
use Rattle.queue_lengths.proofs.Places.{IsQueue-packet}

-- each packet that arrives in one of the first slots and goes anywhere has room in its queue, were it of this depth
pub record HasRooms (depth : ℕ) (plan : Plan) (served : List (Option Served)) (slots : ℕ) : Type 0 where
  pub room : (t k : ℕ) (p : Planned) → t < slots → arriving plan t ≡ Some (k, p) → is_routed p ≡ true
      → length (before plan (queue_of p) served t).entered - (before plan (queue_of p) served t).left + size_of p ≤ depth

-- and so where the card was served what leaves the same queues
pub HasRooms-alike : (depth : ℕ) (plan : Plan) (these those : List (Option Served)) (k slots : ℕ) → slots ≤ k
    → ((q : Queue) (t : ℕ) → t < slots → before plan q those t ≡ before plan q these t) → HasRooms depth plan these k → HasRooms depth plan those slots
HasRooms-alike depth plan these those k slots few same rooms = record {
  room = λ t n p below arrives routed.
      subst (λ (s : Passed). length s.entered - s.left + size_of p ≤ depth) (sym (same (queue_of p) t below)) (rooms.room t n p (omega arith) arrives routed);
}

-- ---- where none is dropped
admits : (routed admitted : Bool) → ◌≡◌ {A = ℕ} (if routed && not admitted then 1 else 0) 0 → routed ≡ true → admitted ≡ true
admits true true none is = refl
admits true false none is = absurd (cc)
admits false admitted none is = absurd (cc)

module _ (plan : Plan) (served : List (Option Served)) where
  none_in : (k t : ℕ) → t < k → count_before false plan served k ≡ 0 → count_in false plan served t (arriving plan t) ≡ 0
  none_in zero t below none = absurd (omega arith)
  none_in (suc k) t below none = elim (cases_eq t k) [
    | inl same ↦ subst (λ u. count_in false plan served u (arriving plan u) ≡ 0) (sym same) (omega arith)
    | inr other ↦ none_in k t (omega arith) (omega arith)
  ]

  pub admitted_each : (slots : ℕ) → dropped plan served slots ≡ 0 → (t k : ℕ) (p : Planned) → t < slots → arriving plan t ≡ Some (k, p) → is_routed p ≡ true
      → is_admitted plan served t p ≡ true
  admitted_each slots none t k p below arrives routed =
      let here : count_in false plan served t (Some (k, p)) ≡ 0 = subst (λ a. count_in false plan served t a ≡ 0) arrives (none_in slots t below none) in
      admits (is_routed p) (is_admitted plan served t p) here routed

  pub HasRooms-own : (slots : ℕ) → dropped plan served slots ≡ 0 → HasRooms plan.depth plan served slots
  HasRooms-own slots none = record {
    room = λ t k p below arrives routed.
        let s = before plan (queue_of p) served t in
        leb-true (length s.entered - s.left + size_of p) plan.depth (admitted_each slots none t k p below arrives routed);
  }

-- ---- where no queue is longer
came_count : (routed mine fit : Bool) (k size fan : ℕ) → routed ≡ true → mine ≡ true → fit ≡ true
    → length (if routed && mine && fit then cells_with_fan k size fan else []) ≡ size
came_count true true true k size fan a b c = cells_count k size fan
came_count true true false k size fan a b c = absurd (cc)
came_count true false fit k size fan a b c = absurd (cc)
came_count false mine fit k size fan a b c = absurd (cc)

module _ (plan : Plan) (good : IsGoodPlan plan) (served : List (Option Served)) (slots depth : ℕ) (none : dropped plan served slots ≡ 0)
    (few : (q : Queue) (t : ℕ) → IsQueue plan.ports q → t < slots → length_in plan q served t ≤ depth) where
  room_by_length : (t k : ℕ) (p : Planned) → t < slots → arriving plan t ≡ Some (k, p) → is_routed p ≡ true
      → length (before plan (queue_of p) served t).entered - (before plan (queue_of p) served t).left + size_of p ≤ depth
  room_by_length t k p below arrives routed =
      let q = queue_of p in
      let s = before plan q served t in
      let found = arriving-there 0 plan.packets t k p arrives in
      let there : slice_get plan.packets k ≡ Some p = ap (slice_get plan.packets) (let e : k ≡ found.0 = omega (arith, found.1) in e) ∙ found.2 in
      let long = few q t (IsQueue-packet plan.ports (length plan.bytes) p (good.packets k p there)) below in
      let count = arrival_count plan q s (arriving plan t) (kept-before plan good q served t).within in
      let came : length (coming plan q s (arriving plan t)) ≡ size_of p =
      ap (λ a. length (coming plan q s a)) arrives
      ∙ came_count (is_routed p) (is_queue q q) (fits plan s p) k (size_of p) p.fan routed (is_queue-refl q)
      (admitted_each plan served slots none t k p below arrives routed) in
      omega (arith, long, count, came, length-drop s.left s.entered)

  pub HasRooms-length : HasRooms depth plan served slots
  HasRooms-length = record { room = room_by_length }
