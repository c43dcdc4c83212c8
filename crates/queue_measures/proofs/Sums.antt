-- Each packet that goes anywhere is for one queue of its input, so what the queues count adds up to what the packets do.
use Rattle.std.proofs.Common.{◌≡◌, ◌≢◌, ◌∙◌, ℕ, zero, suc, ◌+◌, ◌<◌, ◌≤◌, ◌&&◌, not, Bool, true, false, List, [], ◌∷◌, length, Option, Some, slice_get}
use Rattle.std.proofs.Common.{refl, sym, ap, arith, inl, inr, if◌then◌else◌}
use Rattle.std.specs.Prelude.{All}
use Rattle.std.specs.List.{range_with_len, sum_by}
use Rattle.std.proofs.lemmas.Bool.{cases_eq, cases_Bool}
use Rattle.std.proofs.lemmas.List.Sums.{sum_by-cons}
use Rattle.slot_match.specs.declared.matching.Served.{Served}
use Rattle.card_core.specs.declared.plan.Planned.{Planned}
use Rattle.card_core.specs.Plans.{Plan, Queue, IsGoodPlan, is_queue, queue_of}
use Rattle.card_core.specs.Queues.{is_routed, is_admitted}
use Rattle.card_core.proofs.Passing.{is_queue-same}
use Rattle.card_core.proofs.Arriving.{is_queue-refl}
use Rattle.card_core.proofs.Admitting.{count-is, both-are}
use Rattle.std_lemmas.proofs.Sums.{sum_by-zero, sum_by-plus, sum_by-same}
use Rattle.std_lemmas.proofs.MappedSums.{sum_by-map}
use Rattle.queue_lengths.specs.Lengths.{IsQueue, count_of, place_of, queues_of, is_for}
use Rattle.queue_measures.specs.Steps.{queue_at}
use Rattle.queue_measures.specs.Sums.{AddUp}
use Rattle.queue_lengths.proofs.Places.{place-same, place-inside, IsQueue-packet}
use Rattle.queue_measures.proofs.Counting.{at-place}
use Rattle.queue_measures.proofs.Report.{queues-placed, all-early}

-- ---- a sum with a term at one place alone
range-none : (f : ℕ → ℕ) (a n : ℕ) → ((i : ℕ) → a ≤ i → i < a + n → f i ≡ 0) → sum_by f (range_with_len a n) ≡ 0
range-none f a zero none = refl
range-none f a (suc n) none =
    let here = none a (omega arith) (omega arith) in
    let rest = range-none f (a + 1) n (λ i from below. none i (omega arith) (omega arith)) in
    omega (arith, here, rest, sum_by-cons f a (range_with_len (a + 1) n))

range-one : (f : ℕ → ℕ) (a n m : ℕ) → a ≤ m → m < a + n → ((i : ℕ) → a ≤ i → i < a + n → i ≢ m → f i ≡ 0) → sum_by f (range_with_len a n) ≡ f m
range-one f a zero m from below none = absurd (omega (arith, from, below))
range-one f a (suc n) m from below none =
    let step = sum_by-cons f a (range_with_len (a + 1) n) in
    elim (cases_eq a m) [
      | inl same ↦
          let rest = range-none f (a + 1) n (λ i later inside. none i (omega arith) (omega arith) (omega arith)) in
          let here = ap f same in
          omega (arith, step, rest, here)
      | inr differ ↦
          let here = none a (omega arith) (omega arith) differ in
          let rest = range-one f (a + 1) n m (omega arith) (omega arith) (λ i later inside. none i (omega arith) (omega arith)) in
          omega (arith, step, rest, here)
    ]

-- ---- a packet is for one queue
module _ (ports : ℕ) (r : Queue) (mine : IsQueue ports r) (w : ℕ) where
  abbrev at : ℕ → ℕ
  at place = if is_queue (queue_at ports place) r then w else 0

  elsewhere : (place : ℕ) → place < count_of ports → place ≢ place_of ports r → at place ≡ 0
  elsewhere place inside differ =
      let it = at-place ports place inside in
      elim (cases_Bool (is_queue (queue_at ports place) r)) [
        | inl hit ↦ absurd (differ (sym it.1 ∙ ap (place_of ports) (is_queue-same (queue_at ports place) r hit)))
        | inr miss ↦ ap (λ b. if b then w else 0) miss
      ]

  there : at (place_of ports r) ≡ w
  there =
      let it = at-place ports (place_of ports r) (place-inside ports r mine) in
      let same = place-same ports (queue_at ports (place_of ports r)) r it.0 mine it.1 in
      ap (λ q. if is_queue q r then w else 0) same ∙ ap (λ b. if b then w else 0) (is_queue-refl r)

  one-queue : sum_by (λ q. if is_queue q r then w else 0) (queues_of ports) ≡ w
  one-queue =
      let inside = place-inside ports r mine in
      ap (sum_by (λ q. if is_queue q r then w else 0)) (queues-placed ports)
      ∙ sum_by-map (λ q. if is_queue q r then w else 0) (queue_at ports) (range_with_len 0 (count_of ports))
      ∙ range-one at 0 (count_of ports) (place_of ports r) (omega arith) (omega (arith, inside))
      (λ place from below differ. elsewhere place (omega (arith, below)) differ)
      ∙ there

  one-if : (b : Bool) → sum_by (λ q. if b && is_queue q r then w else 0) (queues_of ports) ≡ (if b then w else 0)
  one-if true = one-queue
  one-if false = sum_by-zero (queues_of ports)

-- ---- over all packets
module _ (ports : ℕ) (weight : Planned → ℕ) where
  -- what a packet counts at a queue
  abbrev at_queue : Queue → Planned → ℕ
  at_queue q p = if is_for q p then weight p else 0

  queues-total : (ps : List Planned) → ((k : ℕ) (p : Planned) → slice_get ps k ≡ Some p → IsQueue ports (queue_of p))
      → sum_by (λ q. sum_by (at_queue q) ps) (queues_of ports) ≡ sum_by (λ p. if is_routed p then weight p else 0) ps
  queues-total [] fit = sum_by-zero (queues_of ports)
  queues-total (p ∷ ps) fit =
      sum_by-same (λ q. sum_by (at_queue q) (p ∷ ps)) (λ q. at_queue q p + sum_by (at_queue q) ps) (queues_of ports) (λ q. sum_by-cons (at_queue q) p ps)
      ∙ sum_by-plus (λ q. at_queue q p) (λ q. sum_by (at_queue q) ps) (queues_of ports)
      ∙ ap (λ n. n + sum_by (λ q. sum_by (at_queue q) ps) (queues_of ports)) (one-if ports (queue_of p) (fit 0 p refl) (weight p) (is_routed p))
      ∙ ap (λ n. (if is_routed p then weight p else 0) + n) (queues-total ps (λ k r at. fit (suc k) r at))
      ∙ sym (sum_by-cons (λ r. if is_routed r then weight r else 0) p ps)

both : (a b : Bool) → ◌≡◌ {A = ℕ} (if a && b then 1 else 0) (if a then (if b then 1 else 0) else 0)
both true b = refl
both false b = refl

module _ (plan : Plan) (good : IsGoodPlan plan) (served : List (Option Served)) (slots : ℕ) (early : All (λ packet. packet.arrival < slots) plan.packets) where
  fit : (k : ℕ) (p : Planned) → slice_get plan.packets k ≡ Some p → IsQueue plan.ports (queue_of p)
  fit k p there = IsQueue-packet plan.ports (length plan.bytes) p (good.packets k p there)

  abbrev drops : Planned → Bool
  drops p = not (is_admitted plan served p.arrival p)

  abbrev drops_one : Planned → ℕ
  drops_one p = if drops p then 1 else 0

  -- what a packet counts as dropped at a queue, in two ways
  abbrev dropped_at : Queue → Planned → ℕ
  dropped_at q p = if is_for q p && drops p then 1 else 0

  abbrev drops_at : Queue → Planned → ℕ
  drops_at q p = if is_for q p then drops_one p else 0

  dropped-at : (q : Queue) → sum_by (dropped_at q) plan.packets ≡ sum_by (drops_at q) plan.packets
  dropped-at q = sum_by-same (dropped_at q) (drops_at q) plan.packets (λ p. both (is_for q p) (drops p))

  -- and over all queues
  abbrev dropped_once : Planned → ℕ
  dropped_once p = if is_routed p && drops p then 1 else 0

  abbrev drops_once : Planned → ℕ
  drops_once p = if is_routed p then drops_one p else 0

  dropped-once : sum_by dropped_once plan.packets ≡ sum_by drops_once plan.packets
  dropped-once = sum_by-same dropped_once drops_once plan.packets (λ p. both (is_routed p) (drops p))

  pub add-up : AddUp plan served slots
  add-up = record {
    packets = queues-total plan.ports (λ p. 1) plan.packets fit
        ∙ sym (both-are plan good served slots ∙ all-early is_routed (λ p. 1) slots plan.packets early);
    dropped = sum_by-same (λ q. sum_by (dropped_at q) plan.packets) (λ q. sum_by (drops_at q) plan.packets) (queues_of plan.ports) dropped-at
        ∙ queues-total plan.ports drops_one plan.packets fit
        ∙ sym dropped-once
        ∙ sym (count-is plan good served false slots ∙ all-early (λ p. is_routed p && drops p) (λ p. 1) slots plan.packets early);
  }
