-- How many packets there are, and how many enter each queue.
use Rattle.std.proofs.Common.{◌≡◌, ◌≢◌, ◌∙◌, ℕ, zero, suc, ◌+◌, ◌*◌, ◌^◌, ◌<◌, ◌≤◌, ◌==◌, ◌&&◌, Bool, true, false, List, [], ◌∷◌, ◌++◌, length, Some}
use Rattle.std.proofs.Common.{slice_get, slice_index, slice_index_or, slice_set, refl, sym, ap, subst, arith, inl, inr, count_by, replicate}
use Rattle.std.proofs.lemmas.Bool.{cases_eq, ne_eqb, and_right}
use Rattle.std.proofs.lemmas.List.{get_or-set_same, get_or-set_other, length-set, length-replicate}
use Rattle.std.proofs.lemmas.Nat.Bits.{bit_at-pow_same}
use Rattle.std.proofs.lemmas.Option.{get_or_from_slice_get}
use Rattle.rotating_pick.specs.PortSets.{Has, HasSeveral}
use Rattle.rotating_pick.proofs.Bits.{Has-lt}
use Rattle.card_core.specs.declared.limits.TheConstants.{MAX_ARRIVALS}
use Rattle.card_core.specs.declared.plan.Planned.{Planned}
use Rattle.card_core.specs.Plans.{Plan, Queue, OfOutput, OfLevel, IsGoodPlan, IsSmallPlan, AreRising, is_queue, queue_of}
use Rattle.card_core.specs.Queues.{is_routed}
use Rattle.card_core.specs.States.{packets_for, IsNext}
use Rattle.card_core.specs.StateSteps.{HasRooms, AreFew}
use Rattle.card_core.proofs.Arriving.{queue-unicast, queue-multicast, is_queue-refl, other-output, count-cons}

-- ---- as many packets as arrival slots at most
-- a packet within the list
there_at : (packets : List Planned) (k : ℕ) → k < length packets → (p : Planned) × (slice_get packets k ≡ Some p)
there_at [] k inside = absurd (omega arith)
there_at (p ∷ packets) zero inside = (p, refl)
there_at (p ∷ packets) (suc k) inside = there_at packets k (omega arith)

late : (packets : List Planned) → AreRising packets → (k : ℕ) (p : Planned) → slice_get packets k ≡ Some p → k < length packets → k ≤ p.arrival
late packets rising zero p there inside = omega arith
late packets rising (suc k) p there inside =
    let before = there_at packets k (omega arith) in
    omega (arith, late packets rising k before.0 before.1 (omega arith), rising k (suc k) before.0 p before.1 there (omega arith))

few_at : (plan : Plan) → IsGoodPlan plan → IsSmallPlan plan → (n : ℕ) → length plan.packets ≡ n → n ≤ MAX_ARRIVALS
few_at plan good small zero is = omega arith
few_at plan good small (suc n) is =
    let last = there_at plan.packets n (omega arith) in
    let early : last.0.arrival < MAX_ARRIVALS =
    subst (λ (p : Planned). p.arrival < MAX_ARRIVALS) (get_or_from_slice_get plan.packets n last.0 last.0 last.1) (small.early n last.0 (omega arith)) in
    omega (arith, late plan.packets good.rising n last.0 last.1 (omega arith), early)

pub few_packets : (plan : Plan) → IsGoodPlan plan → IsSmallPlan plan → length plan.packets ≤ MAX_ARRIVALS
few_packets plan good small = few_at plan good small (length plan.packets) refl

-- no more packets have come than slots
pub few_came : (packets : List Planned) (t next : ℕ) → AreRising packets → IsNext packets t next → next ≤ t
few_came packets t zero rising is = omega arith
few_came packets t (suc k) rising is =
    let within = is.within in
    let last = there_at packets k (omega arith) in
    omega (arith, late packets rising k last.0 last.1 (omega arith), is.before k last.0 last.1 (omega arith))

-- ---- the packets for a queue, with one more
for_push : (q : Queue) (packets : List Planned) (p : Planned) → packets_for q (packets ++ p ∷ []) ≡ packets_for q packets + packets_for q (p ∷ [])
for_push q [] p = omega arith
for_push q (x ∷ packets) p =
    let test = λ (r : Planned). is_routed r && is_queue q (queue_of r) in
    omega (arith, for_push q packets p, count-cons test x (packets ++ p ∷ []), count-cons test x packets)

one_true : (test : Planned → Bool) (p : Planned) → test p ≡ true → count_by test (p ∷ []) ≡ 1
one_true test p is = rw is refl

one_false : (test : Planned → Bool) (p : Planned) → test p ≡ false → count_by test (p ∷ []) ≡ 0
one_false test p is = rw is refl

module _ (p : Planned) where
  takes : (q : Queue) → p.fan ≢ 0 → q ≡ queue_of p → packets_for q (p ∷ []) ≡ 1
  takes q some is =
      let e : p.fan == 0 ≡ false = ne_eqb p.fan 0 some in
      let f : is_queue q (queue_of p) ≡ true = subst (λ r. is_queue q r ≡ true) is (is_queue-refl q) in
      one_true (λ r. is_routed r && is_queue q (queue_of r)) p (rw (e, f) refl)

  skips : (q : Queue) → is_queue q (queue_of p) ≡ false → packets_for q (p ∷ []) ≡ 0
  skips q no' = one_false (λ r. is_routed r && is_queue q (queue_of r)) p (and_right (is_routed p) (is_queue q (queue_of p)) no')

  module _ (ports : ℕ) (before : List Planned) (uni fan : List ℕ) (rooms : HasRooms ports before uni fan) where
    uni_case : (j : ℕ) → queue_of p ≡ OfOutput j p.level → p.fan ≢ 0 → p.level < 4 → 4 * j + p.level < length uni → (k m : ℕ) → k < ports → m < 4
        → slice_index (slice_set uni (4 * j + p.level) (slice_index_or uni (4 * j + p.level) 0 + 1)) (4 * k + m) ≡ packets_for (OfOutput k m) (before ++ p ∷ [])
    uni_case j queue some below at k m k_in m_below = elim (cases_eq (4 * k + m) (4 * j + p.level)) [
      | inl same ↦
          let port : k ≡ j = omega arith in
          let level : m ≡ p.level = omega arith in
          let mine : OfOutput k m ≡ queue_of p = ap (λ i. OfOutput i m) port ∙ ap (λ i. OfOutput j i) level ∙ sym queue in
          let n = takes (OfOutput k m) some mine in
          let old = rooms.unis k m k_in m_below in
          ap (slice_index (slice_set uni (4 * j + p.level) (slice_index_or uni (4 * j + p.level) 0 + 1))) same
          ∙ get_or-set_same uni (4 * j + p.level) (slice_index_or uni (4 * j + p.level) 0 + 1) 0 at
          ∙ ap (λ i. slice_index_or uni i 0 + 1) (sym same)
          ∙ ap (λ i. i + 1) old ∙ omega (arith, n, for_push (OfOutput k m) before p)
      | inr other ↦
          let n = skips (OfOutput k m) (ap (is_queue (OfOutput k m)) queue ∙ other-output k m j p.level (λ both. other (omega (arith, both.0, both.1)))) in
          get_or-set_other uni (4 * j + p.level) (4 * k + m) (slice_index_or uni (4 * j + p.level) 0 + 1) 0 other
          ∙ rooms.unis k m k_in m_below ∙ omega (arith, n, for_push (OfOutput k m) before p)
    ]

    pub rooms-unicast : (j : ℕ) → p.fan ≡ 2 ^ j → p.fan ≢ 0 → j < 64 → p.level < 4 → 4 * j + p.level < length uni
        → HasRooms ports (before ++ p ∷ []) (slice_set uni (4 * j + p.level) (slice_index_or uni (4 * j + p.level) 0 + 1)) fan
    rooms-unicast j is some inside below at =
        let queue = queue-unicast p j is inside in
        record {
          long = length-set uni (4 * j + p.level) (slice_index_or uni (4 * j + p.level) 0 + 1) ∙ rooms.long;
          unis = λ k m k_in m_below. uni_case j queue some below at k m k_in m_below;
          fans = λ l l_below.
              let n = skips (OfLevel l) (ap (is_queue (OfLevel l)) queue) in
              rooms.fans l l_below ∙ omega (arith, n, for_push (OfLevel l) before p);
        }

    fan_case : queue_of p ≡ OfLevel p.level → p.fan ≢ 0 → p.level < length fan → (l : ℕ) → l < 4
        → slice_index (slice_set fan p.level (slice_index_or fan p.level 0 + 1)) l ≡ packets_for (OfLevel l) (before ++ p ∷ [])
    fan_case queue some at l below = elim (cases_eq l p.level) [
      | inl same ↦
          let n = takes (OfLevel l) some (ap OfLevel same ∙ sym queue) in
          let old = rooms.fans l below in
          ap (slice_index (slice_set fan p.level (slice_index_or fan p.level 0 + 1))) same
          ∙ get_or-set_same fan p.level (slice_index_or fan p.level 0 + 1) 0 at
          ∙ ap (λ i. slice_index_or fan i 0 + 1) (sym same)
          ∙ ap (λ i. i + 1) old ∙ omega (arith, n, for_push (OfLevel l) before p)
      | inr other ↦
          let n = skips (OfLevel l) (ap (is_queue (OfLevel l)) queue ∙ ne_eqb l p.level other) in
          get_or-set_other fan p.level l (slice_index_or fan p.level 0 + 1) 0 other
          ∙ rooms.fans l below ∙ omega (arith, n, for_push (OfLevel l) before p)
    ]

    pub rooms-multicast : HasSeveral p.fan → p.fan ≢ 0 → p.level < length fan
        → HasRooms ports (before ++ p ∷ []) uni (slice_set fan p.level (slice_index_or fan p.level 0 + 1))
    rooms-multicast several some at =
        let queue = queue-multicast p several in
        record {
          long = rooms.long;
          unis = λ j l inside below.
              let n = skips (OfOutput j l) (ap (is_queue (OfOutput j l)) queue) in
              rooms.unis j l inside below ∙ omega (arith, n, for_push (OfOutput j l) before p);
          fans = λ l below. fan_case queue some at l below;
        }

-- ---- lists of rooms
-- where no packet came there are none
no_room : (n place : ℕ) → slice_index (replicate n 0) place ≡ 0
no_room zero place = refl
no_room (suc n) zero = refl
no_room (suc n) (suc place) = no_room n place

pub rooms_begin : (n : ℕ) (uni : List ℕ) → uni ≡ replicate (4 * n) 0 → HasRooms n [] uni (replicate 4 0) × AreFew 0 uni (replicate 4 0)
rooms_begin n uni is = (
  record {
    long = ap length is ∙ length-replicate (4 * n) 0;
    unis = λ j l inside below. ap (λ xs. slice_index xs (4 * j + l)) is ∙ no_room (4 * n) (4 * j + l);
    fans = λ l below. no_room 4 l;
  },
  record {
    unis = λ place. let e : slice_index uni place ≡ 0 = ap (λ xs. slice_index xs place) is ∙ no_room (4 * n) place in omega (arith, e);
    fans = λ place. let e = no_room 4 place in omega (arith, e);
  },
)

-- and as few as a greater number allows
pub few_up : (k m : ℕ) (uni fan : List ℕ) → k ≤ m → AreFew k uni fan → AreFew m uni fan
few_up k m uni fan up few = record { unis = λ place. omega (arith, few.unis place); fans = λ place. omega (arith, few.fans place) }

-- the place of a unicast queue is within the list
pub place_inside : (n fan j level len : ℕ) → fan ≡ 2 ^ j → fan < 2 ^ n → level < 4 → len ≡ 4 * n → 4 * j + level < len
place_inside n fan j level len is among below long =
    let j_in : j < n = Has-lt n fan j among (subst (λ s. Has s j) (sym is) (bit_at-pow_same j)) in
    omega arith
