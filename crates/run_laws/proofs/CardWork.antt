-- What a card was granted, over all queues and outputs, is no more than its admitted packets bring to their outputs.
use Rattle.std.proofs.Common.{◌≡◌, ◌∙◌, ℕ, ◌+◌, ◌*◌, ◌<◌, ◌≤◌, ◌==◌, ◌&&◌, nat_lt, Bool, true, false, List, [], ◌∷◌, length, Option, None}
use Rattle.std.proofs.Common.{slice_index_or, refl, sym, ap, arith, inl, inr, if◌then◌else◌, length-append}
use Rattle.std.specs.Prelude.{count_ones, sum_by}
use Rattle.std.specs.List.{range_with_len}
use Rattle.std.specs.Int.{bit_at}
use Rattle.std.proofs.lemmas.Bool.{cases_eq, eq-eqb, ne_eqb}
use Rattle.std.proofs.lemmas.List.Elements.{filter-append}
use Rattle.std.proofs.lemmas.List.Sums.{sum_by-cons, sum_by-le-sum_by}
use Rattle.std.proofs.lemmas.Nat.{mul-le}
use Rattle.std.proofs.lemmas.Nat.Bits.{bit_at-lt}
use Rattle.rotating_pick.specs.declared.limits.TheConstants.{LEVELS}
use Rattle.slot_match.specs.declared.matching.Served.{Served}
use Rattle.multicast_queue.specs.FanQueues.{FanCell}
use Rattle.voq_banks.specs.CellQueues.{cells_with_fan}
use Rattle.slot_histories.specs.Tests.{has}
use Rattle.card_core.specs.declared.plan.Planned.{Planned}
use Rattle.card_core.specs.Plans.{Plan, Queue, OfOutput, OfLevel, IsGoodPlan, is_queue, queue_of, size_of}
use Rattle.card_core.specs.Queues.{is_routed, is_admitted, enters, cells_admitted}
use Rattle.card_core.specs.Posts.{row_at, IsServable}
use Rattle.card_core.specs.Grants.{granted_to, to_output}
use Rattle.card_core.proofs.CellCounts.{packet_goes, granted_few}
use Rattle.card_core.proofs.Admitting.{entered-is}
use Rattle.switch_plan.specs.Totals.{work_of}
use Rattle.std_lemmas.proofs.Sums.{sum_by-zero, sum_by-same, sum_by-plus, sum_by-turn, sum_by-times, range_sum-le, range_sum-one, bits-few}

-- ---- of one queue and one output
-- the cells that a packet brings to an output of a queue before slot t
module _ (plan : Plan) (served : List (Option Served)) (t : ℕ) where
  abbrev pub share : Queue → ℕ → Planned → ℕ
  share q j packet = if (nat_lt packet.arrival t && enters plan q served packet) && has packet.fan j then size_of packet else 0

  -- these are the shares of all packets
  admitted_go : (q : Queue) (j k : ℕ) (ps : List Planned) → length (to_output j (cells_admitted plan q served t k ps)) ≡ sum_by (share q j) ps
  admitted_go q j k [] = refl
  admitted_go q j k (p ∷ ps) =
      let here = if nat_lt p.arrival t && enters plan q served p then cells_with_fan k (size_of p) p.fan else [] in
      let rest = cells_admitted plan q served t (k + 1) ps in
      ap length (filter-append (λ (cell : FanCell). has cell.fan j) here rest)
      ∙ length-append (to_output j here) (to_output j rest)
      ∙ ap (λ n. n + length (to_output j rest)) (packet_goes j k (size_of p) p.fan (nat_lt p.arrival t && enters plan q served p))
      ∙ ap (λ n. share q j p + n) (admitted_go q j (k + 1) ps)
      ∙ sym (sum_by-cons (share q j) p ps)

-- ---- of all queues
-- a packet enters one queue
queues_one : (r : Queue) (j x : ℕ)
    → sum_by (λ l. (if is_queue (OfOutput j l) r then x else 0) + (if is_queue (OfLevel l) r then x else 0)) (range_with_len 0 LEVELS) ≤ x
queues_one (OfOutput k m) j x =
    let one = range_sum-one 0 LEVELS m x in
    let few = range_sum-le 0 LEVELS (λ l. (if (j == k) && (l == m) then x else 0) + 0) (λ l. if l == m then x else 0)
    (λ l from below. fewer (j == k) (l == m)) in
    omega arith where
      fewer : (a b : Bool) → (if a && b then x else 0) + 0 ≤ (if b then x else 0)
      fewer true b = omega arith
      fewer false true = omega arith
      fewer false false = omega arith
queues_one (OfLevel m) j x =
    let one = range_sum-one 0 LEVELS m x in
    let few = range_sum-le 0 LEVELS (λ l. 0 + (if l == m then x else 0)) (λ l. if l == m then x else 0) (λ l from below. omega arith) in
    omega arith

-- what enters a queue is what is early, where the packet is the queue's
split_test : (a r b m h : Bool) (x : ℕ) → (if (a && (r && b && m)) && h then x else 0) ≡ (if b then (if (a && r && m) && h then x else 0) else 0)
split_test true true true m h x = refl
split_test true true false m h x = refl
split_test true false true m h x = refl
split_test true false false m h x = refl
split_test false r true m h x = refl
split_test false r false m h x = refl

-- to each output that the packet goes to, its cells once
outputs_all : (ok : Bool) (n fan x : ℕ) → sum_by (λ j. if ok && has fan j then x else 0) (range_with_len 0 n) ≤ (if ok then x * count_ones fan else 0)
outputs_all true n fan x =
    let few = mul-le x (sum_by (bit_at fan) (range_with_len 0 n)) x (count_ones fan) (omega arith) (bits-few n fan) in
    let each = sum_by-same (λ j. if has fan j then x else 0) (λ j. x * bit_at fan j) (range_with_len 0 n) (λ j. bit_times (bit_at fan j) (bit_at-lt fan j)) in
    let times = sum_by-times x (bit_at fan) (range_with_len 0 n) in
    omega arith where
      bit_times : (b : ℕ) → b < 2 → (if b == 1 then x else 0) ≡ x * b
      bit_times b small = elim (cases_eq b 1) [
        | inl is ↦ rw (eq-eqb b 1 is, is) (omega arith)
        | inr other ↦ let none : b ≡ 0 = omega arith in rw (ne_eqb b 1 other, none) (omega arith)
      ]
outputs_all false n fan x = let none : sum_by (λ j. if false && has fan j then x else 0) (range_with_len 0 n) ≡ 0 = sum_by-zero (range_with_len 0 n) in
    omega arith

module _ (plan : Plan) (good : IsGoodPlan plan) (served : List (Option Served)) (t n : ℕ)
    (may : (u : ℕ) → u < t → IsServable (row_at plan served u) (slice_index_or served u None)) where
  -- whether a packet arrives before slot t and is admitted
  abbrev pub is_early : Planned → Bool
  is_early packet = nat_lt packet.arrival t && is_routed packet && is_admitted plan served packet.arrival packet

  -- what a packet brings to an output at a level
  abbrev shares : ℕ → ℕ → Planned → ℕ
  shares j l packet = share plan served t (OfOutput j l) j packet + share plan served t (OfLevel l) j packet

  level_shares : (packet : Planned) (j : ℕ)
      → sum_by (λ l. shares j l packet) (range_with_len 0 LEVELS) ≤ (if is_early packet && has packet.fan j then size_of packet else 0)
  level_shares p j =
      let x = if is_early p && has p.fan j then size_of p else 0 in
      let by = λ (q : Queue). split_test (nat_lt p.arrival t) (is_routed p) (is_queue q (queue_of p)) (is_admitted plan served p.arrival p) (has p.fan j)
      (size_of p) in
      let one = queues_one (queue_of p) j x in
      let same = sum_by-same (λ l. shares j l p)
      (λ l. (if is_queue (OfOutput j l) (queue_of p) then x else 0) + (if is_queue (OfLevel l) (queue_of p) then x else 0)) (range_with_len 0 LEVELS)
      (λ l. ap (λ a. a + share plan served t (OfLevel l) j p) (by (OfOutput j l))
      ∙ ap (λ b. (if is_queue (OfOutput j l) (queue_of p) then x else 0) + b) (by (OfLevel l))) in
      omega arith

  packet_shares : (packet : Planned)
      → sum_by (λ j. sum_by (λ l. shares j l packet) (range_with_len 0 LEVELS)) (range_with_len 0 n) ≤ (if is_early packet then work_of packet else 0)
  packet_shares p =
      let each = range_sum-le 0 n (λ j. sum_by (λ l. shares j l p) (range_with_len 0 LEVELS)) (λ j. if is_early p && has p.fan j then size_of p else 0)
      (λ j from below. level_shares p j) in
      let all = outputs_all (is_early p) n p.fan (size_of p) in
      omega arith

  -- what was granted of a queue to an output
  abbrev grants : Queue → ℕ → ℕ
  grants q j = length (granted_to plan q j served t)

  grants_few : (q : Queue) (j : ℕ) → grants q j ≤ sum_by (share plan served t q j) plan.packets
  grants_few q j =
      let few = granted_few plan good served q j t may in
      let cells = ap (λ cells. length (to_output j cells)) (entered-is plan q served good t) ∙ admitted_go plan served t q j 0 plan.packets in
      omega arith

  -- and of all queues to all outputs
  pub card_work : sum_by (λ j. sum_by (λ l. grants (OfOutput j l) j + grants (OfLevel l) j) (range_with_len 0 LEVELS)) (range_with_len 0 n)
      ≤ sum_by (λ packet. if is_early packet then work_of packet else 0) plan.packets
  card_work =
      let levels = range_with_len 0 LEVELS in
      let outputs = range_with_len 0 n in
      let both = λ (j l : ℕ). sum_by-plus (share plan served t (OfOutput j l) j) (share plan served t (OfLevel l) j) plan.packets in
      let few = range_sum-le 0 n (λ j. sum_by (λ l. grants (OfOutput j l) j + grants (OfLevel l) j) levels)
      (λ j. sum_by (λ l. sum_by (shares j l) plan.packets) levels)
      (λ j from below. range_sum-le 0 LEVELS (λ l. grants (OfOutput j l) j + grants (OfLevel l) j) (λ l. sum_by (shares j l) plan.packets)
      (λ l from' below'. let uni = grants_few (OfOutput j l) j in let multi = grants_few (OfLevel l) j in let sums = both j l in omega arith)) in
      let turned = sum_by-same (λ j. sum_by (λ l. sum_by (shares j l) plan.packets) levels)
      (λ j. sum_by (λ p. sum_by (λ l. shares j l p) levels) plan.packets) outputs
      (λ j. sum_by-turn (shares j) levels plan.packets)
      ∙ sum_by-turn (λ j p. sum_by (λ l. shares j l p) levels) outputs plan.packets in
      let most = sum_by-le-sum_by (λ p. sum_by (λ j. sum_by (λ l. shares j l p) levels) outputs)
      (λ p. if is_early p then work_of p else 0) plan.packets packet_shares in
      omega arith
