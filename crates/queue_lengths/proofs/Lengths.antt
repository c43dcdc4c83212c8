-- How many cells wait in a queue: with the packet that arrives, after what is served, and never more than the depth.
use Rattle.std.proofs.Common.{◌≡◌, ◌∙◌, ℕ, zero, suc, ◌+◌, ◌-◌, ◌≤◌, ◌==◌, ◌&&◌, Bool, true, false, List, [], ◌∷◌, ◌++◌, length, Option, Some, None}
use Rattle.std.proofs.Common.{refl, ap, arith, slice_index_or, if◌then◌else◌, length-append, length-drop}
use Rattle.std.proofs.lemmas.Bool.{and_parts, leb-true}
use Rattle.std.proofs.lemmas.List.{length-map, drop-append-le}
use Rattle.std.proofs.lemmas.List.FromFn.{length-map-range_with_len}
use Rattle.std_lemmas.proofs.Bools.{same_third}
use Rattle.slot_match.specs.declared.matching.Served.{Served}
use Rattle.multicast_queue.specs.FanQueues.{FanCell}
use Rattle.voq_banks.specs.CellQueues.{names_of_packet, cells_with_fan}
use Rattle.card_core.specs.declared.plan.Planned.{Planned}
use Rattle.card_core.specs.Plans.{Plan, Queue, IsGoodPlan, is_queue, queue_of, size_of, arriving}
use Rattle.card_core.specs.Queues.{Passed, waiting, rest_of, is_routed, fits, coming, with_arrival, with_since, head_gone, after_part_of, before}
use Rattle.card_core.specs.Queues.{queue_in, is_admitted}
use Rattle.card_core.proofs.Passing.{kept-before, is_queue-same}
use Rattle.card_core.proofs.Taking.{before-more, queue_in-more}
use Rattle.queue_lengths.specs.Lengths.{length_before, length_in, is_for}

-- the cells of a packet are as many as it has
pub cells_count : (k size fan : ℕ) → length (cells_with_fan k size fan) ≡ size
cells_count k size fan =
    length-map (names_of_packet k size) (λ name. record { name = name; fan = fan })
    ∙ length-map-range_with_len (λ i. record { packet = k; number = i; last = i + 1 == size }) 0 size

count_if : (b : Bool) (k size fan : ℕ) → length (if b then cells_with_fan k size fan else []) ≡ (if b then size else 0)
count_if true k size fan = cells_count k size fan
count_if false k size fan = refl

-- ---- what a slot serves makes no queue longer
pub gone_fewer : (s : Passed) → length (waiting (head_gone s)) ≤ length (waiting s)
gone_fewer s = omega (arith, length-drop (s.left + 1) s.entered, length-drop s.left s.entered)

pub if_fewer : (s : Passed) (since : List (Option Served)) (b : Bool) → length (waiting (if b then head_gone s else with_since s since)) ≤ length (waiting s)
if_fewer s since true = gone_fewer s
if_fewer s since false = omega arith

pub part_of_fewer : (q : Queue) (s : Passed) (part : Option Served) (w : List FanCell) → length (waiting (after_part_of q s part w)) ≤ length (waiting s)
part_of_fewer q s part [] = omega arith
part_of_fewer q s part (c ∷ w) = if_fewer s (part ∷ s.since) (rest_of q (with_since s (part ∷ s.since)) == 0)

-- ---- with the packet that arrives

module _ (plan : Plan) (q : Queue) where
  pub arrival_count : (s : Passed) (arrives : Option (ℕ × Planned)) → s.left ≤ length s.entered
      → length (waiting (with_arrival plan q arrives s)) ≡ length (waiting s) + length (coming plan q s arrives)
  arrival_count s arrives within =
      ap length (drop-append-le s.left s.entered (coming plan q s arrives) within) ∙ length-append (waiting s) (coming plan q s arrives)

  -- the cells that the packet brings to the queue
  abbrev pub gain : List (Option Served) → ℕ → Option (ℕ × Planned) → ℕ
  gain served t None = 0
  gain served t (Some (k, p)) = if is_for q p && is_admitted plan served t p then size_of p else 0

  coming_count : (served : List (Option Served)) (t : ℕ) (arrives : Option (ℕ × Planned))
      → length (coming plan q (before plan q served t) arrives) ≡ gain served t arrives
  coming_count served t None = refl
  coming_count served t (Some (k, p)) =
      let s = before plan q served t in
      let same : (is_routed p && is_queue q (queue_of p) && fits plan s p) ≡ (is_for q p && is_admitted plan served t p) =
      same_third (is_routed p) (is_queue q (queue_of p)) (fits plan s p) (is_admitted plan served t p)
      (λ mine. ap (λ r. fits plan (before plan r served t) p) (is_queue-same q (queue_of p) mine)) in
      count_if (is_routed p && is_queue q (queue_of p) && fits plan s p) k (size_of p) p.fan ∙ ap (λ b. if b then size_of p else 0) same

  -- it enters only where it fits
  entering_few : (b : Bool) (had size : ℕ) → had ≤ plan.depth → (b ≡ true → had + size ≤ plan.depth) → had + (if b then size else 0) ≤ plan.depth
  entering_few true had size few fitting = fitting refl
  entering_few false had size few fitting = omega arith

  coming_few : (s : Passed) (arrives : Option (ℕ × Planned)) → length (waiting s) ≤ plan.depth
      → length (waiting s) + length (coming plan q s arrives) ≤ plan.depth
  coming_few s None few = omega arith
  coming_few s (Some (k, p)) few =
      let enters = is_routed p && is_queue q (queue_of p) && fits plan s p in
      let count = count_if enters k (size_of p) p.fan in
      let all = entering_few enters (length (waiting s)) (size_of p) few (λ yes'.
      let fit = leb-true (length s.entered - s.left + size_of p) plan.depth (and_parts (is_routed p && is_queue q (queue_of p)) (fits plan s p) yes').1 in
      omega (arith, fit, length-drop s.left s.entered)) in
      omega (arith, count, all)

  module _ (good : IsGoodPlan plan) (served : List (Option Served)) where
    -- a slot adds what its packet brings
    pub in_count : (t : ℕ) → length_in plan q served t ≡ length_before plan q served t + gain served t (arriving plan t)
    in_count t =
        let s = before plan q served t in
        let count = arrival_count s (arriving plan t) (kept-before plan good q served t).within in
        let came = coming_count served t (arriving plan t) in
        omega (arith, count, came)

    pub next_fewer : (t : ℕ) → length_before plan q served (suc t) ≤ length_in plan q served t
    next_fewer t = part_of_fewer q (queue_in plan q served t) (slice_index_or served t None) (waiting (queue_in plan q served t))

    in_from_before : (t : ℕ) → length_before plan q served t ≤ plan.depth → length_in plan q served t ≤ plan.depth
    in_from_before t earlier =
        let s = before plan q served t in
        let count = arrival_count s (arriving plan t) (kept-before plan good q served t).within in
        let few = coming_few s (arriving plan t) earlier in
        omega (arith, count, few)

    -- no more wait than the depth
    pub before_few : (t : ℕ) → length_before plan q served t ≤ plan.depth
    before_few zero = omega arith
    before_few (suc t) =
        let fewer = next_fewer t in
        let few = in_from_before t (before_few t) in
        omega (arith, fewer, few)

    pub in_few : (t : ℕ) → length_in plan q served t ≤ plan.depth
    in_few t = in_from_before t (before_few t)

  -- ---- what is served later
  pub before_later : (served more : List (Option Served)) (t : ℕ) → t ≤ length served → length_before plan q (served ++ more) t ≡ length_before plan q served t
  before_later served more t early = ap (λ s. length (waiting s)) (before-more plan q served more t early)

  pub in_later : (served more : List (Option Served)) (t : ℕ) → t ≤ length served → length_in plan q (served ++ more) t ≡ length_in plan q served t
  in_later served more t early = ap (λ s. length (waiting s)) (queue_in-more plan q served more t early)

pub admitted_later : (plan : Plan) (served more : List (Option Served)) (t : ℕ) (p : Planned) → t ≤ length served
    → is_admitted plan (served ++ more) t p ≡ is_admitted plan served t p
admitted_later plan served more t p early = ap (λ s. fits plan s p) (before-more plan (queue_of p) served more t early)
