-- What a card is before a slot depends on what it was served in the slots before it alone.
use Rattle.std.proofs.Common.{◌≡◌, ◌∙◌, ℕ, zero, suc, ◌<◌, ◌≤◌, ◌++◌, List, [], map, Option, None, Some, refl, ap, arith, slice_index_or, if◌then◌else◌}
use Rattle.std.specs.List.{range_with_len}
use Rattle.std.specs.Option.{option_map}
use Rattle.rotating_pick.specs.declared.limits.TheConstants.{LEVELS}
use Rattle.slot_match.specs.declared.rows.Row.{Row}
use Rattle.slot_match.specs.declared.matching.Served.{Served}
use Rattle.slot_match.specs.Parts.{set_of}
use Rattle.multicast_queue.specs.FanQueues.{first_name}
use Rattle.card_core.specs.Plans.{Plan as CardPlan, Queue, OfOutput, OfLevel, arriving, cell_named}
use Rattle.card_core.specs.Queues.{Passed, waiting, rest_of, with_arrival, after_part, before, queue_in}
use Rattle.card_core.specs.Posts.{has_cells, queue_served, row_at, granted_by, granted_at, post_at}
use Rattle.card_core.specs.Grants.{serves, first_of, granted_to}

-- the row of these queues
abbrev row_from : CardPlan → (Queue → Passed) → Row
row_from plan queues = record {
  uni = map (λ level. set_of plan.ports (λ j. has_cells (waiting (queues (OfOutput j level))))) (range_with_len 0 LEVELS);
  multi = map (λ level. rest_of (OfLevel level) (queues (OfLevel level))) (range_with_len 0 LEVELS);
}

-- two lists of parts that agree below slot k
module _ (plan : CardPlan) (these those : List (Option Served)) (k : ℕ)
    (same : (u : ℕ) → u < k → slice_index_or these u None ≡ slice_index_or those u None) where
  pub before-alike : (q : Queue) (t : ℕ) → t ≤ k → before plan q these t ≡ before plan q those t
  before-alike q zero few = refl
  before-alike q (suc t) few =
      let earlier = before-alike q t (omega arith) in
      let part = same t (omega arith) in
      ap (λ s. after_part q (with_arrival plan q (arriving plan t) s) (slice_index_or these t None)) earlier
      ∙ ap (after_part q (with_arrival plan q (arriving plan t) (before plan q those t))) part

  pub queue_in-alike : (q : Queue) (t : ℕ) → t ≤ k → queue_in plan q these t ≡ queue_in plan q those t
  queue_in-alike q t few = ap (with_arrival plan q (arriving plan t)) (before-alike q t few)

  pub row_at-alike : (t : ℕ) → t ≤ k → row_at plan these t ≡ row_at plan those t
  row_at-alike t few =
      let queues : (λ q. queue_in plan q these t) ≡ (λ q. queue_in plan q those t) = λ x q. queue_in-alike q t few x in
      ap (row_from plan) queues

  granted_by-alike : (t : ℕ) (part : Option Served) → t ≤ k → granted_by plan these t part ≡ granted_by plan those t part
  granted_by-alike t None few = refl
  granted_by-alike t (Some part) few = ap (λ s. option_map (cell_named plan) (first_name (waiting s))) (queue_in-alike (queue_served part) t few)

  pub granted_at-alike : (t : ℕ) → t ≤ k → granted_at plan these t ≡ granted_at plan those t
  granted_at-alike zero few = refl
  granted_at-alike (suc t) few = ap (granted_by plan these t) (same t (omega arith)) ∙ granted_by-alike t (slice_index_or those t None) (omega arith)

  pub post_at-alike : (t : ℕ) → t ≤ k → post_at plan these t ≡ post_at plan those t
  post_at-alike t few =
      let row = row_at-alike t few in
      let cell = granted_at-alike t few in
      cc

  pub granted_to-alike : (q : Queue) (j t : ℕ) → t ≤ k → granted_to plan q j these t ≡ granted_to plan q j those t
  granted_to-alike q j zero few = refl
  granted_to-alike q j (suc t) few =
      let earlier = granted_to-alike q j t (omega arith) in
      let queue = queue_in-alike q t (omega arith) in
      let part = same t (omega arith) in
      ap (λ cells. cells ++ (if serves q j (slice_index_or these t None) then first_of (waiting (queue_in plan q these t)) else [])) earlier
      ∙ (ap (λ s. granted_to plan q j those t ++ (if serves q j (slice_index_or these t None) then first_of (waiting s) else [])) queue
      ∙ ap (λ one. granted_to plan q j those t ++ (if serves q j one then first_of (waiting (queue_in plan q those t)) else [])) part)
