-- What a run granted, over all inputs, queues and outputs: each slot that matches a pair adds to it, and it is no more
-- than the admitted packets bring to their outputs.
use Rattle.std.proofs.Common.{◌≡◌, ◌∙◌, ℕ, suc, ◌+◌, ◌<◌, ◌≤◌, ◌==◌, Bool, true, false, List, [], ◌∷◌, map, length, None, Some, slice_index_or, refl}
use Rattle.std.proofs.Common.{sym, ap, arith, if◌then◌else◌, length-append, add-one}
use Rattle.std.specs.Prelude.{sum_by}
use Rattle.std.specs.List.{range_with_len}
use Rattle.std.proofs.lemmas.Bool.{and_from, eq-eqb}
use Rattle.std.proofs.lemmas.List.Sums.{sum_by-cons, sum_by-le-sum_by}
use Rattle.rotating_pick.specs.declared.kinds.Kind.{Kind}
use Rattle.rotating_pick.specs.declared.kinds.Kind.TheVariants.{Uni, Multi}
use Rattle.rotating_pick.specs.declared.limits.TheConstants.{LEVELS}
use Rattle.slot_match.specs.Matches.{Serves}
use Rattle.slot_match.specs.Rows.{Names}
use Rattle.slot_match.proofs.Pairs.{Serves-along, fed_of-lt}
use Rattle.slot_match.proofs.ServedParts.{served_of-served}
use Rattle.multicast_queue.specs.FanQueues.{FanCell}
use Rattle.eslip_rounds.specs.Schedulers.{Scheduler, IsScheduler}
use Rattle.slot_histories.specs.Slots.{decision_under}
use Rattle.slot_histories.specs.Tests.{gives}
use Rattle.slot_histories.proofs.KeepingTests.{Decides-gives}
use Rattle.card_core.specs.declared.plan.Planned.{Planned}
use Rattle.card_core.specs.Plans.{Plan as CardPlan, Queue, OfOutput, OfLevel}
use Rattle.card_core.specs.Queues.{waiting, queue_in}
use Rattle.card_core.specs.Posts.{has_cells}
use Rattle.card_core.specs.Grants.{serves, first_of, granted_to}
use Rattle.card_core.proofs.Accepting.{uni-in, multi-in, left_waits}
use Rattle.card_core.proofs.CellCounts.{one_first}
use Rattle.switch_plan.specs.Totals.{work_of, total_work}
use Rattle.switch_plan.specs.GoodPlans.{SwitchPlan, IsGood, packets_in}
use Rattle.run_laws.specs.Runs.{ports_of, setup_for, card_at, no_plan, parts_under, posts_under}
use Rattle.run_laws.specs.Sums.{work_under, total_under}
use Rattle.run_laws.proofs.Base.{served-at, queue_in-same, granted_to-same, good-card, sound, is-slot, servable, pair-named}
use Rattle.std_lemmas.proofs.Sums.{range_sum-le, range_sum-less, range_sum-shift, sum_by-same}
use Rattle.run_laws.proofs.CardWork.{card_work}

-- ---- the cells of one grant
module _ (scheduler : Scheduler) (plan : SwitchPlan) where
  -- the cells that input i was granted of a queue to output j before slot t
  abbrev granted : ℕ → Queue → ℕ → ℕ → ℕ
  granted i q j t = length (granted_to (card_at plan i) q j (parts_under scheduler plan i t) t)

  -- at a level
  abbrev level_grants : ℕ → ℕ → ℕ → ℕ → ℕ
  level_grants t i j l = granted i (OfOutput j l) j t + granted i (OfLevel l) j t

  -- at all levels
  abbrev output_grants : ℕ → ℕ → ℕ → ℕ
  output_grants t i j = sum_by (level_grants t i j) (range_with_len 0 LEVELS)

  -- to all outputs
  abbrev input_grants : ℕ → ℕ → ℕ
  input_grants t i = sum_by (output_grants t i) (range_with_len 0 (ports_of plan))

  -- of all inputs
  abbrev pub all_grants : ℕ → ℕ
  all_grants t = sum_by (input_grants t) (range_with_len 0 (ports_of plan))

  -- what slot t grants input i of a queue to output j
  abbrev grant_of : ℕ → ℕ → Queue → ℕ → List FanCell
  grant_of t i q j =
      if serves q j (slice_index_or (parts_under scheduler plan i (suc t)) t None) then first_of
      (waiting (queue_in (card_at plan i) q (parts_under scheduler plan i (suc t)) t)) else []

  granted-more : (t i j : ℕ) (q : Queue) → granted i q j (suc t) ≡ granted i q j t + length (grant_of t i q j)
  granted-more t i j q =
      length-append (granted_to (card_at plan i) q j (parts_under scheduler plan i (suc t)) t) (grant_of t i q j)
      ∙ ap (λ cells. length cells + length (grant_of t i q j)) (granted_to-same scheduler plan i t (suc t) (omega arith) q j)

  level_grants-le : (t i j l : ℕ) → level_grants t i j l ≤ level_grants (suc t) i j l
  level_grants-le t i j l =
      let uni = granted-more t i j (OfOutput j l) in
      let multi = granted-more t i j (OfLevel l) in
      omega arith

  output_grants-le : (t i j : ℕ) → output_grants t i j ≤ output_grants (suc t) i j
  output_grants-le t i j = range_sum-le 0 LEVELS (level_grants t i j) (level_grants (suc t) i j) (λ l from below. level_grants-le t i j l)

  input_grants-le : (t i : ℕ) → input_grants t i ≤ input_grants (suc t) i
  input_grants-le t i = range_sum-le 0 (ports_of plan) (output_grants t i) (output_grants (suc t) i) (λ j from below. output_grants-le t i j)

  pub all_grants-le : (t : ℕ) → all_grants t ≤ all_grants (suc t)
  all_grants-le t = range_sum-le 0 (ports_of plan) (input_grants t) (input_grants (suc t)) (λ i from below. input_grants-le t i)

module _ (scheduler : Scheduler) (scheduling : IsScheduler scheduler) (plan : SwitchPlan) (good : IsGood plan) where
  -- a pair of a slot is a cell that waits, and is granted
  waits : (t i j level : ℕ) (kind : Kind) → i < ports_of plan
      → Serves (decision_under scheduler (setup_for plan) (posts_under scheduler plan) t).matched i j level kind
      → Names (posts_under scheduler plan i t).row level kind j
  waits t i j level kind inside pair = pair-named scheduler (setup_for plan) (posts_under scheduler plan) t (sound scheduler scheduling plan good t)
      (is-slot scheduler scheduling plan good t) i j level kind inside pair

  uni_waits : (t i j level : ℕ) → i < ports_of plan → Names (posts_under scheduler plan i t).row level Uni j
      → has_cells (waiting (queue_in (card_at plan i) (OfOutput j level) (parts_under scheduler plan i (suc t)) t)) ≡ true
  uni_waits t i j level inside named =
      ap (λ s. has_cells (waiting s)) (queue_in-same scheduler plan i t (suc t) (omega arith) (OfOutput j level))
      ∙ (uni-in (card_at plan i) (good-card plan good i inside).good (parts_under scheduler plan i t) t level j named).2

  multi_waits : (t i j level : ℕ) → i < ports_of plan → Names (posts_under scheduler plan i t).row level Multi j
      → has_cells (waiting (queue_in (card_at plan i) (OfLevel level) (parts_under scheduler plan i (suc t)) t)) ≡ true
  multi_waits t i j level inside named =
      let card = (good-card plan good i inside).good in
      let s = queue_in (card_at plan i) (OfLevel level) (parts_under scheduler plan i t) t in
      ap (λ s. has_cells (waiting s)) (queue_in-same scheduler plan i t (suc t) (omega arith) (OfLevel level))
      ∙ left_waits (card_at plan i) card (OfLevel level) s j (multi-in (card_at plan i) card (parts_under scheduler plan i t) t level j named).1

  given : (t i j level : ℕ) (kind : Kind) → Serves (decision_under scheduler (setup_for plan) (posts_under scheduler plan) t).matched i j level kind
      → gives (slice_index_or (parts_under scheduler plan i (suc t)) t None) j level kind ≡ true
  given t i j level kind pair =
      let matched = (decision_under scheduler (setup_for plan) (posts_under scheduler plan) t).matched in
      let found = served_of-served (ports_of plan) matched (sound scheduler scheduling plan good t).matches i j level kind pair in
      let part = found.0 in
      let alike = found.2.only j level kind pair in
      let member = (found.2.outputs j).1 (Serves-along matched i j level part.level kind part.kind alike.0 alike.1 pair) in
      ap (λ served. gives served j level kind) (served-at scheduler plan i t (suc t) (omega arith) ∙ found.1)
      ∙ (Decides-gives (Some part) j level kind).1 (member, alike.0, alike.1)

  granted_one : (t i j level : ℕ) (kind : Kind) → i < ports_of plan
      → Serves (decision_under scheduler (setup_for plan) (posts_under scheduler plan) t).matched i j level kind
      → level_grants scheduler plan t i j level + 1 ≤ level_grants scheduler plan (suc t) i j level
  granted_one t i j level Uni inside pair =
      let uni = granted-more scheduler plan t i j (OfOutput j level) in
      let multi = granted-more scheduler plan t i j (OfLevel level) in
      let served = and_from (j == j) (gives (slice_index_or (parts_under scheduler plan i (suc t)) t None) j level Uni) (eq-eqb j j refl)
      (given t i j level Uni pair) in
      let one = one_first (serves (OfOutput j level) j (slice_index_or (parts_under scheduler plan i (suc t)) t None))
      (waiting (queue_in (card_at plan i) (OfOutput j level) (parts_under scheduler plan i (suc t)) t)) served
      (uni_waits t i j level inside (waits t i j level Uni inside pair)) in
      omega arith
  granted_one t i j level Multi inside pair =
      let uni = granted-more scheduler plan t i j (OfOutput j level) in
      let multi = granted-more scheduler plan t i j (OfLevel level) in
      let one = one_first (serves (OfLevel level) j (slice_index_or (parts_under scheduler plan i (suc t)) t None))
      (waiting (queue_in (card_at plan i) (OfLevel level) (parts_under scheduler plan i (suc t)) t)) (given t i j level Multi pair)
      (multi_waits t i j level inside (waits t i j level Multi inside pair)) in
      omega arith

  -- a slot that matches a pair grants a cell
  pub pair_grants : (t i j level : ℕ) (kind : Kind) → Serves (decision_under scheduler (setup_for plan) (posts_under scheduler plan) t).matched i j level kind
      → all_grants scheduler plan t + 1 ≤ all_grants scheduler plan (suc t)
  pair_grants t i j level kind pair =
      let n = ports_of plan in
      let matched = (decision_under scheduler (setup_for plan) (posts_under scheduler plan) t).matched in
      let matches = (sound scheduler scheduling plan good t).matches in
      let inside : i < n = matches.input_in i j level kind pair in
      let count = matches.count in
      let output : j < length matched = fed_of-lt matched j (record { input = i; level = level; kind = kind }) pair in
      range_sum-less 0 n (input_grants scheduler plan t) (input_grants scheduler plan (suc t)) i (omega arith) (omega arith)
      (range_sum-less 0 n (output_grants scheduler plan t i) (output_grants scheduler plan (suc t) i) j (omega arith) (omega arith)
      (range_sum-less 0 LEVELS (level_grants scheduler plan t i j) (level_grants scheduler plan (suc t) i j) level (omega arith)
      (matches.level_in i j level kind pair) (granted_one t i j level kind inside pair)
      (λ l from below. level_grants-le scheduler plan t i j l))
      (λ k from below. output_grants-le scheduler plan t i k))
      (λ k from below. input_grants-le scheduler plan t k)

  pub all_grants-few : (t : ℕ) → all_grants scheduler plan t ≤ total_under scheduler plan t
  all_grants-few t =
      range_sum-le 0 (ports_of plan) (input_grants scheduler plan t) (λ i. sum_by (work_under scheduler plan t i) (card_at plan i).packets)
      (λ i from inside. card_work (card_at plan i) (good-card plan good i (omega arith)).good (parts_under scheduler plan i t) t (ports_of plan)
      (λ u below. servable scheduler scheduling plan good i u t (omega arith) below))

-- ---- all packets
admitted_work-le : (scheduler : Scheduler) (plan : SwitchPlan) (slots i : ℕ) (packet : Planned) → work_under scheduler plan slots i packet ≤ work_of packet
admitted_work-le scheduler plan slots i packet = some_of _ (work_of packet) where
  some_of : (b : Bool) (x : ℕ) → (if b then x else 0) ≤ x
  some_of true x = omega arith
  some_of false x = omega arith

sum_of_cards : (f : List Planned → ℕ) (cards : List CardPlan)
    → sum_by (λ i. f (slice_index_or cards i no_plan).packets) (range_with_len 0 (length cards)) ≡ sum_by f (map (λ card. card.packets) cards)
sum_of_cards f [] = refl
sum_of_cards f (card ∷ cards) =
    let at = λ (i : ℕ). f (slice_index_or (card ∷ cards) i no_plan).packets in
    sum_by-cons at 0 (range_with_len 1 (length cards))
    ∙ ap (λ n. f card.packets + n) (range_sum-shift 0 (length cards) at
    ∙ sum_by-same (λ i. at (i + 1)) (λ i. f (slice_index_or cards i no_plan).packets) (range_with_len 0 (length cards)) (λ i. ap at (add-one i))
    ∙ sum_of_cards f cards)
    ∙ sym (sum_by-cons f card.packets (map (λ c. c.packets) cards))

pub total_admitted-le : (scheduler : Scheduler) (plan : SwitchPlan) (slots : ℕ) → total_under scheduler plan slots ≤ total_work (packets_in plan)
total_admitted-le scheduler plan slots =
    let few = range_sum-le 0 (ports_of plan) (λ i. sum_by (work_under scheduler plan slots i) (card_at plan i).packets)
    (λ i. sum_by work_of (card_at plan i).packets)
    (λ i from below. sum_by-le-sum_by (work_under scheduler plan slots i) work_of (card_at plan i).packets (admitted_work-le scheduler plan slots i)) in
    let whole = sum_of_cards (sum_by work_of) plan.cards in
    omega arith
