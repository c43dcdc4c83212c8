-- As many cells wait in an ideal switch as in another one at most.
use Rattle.std.proofs.Common.{◌≡◌, ◌∙◌, ◌+◌, ◌-◌, ◌<◌, ◌≤◌, ap, refl, sym, subst, arith, ℕ, zero, suc, add-one, Bool, true, false, List, [], ◌∷◌, length}
use Rattle.std.specs.Prelude.{filter_map, if◌then◌else◌, nat_lt, option_map, slice_index_or, sum_by}
use Rattle.std.specs.List.{range_with_len}
use Rattle.std.proofs.lemmas.List.Sums.{sum_by-cons}
use Rattle.std_lemmas.proofs.Lists.{get_or-same}
use Rattle.made_traffic.specs.Sources.{IsTraffic, TrafficValue, comes}
use Rattle.arrival_queues.specs.declared.cell.ArrivedCell.{ArrivedCell}
use Rattle.arrival_queues.specs.declared.queueing.Queueing.{Queueing}
use Rattle.arrival_queues.specs.Queues.{Queues, held_count, queue_count}
use Rattle.simulated_slots.specs.Jobs.{JobValue, queueing_of}
use Rattle.simulated_slots.specs.Slots.{coming, slot_of, switch_before}
use Rattle.simulated_runs.specs.Laws.{AreCompared}
use Rattle.simulated_runs.specs.Numbers.{measured, numbers_after}
use Rattle.simulated_runs.proofs.Conserving.{HasQueues-before}
use Rattle.simulated_runs.proofs.HeadCells.{owns-before}
use Rattle.simulated_runs.proofs.IdealQueues.{by-output, long, long-next, to_output}
use Rattle.simulated_runs.proofs.MadeSlots.{after-is}
use Rattle.simulated_runs.proofs.OutputCells.{few-leave, sums, sums-next}
use Rattle.simulated_runs.proofs.Starting.{before-first}

-- ---- weights of all cells
one_cell_each : (cs : List ArrivedCell) (w : ArrivedCell → ℕ) → ((c : ArrivedCell) → w c ≤ 1) → sum_by w cs ≤ length cs
one_cell_each [] w few = omega arith
one_cell_each (c ∷ cs) w few = omega (arith, sum_by-cons w c cs, few c, one_cell_each cs w few)

one_each : (queues : List (List ArrivedCell)) (w : ArrivedCell → ℕ) → ((c : ArrivedCell) → w c ≤ 1) → sum_by (sum_by w) queues ≤ sum_by length queues
one_each [] w few = omega arith
one_each (q ∷ qs) w few =
    omega (arith, sum_by-cons (sum_by w) q qs, sum_by-cons (λ (cs : List ArrivedCell). length cs) q qs, one_cell_each q w few, one_each qs w few)

module _ (u v w : ArrivedCell → ℕ) (each : (c : ArrivedCell) → u c ≡ v c + w c) where
  cells-add : (cs : List ArrivedCell) → sum_by u cs ≡ sum_by v cs + sum_by w cs
  cells-add [] = refl
  cells-add (c ∷ cs) = omega (arith, sum_by-cons u c cs, sum_by-cons v c cs, sum_by-cons w c cs, each c, cells-add cs)

  queues-add : (qs : List (List ArrivedCell)) → sum_by (sum_by u) qs ≡ sum_by (sum_by v) qs + sum_by (sum_by w) qs
  queues-add [] = refl
  queues-add (q ∷ qs) =
      omega (arith, sum_by-cons (sum_by u) q qs, sum_by-cons (sum_by v) q qs, sum_by-cons (sum_by w) q qs, cells-add q, queues-add qs)

-- one for a cell to an output below b
abbrev below : ℕ → ArrivedCell → ℕ
below b c = if nat_lt c.output b then 1 else 0

below-few : (b : ℕ) (c : ArrivedCell) → below b c ≤ 1
below-few b c = go (nat_lt c.output b)
  where
    go : (test : Bool) → (if test then 1 else 0) ≤ 1
    go true = omega arith
    go false = omega arith

below-next : (b : ℕ) (c : ArrivedCell) → below (b + 1) c ≡ below b c + to_output b c
below-next b c = grind arith

-- the lists, each no longer than what waits for its output elsewhere
shorter : (qs : List (List ArrivedCell)) (b : ℕ) (other : Queues)
    → ((k : ℕ) → k < length qs → length (slice_index_or qs k []) ≤ sums (to_output (b + k)) other)
    → sum_by length qs + sums (below b) other ≤ held_count other
unfolding held_count
shorter [] b other each = omega (arith, one_each other.cells (below b) (below-few b))
shorter (q ∷ qs) b other each =
    let rest = shorter qs (b + 1) other (λ k inside.
    subst (λ (j : ℕ). length (slice_index_or qs k []) ≤ sums (to_output j) other) (omega arith) (each (suc k) (omega (arith, inside)))) in
    let first : length q ≤ sums (to_output b) other = subst (λ (j : ℕ). length q ≤ sums (to_output j) other) (omega arith) (each 0 (omega arith)) in
    let split : sums (below (b + 1)) other ≡ sums (below b) other + sums (to_output b) other =
    queues-add (below (b + 1)) (below b) (to_output b) (below-next b) other.cells in
    omega (arith, rest, first, split, sum_by-cons (λ (cs : List ArrivedCell). length cs) q qs)

-- ---- slot by slot
sum-least : (f g : ℕ → ℕ) (from count : ℕ) → ((s : ℕ) → from ≤ s → s < from + count → f s ≤ g s)
    → sum_by f (range_with_len from count) ≤ sum_by g (range_with_len from count)
sum-least f g from zero each = omega arith
sum-least f g from (suc count) each =
    let rest = sum-least f g (from + 1) count (λ s later soon. each s (omega (arith, later)) (omega (arith, soon))) in
    omega (
      arith,
      rest,
      each from (omega arith) (omega arith),
      sum_by-cons f from (range_with_len (from + 1) count),
      sum_by-cons g from (range_with_len (from + 1) count),
    )

-- what comes is told by the traffic and the seed
abbrev coming-by : TrafficValue → ℕ → ℕ → List ArrivedCell
coming-by traffic seed t =
    filter_map (λ i. option_map (λ j. record { arrival = t; input = i; output = j }) (comes traffic seed i t)) (range_with_len 0 traffic.ports)

module _ (ideal other : JobValue) (good : IsTraffic other.traffic) where
  pub coming-same : (t : ℕ) → ideal.traffic ≡ other.traffic → ideal.seed ≡ other.seed → coming ideal t ≡ coming other t
  coming-same t traffic seed =
      ap (λ (traffic : TrafficValue). coming-by traffic ideal.seed t) traffic ∙ ap (λ (seed : ℕ). coming-by other.traffic seed t) seed

  none-first : (j : ℕ) → long (switch_before ideal 0).queues j ≡ 0
  none-first j = ap (λ (queues : Queues). long queues j) (before-first ideal)
      ∙ ap (λ (cells : List ArrivedCell). length cells)
      (get_or-same {X = List ArrivedCell} [] (queue_count (queueing_of ideal.settings.discipline) ideal.traffic.ports) j)

  -- the queue of each output is no longer than what waits for it in the other switch
  queue-least : (t j : ℕ) → AreCompared ideal other t → j < ideal.traffic.ports
      → long (switch_before ideal t).queues j ≤ sums (to_output j) (switch_before other t).queues
  queue-least zero j compared inside = omega (arith, none-first j)
  queue-least (suc t) j compared inside =
      let before = queue-least t j (fewer t compared) inside in
      let came = ap (sum_by (to_output j)) (coming-same t compared.traffic compared.seed) in
      let one = long-next ideal compared.discipline t j inside in
      let all = sums-next (to_output j) other t (compared.kept t (omega arith)) in
      let few = few-leave other good compared.scheduled t j in
      subst (λ (s : ℕ). long (switch_before ideal s).queues j ≤ sums (to_output j) (switch_before other s).queues) (add-one t)
      (omega (arith, before, came, one, all, few))
    where
      fewer : (t : ℕ) → AreCompared ideal other (suc t) → AreCompared ideal other t
      fewer t compared = record {
        traffic = compared.traffic;
        seed = compared.seed;
        discipline = compared.discipline;
        scheduled = compared.scheduled;
        kept = λ s soon. compared.kept s (omega (arith, soon));
      }

  held-least : (t : ℕ) → AreCompared ideal other t → held_count (switch_before ideal t).queues ≤ held_count (switch_before other t).queues
  unfolding held_count
  held-least t compared =
      let queues = (switch_before ideal t).queues in
      let count : length queues.cells ≡ ideal.traffic.ports = (HasQueues-before ideal t).count
      ∙ ap (λ (by : Queueing). queue_count by ideal.traffic.ports) ((owns-before ideal t).queues_by ∙ by-output ideal compared.discipline) in
      let short = shorter queues.cells 0 (switch_before other t).queues (λ k inside.
      subst (λ (j : ℕ). long queues k ≤ sums (to_output j) (switch_before other t).queues) (omega arith)
      (queue-least t k compared (omega (arith, inside, count)))) in
      omega (arith, short)

  pub waiting-least : (t : ℕ) → AreCompared ideal other t → (numbers_after ideal t).waiting.cells ≤ (numbers_after other t).waiting.cells
  unfolding numbers_after
  waiting-least t compared = held-least t compared

  first-slots : (s t : ℕ) → s ≤ t → AreCompared ideal other t → AreCompared ideal other s
  first-slots s t early compared = record {
    traffic = compared.traffic;
    seed = compared.seed;
    discipline = compared.discipline;
    scheduled = compared.scheduled;
    kept = λ u soon. compared.kept u (omega (arith, soon, early));
  }

  abbrev stay : JobValue → ℕ → ℕ
  stay job s = held_count (slot_of job s).after.queues

  stay-least : (s t : ℕ) → s < t → AreCompared ideal other t → stay ideal s ≤ stay other s
  stay-least s t early compared =
      let after = held-least (s + 1) (first-slots (s + 1) t (omega (arith, early)) compared) in
      omega (
        arith,
        after,
        ap (λ switch. held_count switch.queues) (after-is ideal s),
        ap (λ switch. held_count switch.queues) (after-is other s),
      )

  pub cell_slots-least : (t : ℕ) → AreCompared ideal other t → ideal.settings.warm_up ≡ other.settings.warm_up
      → (numbers_after ideal t).cell_slots ≤ (numbers_after other t).cell_slots
  unfolding numbers_after
  cell_slots-least t compared same =
      let from = other.settings.warm_up in
      let least = sum-least (stay ideal) (stay other) from (t - from) (λ s later soon. stay-least s t (omega (arith, later, soon)) compared) in
      subst (λ (first : ℕ). sum_by (stay ideal) (range_with_len first (t - first)) ≤ sum_by (stay other) (measured other t)) (sym same) least
