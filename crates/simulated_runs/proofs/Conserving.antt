-- Conservation of cells, slot by slot.
use Rattle.std.proofs.Common.{◌≡◌, ◌∙◌, ◌+◌, ◌*◌, ◌%◌, ◌<◌, ◌≤◌, add-one, ap, refl, sym, subst, arith, ℕ, zero, suc, Bool, true, false}
use Rattle.std.proofs.Common.{List, [], ◌∷◌, ◌++◌, length, length-set, inl, inr}
use Rattle.std.specs.Prelude.{All, Option, None, Some, IfSome, sum_by, option_map, if◌then◌else◌, flat_map}
use Rattle.std.specs.List.{range_with_len}
use Rattle.std.proofs.Math.Nat.{div-lt_iff_lt-mul, mod-lt, mul-lt-mul_of_pos_right}
use Rattle.std.proofs.lemmas.Bool.{cases_Bool}
use Rattle.std.proofs.lemmas.List.{length-append, length-map, length-replicate, length_push}
use Rattle.std.proofs.lemmas.List.Elements.{All-head, All-tail}
use Rattle.std.proofs.lemmas.List.Sums.{sum_by-append, sum_by-cons}
use Rattle.std.proofs.lemmas.Nat.{mul-add-lt}
use Rattle.made_traffic.specs.declared.pattern.Pattern.{Pattern}
use Rattle.made_traffic.specs.declared.pattern.Pattern.TheVariants.{Uniform, Diagonal, LogDiagonal, HotSpot, Unbalanced}
use Rattle.made_traffic.specs.Patterns.{any_output, output_by}
use Rattle.made_traffic.specs.Sources.{SourceState, TrafficValue, begins, begun, comes, next_state, state_before}
use Rattle.made_traffic.specs.Streams.{half, low_half}
use Rattle.arrival_queues.specs.declared.cell.ArrivedCell.{ArrivedCell}
use Rattle.arrival_queues.specs.declared.queueing.Queueing.{Queueing}
use Rattle.arrival_queues.specs.declared.queueing.Queueing.TheVariants.{ByPair, ByInput, ByOutput}
use Rattle.arrival_queues.specs.Queues.{Queues, empty_queues, has_room, held_count, queue_count, queue_for, queue_of, queues_with, queues_without_head}
use Rattle.simulated_slots.specs.Jobs.{JobValue, is_measured, queueing_of}
use Rattle.simulated_slots.specs.Slots.{all_entered, all_left, cell_at, coming, departing, dropped, dropped_one, slot_of, switch_before}
use Rattle.simulated_slots.specs.ArrivalSteps.{where_measured}
use Rattle.simulated_runs.specs.Numbers.{Departure, arrivals, departures, departures_in, drops, measured, numbers_after}
use Rattle.simulated_runs.specs.Laws.{IsConserved}
use Rattle.simulated_runs.proofs.Coming.{All-given, All-range}
use Rattle.simulated_runs.proofs.MadeSlots.{after-is, came-is, departed-is, dropped-is, filled-is, left-is, served_in}
use Rattle.simulated_runs.proofs.MeasuredSlots.{flat_map-measured, none-measured, with_slots}
use Rattle.simulated_runs.proofs.Starting.{before-first}
use Rattle.simulated_runs.proofs.Weighing.{weight-left, weight-with}

-- ---- the ports of cells
any-port : (n word : ℕ) → 0 < n → any_output n word < n
any-port n word some =
    let low : low_half word < half = mod-lt word (omega arith) in
    let product : low_half word * n < half * n = mul-lt-mul_of_pos_right low some in
    (div-lt_iff_lt-mul {k = half} {x = low_half word * n} {y = n} (omega arith)).1 (omega (arith, product))

chosen : (begins : Bool) (n a b : ℕ) → a < n → b < n → (if begins then a else b) < n
chosen true n a b first other = first
chosen false n a b first other = other

output-port : (pattern : Pattern) (n i word : ℕ) → i < n → output_by pattern n i word < n
output-port Uniform n i word inside = any-port n word (omega (arith, inside))
output-port Diagonal n i word inside = chosen _ n i ((i + 1) % n) inside (mod-lt (i + 1) (omega (arith, inside)))
output-port LogDiagonal n i word inside = mod-lt _ (omega (arith, inside))
output-port (HotSpot weight) n i word inside = chosen _ n 0 (any_output n word) (omega (arith, inside)) (any-port n word (omega (arith, inside)))
output-port (Unbalanced weight) n i word inside = chosen _ n i (any_output n word) inside (any-port n word (omega (arith, inside)))

-- the output of a source, if it has one, is a port
abbrev GoesTo : ℕ → SourceState → Type 0
GoesTo n s = IfSome s.output (λ j. j < n)

state_of : (begins : Bool) (n : ℕ) (a b : SourceState) → GoesTo n a → GoesTo n b → GoesTo n (if begins then a else b)
state_of true n a b first other = first
state_of false n a b first other = other

module _ (traffic : TrafficValue) (i : ℕ) (inside : i < traffic.ports) where
  begun-port : (word stream : ℕ) → GoesTo traffic.ports (begun traffic i word stream)
  begun-port word stream = state_of (begins traffic word) traffic.ports _ _ (output-port traffic.pattern traffic.ports i _ inside) tt

  next-port : (s : SourceState) → GoesTo traffic.ports s → GoesTo traffic.ports (next_state traffic i s)
  next-port s was = state_of _ traffic.ports _ _ was (begun-port _ _)

  comes-port : (seed t : ℕ) → GoesTo traffic.ports (state_before traffic seed i t)
  unfolding state_before
  comes-port seed zero = tt
  comes-port seed (suc t) = next-port (state_before traffic seed i t) (comes-port seed t)

-- the ports of a cell are those of a switch of n ports
abbrev IsOf : ℕ → ArrivedCell → Type 0
IsOf n c = (c.input < n) × (c.output < n)

pub coming-ports : (job : JobValue) (t : ℕ) → All (IsOf job.traffic.ports) (coming job t)
coming-ports job t = All-given (cell_at job t) (λ i. i < job.traffic.ports) (IsOf job.traffic.ports)
    (λ i inside. one (comes job.traffic job.seed i t) i inside (comes-port job.traffic i inside job.seed (suc t))) (range_with_len 0 job.traffic.ports)
    (All-range job.traffic.ports)
  where
    one : (o : Option ℕ) (i : ℕ) → i < job.traffic.ports → IfSome o (λ j. j < job.traffic.ports)
        → IfSome (option_map (λ j. record { arrival = t; input = i; output = j }) o) (IsOf job.traffic.ports)
    one None i inside goes = tt
    one (Some j) i inside goes = (inside, goes)

-- ---- the queues of cells
-- a switch of n ports has all its queues
pub record HasQueues (n : ℕ) (queues : Queues) : Type 0 where
  pub ports : queues.ports ≡ n
  pub count : length queues.cells ≡ queue_count queues.queueing n

place-inside : (queueing : Queueing) (n i j : ℕ) → i < n → j < n → queue_of queueing n i j < queue_count queueing n
place-inside ByPair n i j input output = mul-add-lt i n j n input output
place-inside ByInput n i j input output = input
place-inside ByOutput n i j input output = output

pub queue-inside : (n : ℕ) (queues : Queues) (c : ArrivedCell) → HasQueues n queues → IsOf n c → queue_for queues c.input c.output < length queues.cells
queue-inside n queues c has of =
    subst (λ (m : ℕ). queue_of queues.queueing m c.input c.output < length queues.cells) (sym has.ports)
    (subst (λ (count : ℕ). queue_of queues.queueing n c.input c.output < count) (sym has.count) (place-inside queues.queueing n c.input c.output of.0 of.1))

pub HasQueues-with : (n : ℕ) (queues : Queues) (c : ArrivedCell) → HasQueues n queues → HasQueues n (queues_with queues c)
unfolding queues_with
HasQueues-with n queues c has = elim (cases_Bool (has_room queues c)) [
  | inl room ↦ rw room (record { ports = has.ports; count = length-set queues.cells _ _ ∙ has.count })
  | inr none ↦ rw none has
]

HasQueues-without : (n : ℕ) (queues : Queues) (q : ℕ) → HasQueues n queues → HasQueues n (queues_without_head queues q)
unfolding queues_without_head
HasQueues-without n queues q has = record { ports = has.ports; count = length-set queues.cells _ _ ∙ has.count }

HasQueues-entered : (n : ℕ) (queues : Queues) (cs : List ArrivedCell) → HasQueues n queues → HasQueues n (all_entered queues cs)
HasQueues-entered n queues [] has = has
HasQueues-entered n queues (c ∷ cs) has = HasQueues-entered n (queues_with queues c) cs (HasQueues-with n queues c has)

HasQueues-left : (n : ℕ) (queues : Queues) (qs : List ℕ) → HasQueues n queues → HasQueues n (all_left queues qs)
HasQueues-left n queues [] has = has
HasQueues-left n queues (q ∷ qs) has = HasQueues-left n (queues_without_head queues q) qs (HasQueues-without n queues q has)

-- ---- how many there are: each counts one
abbrev one_each : ArrivedCell → ℕ
one_each c = 1

length-is : (cs : List ArrivedCell) → sum_by one_each cs ≡ length cs
length-is [] = refl
length-is (c ∷ cs) = omega (arith, sum_by-cons one_each c cs, length-is cs)

abbrev count_cells : List ArrivedCell → ℕ
count_cells cs = length cs

no_cells : count_cells [] ≡ 0
no_cells = refl

cell_before : (c : ArrivedCell) (cs : List ArrivedCell) → count_cells (c ∷ cs) ≡ one_each c + count_cells cs
cell_before c cs = omega arith

cell_behind : (cs : List ArrivedCell) (c : ArrivedCell) → count_cells (cs ++ c ∷ []) ≡ count_cells cs + one_each c
cell_behind cs c = length_push cs c

held-entered : (n : ℕ) (queues : Queues) (cs : List ArrivedCell) → HasQueues n queues → All (IsOf n) cs
    → sum_by count_cells (all_entered queues cs).cells + sum_by one_each (dropped queues cs) ≡ sum_by count_cells queues.cells + sum_by one_each cs
held-entered n queues [] has all = refl
held-entered n queues (c ∷ cs) has all =
    let first = weight-with count_cells one_each no_cells cell_before cell_behind queues c (queue-inside n queues c has (All-head (IsOf n) c cs all)) in
    let rest = held-entered n (queues_with queues c) cs (HasQueues-with n queues c has) (All-tail (IsOf n) c cs all) in
    let drops = sum_by-append one_each (dropped_one queues c) (dropped (queues_with queues c) cs) in
    omega (arith, first, rest, drops, sum_by-cons one_each c cs)

held-left : (queues : Queues) (qs : List ℕ)
    → sum_by count_cells (all_left queues qs).cells + sum_by one_each (departing queues qs) ≡ sum_by count_cells queues.cells
held-left queues qs = weight-left count_cells one_each no_cells cell_before cell_behind queues qs

-- ---- one slot
abbrev held : JobValue → ℕ → ℕ
held job t = held_count (switch_before job t).queues

module _ (job : JobValue) where
  HasQueues-next : (t : ℕ) → HasQueues job.traffic.ports (switch_before job t).queues → HasQueues job.traffic.ports (switch_before job (t + 1)).queues
  HasQueues-next t has = subst (HasQueues job.traffic.ports) (sym (left-is job t) ∙ sym (ap (λ switch. switch.queues) (after-is job t)))
      (HasQueues-left job.traffic.ports (slot_of job t).filled (served_in job t)
      (subst (HasQueues job.traffic.ports) (sym (filled-is job t)) (HasQueues-entered job.traffic.ports (switch_before job t).queues (coming job t) has)))

  HasQueues-first : HasQueues job.traffic.ports (switch_before job 0).queues
  HasQueues-first = subst (HasQueues job.traffic.ports) (sym (before-first job)) (record { ports = refl; count = length-made })
    where
      length-made : length (empty_queues (queueing_of job.settings.discipline) job.traffic.ports job.settings.depth).cells
          ≡ queue_count (queueing_of job.settings.discipline) job.traffic.ports
      length-made = length-replicate (queue_count (queueing_of job.settings.discipline) job.traffic.ports) []

  pub HasQueues-before : (t : ℕ) → HasQueues job.traffic.ports (switch_before job t).queues
  HasQueues-before zero = HasQueues-first
  HasQueues-before (suc t) = subst (λ (s : ℕ). HasQueues job.traffic.ports (switch_before job s).queues) (add-one t) (HasQueues-next t (HasQueues-before t))

  filled-held : (t : ℕ) → held_count (slot_of job t).filled + length (slot_of job t).dropped ≡ held job t + length (slot_of job t).came
  unfolding held_count
  filled-held t =
      let all = held-entered job.traffic.ports (switch_before job t).queues (coming job t) (HasQueues-before t) (coming-ports job t) in
      let filled = ap (λ (queues : Queues). sum_by count_cells queues.cells) (filled-is job t) in
      let drops = ap count_cells (dropped-is job t) in
      let came = ap count_cells (came-is job t) in
      omega (arith, all, filled, drops, came, length-is (coming job t), length-is (dropped (switch_before job t).queues (coming job t)))

  left-held : (t : ℕ) → held job (t + 1) + length (slot_of job t).departed ≡ held_count (slot_of job t).filled
  unfolding held_count
  left-held t =
      let all = held-left (slot_of job t).filled (served_in job t) in
      let after = ap (λ switch. sum_by count_cells switch.queues.cells) (after-is job t) in
      let left = ap (λ (queues : Queues). sum_by count_cells queues.cells) (left-is job t) in
      let gone = ap count_cells (departed-is job t) in
      omega (arith, all, after, left, gone, length-is (departing (slot_of job t).filled (served_in job t)))

  -- ---- all measured slots before slot t
  abbrev Balances : ℕ → Type 0
  Balances t = length (arrivals job t) + held job job.settings.warm_up ≡ length (drops job t) + length (departures job t) + held job t

  count-more : {X : Type 0} (f : ℕ → List X) (t : ℕ) → is_measured job t ≡ true
      → length (flat_map f (measured job (t + 1))) ≡ length (flat_map f (measured job t)) + length (f t)
  count-more {X} f t test = ap (λ (xs : List X). length xs)
      (flat_map-measured f job t ∙ ap (λ (m : Bool). flat_map f (measured job t) ++ where_measured m (f t)) test)
      ∙ length-append (flat_map f (measured job t)) (f t)

  Balances-more : (t : ℕ) → is_measured job t ≡ true → Balances t → Balances (t + 1)
  Balances-more t test so_far =
      let came = count-more (λ s. (slot_of job s).came) t test in
      let gone = count-more (λ s. (slot_of job s).dropped) t test in
      let left = count-more (departures_in job) t test in
      let each = length-map {B = Departure} (slot_of job t).departed (λ cell. record { slot = t; cell = cell }) in
      omega (arith, came, gone, left, each, filled-held t, left-held t, so_far)

  Balances-first : Balances job.settings.warm_up
  Balances-first =
      let slots = none-measured job in
      let came : length (arrivals job job.settings.warm_up) ≡ 0 = ap (λ (ss : List ℕ). length (flat_map (λ s. (slot_of job s).came) ss)) slots in
      let gone : length (drops job job.settings.warm_up) ≡ 0 = ap (λ (ss : List ℕ). length (flat_map (λ s. (slot_of job s).dropped) ss)) slots in
      let left : length (departures job job.settings.warm_up) ≡ 0 = ap (λ (ss : List ℕ). length (flat_map (departures_in job) ss)) slots in
      omega (arith, came, gone, left)

  pub conserved : (t : ℕ) → job.settings.warm_up ≤ t → IsConserved (numbers_after job t)
  unfolding numbers_after
  conserved t later = with_slots job Balances Balances-first Balances-more t later
