-- The numbers of a simulation, from what was counted.
use Rattle.std.proofs.Common.{◌≡◌, ◌∙◌, ◌+◌, ◌<◌, ◌≤◌, ◌==◌, ap, arith, refl, sym, ℕ, List, [], ◌∷◌, ◌++◌, length, map, slice_index, sum}
use Rattle.std.specs.Prelude.{Option, None, Some, filter_map, flat_map, option_to_list, sum_by, if◌then◌else◌}
use Rattle.std.specs.List.{range_with_len}
use Rattle.std.proofs.lemmas.List.{length-map}
use Rattle.std.proofs.lemmas.List.Elements.{filter_map-append}
use Rattle.std.proofs.lemmas.List.FromFn.{map-range_with_len_more}
use Rattle.std_lemmas.proofs.MappedSums.{count_map, sum_by-map}
use Rattle.std_lemmas.proofs.Ranges.{range_more}
use Rattle.service_bound.specs.Waits.{greatest}
use Rattle.arrival_queues.specs.Queues.{held_count}
use Rattle.delay_counts.specs.CountSteps.{place_count}
use Rattle.delay_counts.specs.Delays.{counts_of, greatest as longest_of, percentile}
use Rattle.simulated_slots.specs.Jobs.{JobValue, batch_of}
use Rattle.simulated_slots.specs.TableSteps.{BatchDelay}
use Rattle.simulated_slots.specs.Slots.{slot_of}
use Rattle.simulated_slots.specs.declared.arrivals.Arrivals.{Arrivals}
use Rattle.simulated_slots.specs.declared.departed.Departed.{Departed}
use Rattle.simulated_runs.specs.declared.numbers.BatchNumbers.{BatchNumbers}
use Rattle.simulated_runs.specs.Numbers.{Departure, NumbersValue, arrivals, batch_numbers, delay_of, departures, drops, longest_wait_in, measured}
use Rattle.simulated_runs.specs.Numbers.{numbers_after, port_of, shares, waiting_before}
use Rattle.simulated_runs.specs.SimulationSteps.{HasCountedDeparted, HasTakenIn, batch_delays}

-- each of the numbers is that of the first t slots
pub record AreTold (job : JobValue) (t : ℕ) (n : NumbersValue) : Type 0 where
  pub arrived : n.arrived ≡ length (arrivals job t)
  pub dropped : n.dropped ≡ length (drops job t)
  pub departed : n.departed ≡ length (departures job t)
  pub before : n.before ≡ waiting_before job job.settings.warm_up
  pub waiting : n.waiting ≡ waiting_before job t
  pub cell_slots : n.cell_slots ≡ sum_by (λ s. held_count (slot_of job s).after.queues) (measured job t)
  pub delays : n.delays ≡ sum (map delay_of (departures job t))
  pub percentiles : n.percentiles ≡ map (λ share. percentile share (map delay_of (departures job t))) shares
  pub longest_delay : n.longest_delay ≡ longest_of (map delay_of (departures job t))
  pub rounds_used : n.rounds_used ≡ sum_by (λ s. (slot_of job s).decision.numbers.used) (measured job t)
  pub first_pairs : n.first_pairs ≡ sum_by (λ s. (slot_of job s).decision.numbers.first) (measured job t)
  pub peak : n.peak ≡ greatest (flat_map (λ s. (slot_of job s).lengths) (range_with_len 0 t))
  pub most : n.most ≡ greatest (map (λ s. held_count (slot_of job s).filled) (range_with_len 0 t))
  pub longest_wait : n.longest_wait ≡ longest_wait_in job t
  pub ports : n.ports ≡ map (port_of job t) (range_with_len 0 job.traffic.ports)
  pub batches : n.batches ≡ map (batch_numbers job t) (range_with_len 0 job.settings.batches)
  pub counts : n.counts ≡ counts_of (map delay_of (departures job t))

pub told-is : (job : JobValue) (t : ℕ) (n : NumbersValue) → AreTold job t n → n ≡ numbers_after job t
unfolding numbers_after
told-is job t n told = λ i. record {
  arrived = told.arrived i;
  dropped = told.dropped i;
  departed = told.departed i;
  before = told.before i;
  waiting = told.waiting i;
  cell_slots = told.cell_slots i;
  delays = told.delays i;
  percentiles = told.percentiles i;
  longest_delay = told.longest_delay i;
  rounds_used = told.rounds_used i;
  first_pairs = told.first_pairs i;
  peak = told.peak i;
  most = told.most i;
  longest_wait = told.longest_wait i;
  ports = told.ports i;
  batches = told.batches i;
  counts = told.counts i;
}

-- how many cells were counted
pub arrived-is : (job : JobValue) (t : ℕ) (taken : Arrivals) → HasTakenIn job t taken → taken.arrived.total ≡ length (arrivals job t)
arrived-is job t taken has = has.arrived.total ∙ length-map (arrivals job t) (λ c. c.input)

pub dropped-is : (job : JobValue) (t : ℕ) (taken : Arrivals) → HasTakenIn job t taken → taken.dropped.total ≡ length (drops job t)
dropped-is job t taken has = has.dropped.total ∙ length-map (drops job t) (λ c. c.input)

pub departed-is : (job : JobValue) (t : ℕ) (departed : Departed) → HasCountedDeparted job t departed → departed.delays.total ≡ length (departures job t)
departed-is job t departed has = has.delays.total ∙ length-map (departures job t) delay_of

-- what is given of one number more
pub filter_map-range_more : {X : Type 0} (f : ℕ → Option X) (k : ℕ)
    → filter_map f (range_with_len 0 (k + 1)) ≡ filter_map f (range_with_len 0 k) ++ option_to_list (f k)
filter_map-range_more {X} f k = ap (filter_map f) (range_more k) ∙ (filter_map-append f (range_with_len 0 k) (k ∷ [])
    ∙ ap (λ (more : List X). filter_map f (range_with_len 0 k) ++ more) (one (f k) refl))
  where
    one : (o : Option X) → f k ≡ o → filter_map f (k ∷ []) ≡ option_to_list (f k)
    one None is = rw is refl
    one (Some x) is = rw is refl

-- all places of delays
pub all-places : (k : ℕ) → k ≤ 45056 → 45056 ≤ k → k ≡ place_count
unfolding place_count
all-places k most least = omega (arith, most, least)

-- a list of the first k of what f gives, with the next
pub list-next : {X : Type 0} (f : ℕ → X) (k : ℕ) (old new : List X) (x : X) → new ≡ old ++ x ∷ [] → old ≡ map f (range_with_len 0 k) → x ≡ f k
    → new ≡ map f (range_with_len 0 (k + 1))
list-next {X} f k old new x pushed first next =
    pushed ∙ (ap (λ (xs : List X). xs ++ x ∷ []) first ∙ (ap (λ (y : X). map f (range_with_len 0 k) ++ y ∷ []) next
    ∙ sym (map-range_with_len_more f 0 k k (omega arith))))

-- a departure's delay with its batch
abbrev noted_of : JobValue → Departure → BatchDelay
noted_of job d = record { batch = batch_of job d.slot; delay = delay_of d }

-- the numbers of a batch, as they were read from what was counted
pub batch-is : (job : JobValue) (t b : ℕ) (departed : Departed) → HasCountedDeparted job t departed → (n : BatchNumbers)
    → b < length departed.batches.delays → b < length departed.batches.departed.counts → n.departed ≡ slice_index departed.batches.departed.counts b
    → n.delays ≡ slice_index departed.batches.delays b → n ≡ batch_numbers job t b
batch-is job t b departed has n inside counted count sum =
    let counts = count ∙ (has.batches.departed.counts b counted ∙ (count_map (λ (batch : ℕ). batch == b) (λ (d : BatchDelay). d.batch) (batch_delays job t)
    ∙ count_map (λ (d : BatchDelay). d.batch == b) (noted_of job) (departures job t))) in
    let sums = sum ∙ (has.batches.delays b inside
    ∙ sum_by-map (λ (d : BatchDelay). if d.batch == b then d.delay else 0) (noted_of job) (departures job t)) in
    λ i. record { departed = counts i; delays = sums i }
