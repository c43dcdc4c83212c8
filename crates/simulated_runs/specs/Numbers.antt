-- The numbers of a simulation: what is counted of its slots. A cell departs in the slot after the one that serves it.
use Rattle.std.specs.Prelude.{ℕ, ◌+◌, ◌-◌, ◌==◌, List, [], ◌∷◌, length, map, flat_map, sum, sum_by, count_by, if◌then◌else◌}
use Rattle.std.specs.List.{range_with_len}
use Rattle.service_bound.specs.Waits.{NotedSlot, greatest, longest_wait}
use Rattle.arrival_queues.specs.declared.cell.ArrivedCell.{ArrivedCell}
use Rattle.arrival_queues.specs.Queues.{Queues, held_count, rows_of}
use Rattle.delay_counts.specs.declared.counts.DelayCount.{DelayCount}
use Rattle.delay_counts.specs.Delays.{counts_of, greatest as longest_of, percentile}
use Rattle.simulated_slots.specs.Jobs.{JobValue, batch_of, is_ideal}
use Rattle.simulated_slots.specs.Slots.{slot_of, switch_before}
use Rattle.simulated_runs.specs.declared.numbers.BatchNumbers.{BatchNumbers}
use Rattle.simulated_runs.specs.declared.numbers.PortNumbers.{PortNumbers}
use Rattle.simulated_runs.specs.declared.numbers.WaitingNumbers.{WaitingNumbers}

-- the slots before slot t that are measured: those from the warm-up on
abbrev pub measured : JobValue → ℕ → List ℕ
measured job t = range_with_len job.settings.warm_up (t - job.settings.warm_up)

-- the cells that came in measured slots before slot t, and those of them that were dropped
abbrev pub arrivals : JobValue → ℕ → List ArrivedCell
arrivals job t = flat_map (λ s. (slot_of job s).came) (measured job t)

abbrev pub drops : JobValue → ℕ → List ArrivedCell
drops job t = flat_map (λ s. (slot_of job s).dropped) (measured job t)

-- a cell that left in a slot
pub record Departure : Type 0 where
  pub slot : ℕ
  pub cell : ArrivedCell

-- the departures of slot s
abbrev pub departures_in : JobValue → ℕ → List Departure
departures_in job s = map (λ cell. record { slot = s; cell = cell }) (slot_of job s).departed

-- the departures of the measured slots before slot t
abbrev pub departures : JobValue → ℕ → List Departure
departures job t = flat_map (departures_in job) (measured job t)

-- the delay of a cell, in slots: one for a cell that is served in the slot in which it comes
abbrev pub delay_of : Departure → ℕ
delay_of departure = departure.slot + 1 - departure.cell.arrival

-- the inputs of some cells, and their outputs
abbrev pub inputs : List ArrivedCell → List ℕ
inputs cells = map (λ cell. cell.input) cells

abbrev pub outputs : List ArrivedCell → List ℕ
outputs cells = map (λ cell. cell.output) cells

-- how many of some ports are port p
abbrev pub times : ℕ → List ℕ → ℕ
times p ports = count_by (λ port. port == p) ports

-- the cells that departed
abbrev pub departed_cells : JobValue → ℕ → List ArrivedCell
departed_cells job t = map (λ departure. departure.cell) (departures job t)

-- the numbers of port p after t slots
abbrev pub port_of : JobValue → ℕ → ℕ → PortNumbers
port_of job t p = record {
  arrived = times p (inputs (arrivals job t));
  dropped = times p (inputs (drops job t));
  left = times p (inputs (departed_cells job t));
  fed = times p (outputs (departed_cells job t));
}

-- the numbers of batch b after t slots
abbrev pub batch_numbers : JobValue → ℕ → ℕ → BatchNumbers
batch_numbers job t b = record {
  departed = count_by (λ departure. batch_of job departure.slot == b) (departures job t);
  delays = sum_by (λ departure. if batch_of job departure.slot == b then delay_of departure else 0) (departures job t);
}

-- for how many slots the cells of some queues have waited before slot t, in all
abbrev pub age_before : ℕ → Queues → ℕ
age_before t queues = sum_by (sum_by (λ cell. t - cell.arrival)) queues.cells

-- what waits before slot t
abbrev pub waiting_before : JobValue → ℕ → WaitingNumbers
waiting_before job t = record { cells = held_count (switch_before job t).queues; age = age_before t (switch_before job t).queues }

-- what a meter of waits notes of slot s: its rows and its match
abbrev pub noted_in : JobValue → ℕ → NotedSlot
noted_in job s = record { rows = rows_of (slot_of job s).filled; matched = (slot_of job s).decision.matched }

-- the longest wait of an output that an input asks for, in the first t slots; an ideal switch has none
abbrev pub longest_wait_in : JobValue → ℕ → ℕ
longest_wait_in job t = if is_ideal job.settings.discipline then 0 else longest_wait job.traffic.ports 0 (map (noted_in job) (range_with_len 0 t))

-- the shares of the delays, in 10,000, that percentiles are told of
abbrev pub shares : List ℕ
shares = 5000 ∷ 9000 ∷ 9900 ∷ 9990 ∷ 9999 ∷ []

-- The numbers of a simulation. Those that are not said to be of all slots are of the measured ones.
pub record NumbersValue : Type 0 where
  pub arrived : ℕ
  pub dropped : ℕ
  pub departed : ℕ
  -- before the first measured slot, and after the last
  pub before : WaitingNumbers
  pub waiting : WaitingNumbers
  -- the sum over the slots of the cells that wait when they end
  pub cell_slots : ℕ
  -- the sum of the delays, and up to which delay there are so many of them
  pub delays : ℕ
  pub percentiles : List ℕ
  pub longest_delay : ℕ
  -- the sums of the rounds that added a pair, and of the pairs of first rounds
  pub rounds_used : ℕ
  pub first_pairs : ℕ
  -- the most cells of one queue and of all together, in all slots
  pub peak : ℕ
  pub most : ℕ
  -- in all slots
  pub longest_wait : ℕ
  pub ports : List PortNumbers
  pub batches : List BatchNumbers
  pub counts : List DelayCount

-- the numbers of the first t slots of a job
unfoldable pub numbers_after : JobValue → ℕ → NumbersValue
numbers_after job t = record {
  arrived = length (arrivals job t);
  dropped = length (drops job t);
  departed = length (departures job t);
  before = waiting_before job job.settings.warm_up;
  waiting = waiting_before job t;
  cell_slots = sum_by (λ s. held_count (slot_of job s).after.queues) (measured job t);
  delays = sum (map delay_of (departures job t));
  percentiles = map (λ share. percentile share (map delay_of (departures job t))) shares;
  longest_delay = longest_of (map delay_of (departures job t));
  rounds_used = sum_by (λ s. (slot_of job s).decision.numbers.used) (measured job t);
  first_pairs = sum_by (λ s. (slot_of job s).decision.numbers.first) (measured job t);
  peak = greatest (flat_map (λ s. (slot_of job s).lengths) (range_with_len 0 t));
  most = greatest (map (λ s. held_count (slot_of job s).filled) (range_with_len 0 t));
  longest_wait = longest_wait_in job t;
  ports = map (port_of job t) (range_with_len 0 job.traffic.ports);
  batches = map (batch_numbers job t) (range_with_len 0 job.settings.batches);
  counts = counts_of (map delay_of (departures job t));
}

-- the numbers of a job
abbrev pub numbers_of : JobValue → NumbersValue
numbers_of job = numbers_after job job.slots
