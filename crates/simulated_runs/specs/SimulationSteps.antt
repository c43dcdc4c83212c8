-- A simulation between two slots: what its parts are after the slots so far.
use Rattle.std.specs.Prelude.{◌≡◌, ℕ, ◌*◌, ◌^◌, ◌<◌, ◌≤◌, false, List, map, flat_map, sum_by}
use Rattle.std.specs.List.{range_with_len}
use Rattle.rotating_pick.specs.declared.limits.TheConstants.{MAX_PORTS}
use Rattle.service_bound.specs.MeterSteps.{HasNoted}
use Rattle.service_bound.specs.Waits.{greatest}
use Rattle.made_traffic.specs.Sources.{SourceValue, source_before}
use Rattle.arrival_queues.specs.Queues.{held_count}
use Rattle.arrival_queues.specs.declared.limits.TheConstants.{MAX_CELLS}
use Rattle.delay_counts.specs.CountSteps.{HasCounted as HasDelays}
use Rattle.simulated_slots.specs.declared.arrivals.Arrivals.{Arrivals}
use Rattle.simulated_slots.specs.declared.departed.Departed.{Departed}
use Rattle.simulated_slots.specs.declared.limits.TheConstants.{MAX_SLOTS}
use Rattle.simulated_slots.specs.Jobs.{JobValue, batch_of, is_ideal, queueing_of}
use Rattle.simulated_slots.specs.Slots.{slot_of, switch_before}
use Rattle.simulated_slots.specs.ArbiterSteps.{ArbiterValue}
use Rattle.simulated_slots.specs.ArrivalSteps.{AllCame, AreArrivals}
use Rattle.simulated_slots.specs.DepartureSteps.{AreDeparted}
use Rattle.simulated_slots.specs.TableSteps.{BatchDelay, HasBatched, HasCounted}
use Rattle.simulated_runs.specs.declared.slot_counts.SlotCounts.{SlotCounts}
use Rattle.simulated_runs.specs.Numbers.{arrivals, delay_of, departed_cells, departures, drops, inputs, measured}
use Rattle.simulated_runs.specs.Numbers.{noted_in, outputs, waiting_before}

-- a simulation: a job, and how many of its slots have been made
pub record SimulationValue : Type 0 where
  pub job : JobValue
  pub slot : ℕ

-- the delays of the departures, each with its batch
abbrev pub batch_delays : JobValue → ℕ → List BatchDelay
batch_delays job t = map (λ departure. record { batch = batch_of job departure.slot; delay = delay_of departure }) (departures job t)

-- the sources of a job before slot t
abbrev pub sources_before : JobValue → ℕ → List SourceValue
sources_before job t = map (λ i. source_before job.traffic job.seed i t) (range_with_len 0 job.traffic.ports)

-- the queues, and what was counted of the cells that came in the first t slots
pub record HasTakenIn (job : JobValue) (t : ℕ) (taken : Arrivals) : Type 0 where
  pub queues : taken.queues ≡ (switch_before job t).queues
  pub queueing : taken.queues.queueing ≡ queueing_of job.settings.discipline
  pub sizes : AreArrivals job.traffic.ports (MAX_PORTS * t) taken
  pub came : AllCame t taken.queues
  pub arrived : HasCounted taken.arrived (inputs (arrivals job t))
  pub dropped : HasCounted taken.dropped (inputs (drops job t))
  pub peak : taken.peak ≡ greatest (flat_map (λ s. (slot_of job s).lengths) (range_with_len 0 t))

-- the arbiter
pub record HasDecided (job : JobValue) (t : ℕ) (arbiter : ArbiterValue) : Type 0 where
  pub discipline : arbiter.discipline ≡ job.settings.discipline
  pub rounds : arbiter.rounds ≡ job.settings.rounds
  pub places : arbiter.places ≡ (switch_before job t).places
  pub picks : arbiter.picks ≡ (switch_before job t).picks
  pub ports : arbiter.places.ports ≡ job.traffic.ports
  pub few : arbiter.meter.count ≤ t
  pub noted : is_ideal job.settings.discipline ≡ false → HasNoted arbiter.meter (map (noted_in job) (range_with_len 0 t))

-- what was counted of the cells that departed
pub record HasCountedDeparted (job : JobValue) (t : ℕ) (departed : Departed) : Type 0 where
  pub sizes : AreDeparted job.traffic.ports job.settings.batches (MAX_PORTS * t) departed
  pub left : HasCounted departed.left (inputs (departed_cells job t))
  pub fed : HasCounted departed.fed (outputs (departed_cells job t))
  pub batches : HasBatched departed.batches (batch_delays job t)
  pub delays : HasDelays departed.delays (map delay_of (departures job t))

-- what was counted of whole slots
pub record HasSummed (job : JobValue) (t : ℕ) (counts : SlotCounts) : Type 0 where
  pub most : counts.most ≡ greatest (map (λ s. held_count (slot_of job s).filled) (range_with_len 0 t))
  pub before : job.settings.warm_up < t → counts.before ≡ waiting_before job job.settings.warm_up
  pub cell_slots : counts.cell_slots ≡ sum_by (λ s. held_count (slot_of job s).after.queues) (measured job t)
  pub rounds_used : counts.rounds_used ≡ sum_by (λ s. (slot_of job s).decision.numbers.used) (measured job t)
  pub first_pairs : counts.first_pairs ≡ sum_by (λ s. (slot_of job s).decision.numbers.first) (measured job t)
  pub few_cells : counts.cell_slots ≤ MAX_CELLS * t
  pub few_rounds : counts.rounds_used ≤ 2 ^ 32 * t
  pub few_pairs : counts.first_pairs ≤ 2 ^ 32 * t

-- all of it
pub record IsSimulated (job : JobValue) (t : ℕ) (sources : List SourceValue) (came : Arrivals) (arbiter : ArbiterValue) (left : Departed)
    (counts : SlotCounts) : Type 0 where
  pub size : job.traffic.ports ≤ MAX_PORTS
  pub few : job.slots ≤ MAX_SLOTS
  pub slots : t ≤ job.slots
  pub told : sources ≡ sources_before job t
  pub taken : HasTakenIn job t came
  pub decided : HasDecided job t arbiter
  pub departed : HasCountedDeparted job t left
  pub summed : HasSummed job t counts
