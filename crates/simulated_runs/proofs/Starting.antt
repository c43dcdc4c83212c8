-- A simulation before its first slot.
use Rattle.std.proofs.Common.{◌≡◌, ◌∙◌, ◌-◌, ap, sym, subst, refl, arith, ℕ, List, [], map}
use Rattle.std.specs.Prelude.{flat_map, sum_by}
use Rattle.std.proofs.lemmas.List.Elements.{All-replicate}
use Rattle.pointer_state.specs.Places.{Places, places_at_first}
use Rattle.service_bound.specs.MeterSteps.{HasNoted}
use Rattle.made_traffic.specs.Streams.{stream_at_first}
use Rattle.random_picks.specs.declared.picks.TheConstants.{PICKS_STREAM}
use Rattle.delay_counts.specs.CountSteps.{HasCounted as HasDelays}
use Rattle.arrival_queues.specs.Queues.{Queues, empty_queues, held_count, queue_count}
use Rattle.simulated_slots.specs.declared.arrivals.Arrivals.{Arrivals}
use Rattle.simulated_slots.specs.declared.departed.Departed.{Departed}
use Rattle.simulated_slots.specs.Jobs.{JobValue, batch_of, queueing_of}
use Rattle.simulated_slots.specs.Slots.{slot_of, switch_before}
use Rattle.simulated_slots.specs.ArbiterSteps.{ArbiterValue}
use Rattle.simulated_slots.specs.ArrivalSteps.{AllCame, AreArrivals}
use Rattle.simulated_slots.specs.DepartureSteps.{AreDeparted}
use Rattle.simulated_slots.specs.TableSteps.{CountTable, HasBatched, HasCounted}
use Rattle.simulated_slots.proofs.TakingIn.{AllBefore}
use Rattle.simulated_runs.specs.Numbers.{Departure, delay_of, departures, departures_in, inputs, measured, outputs}
use Rattle.simulated_runs.specs.SimulationSteps.{HasCountedDeparted, HasDecided, HasSummed, HasTakenIn}
use Rattle.simulated_runs.specs.SlotSteps.{no_counts}

none-measured_yet : (job : JobValue) → measured job 0 ≡ []
none-measured_yet job =
    let none : 0 - job.settings.warm_up ≡ 0 = omega arith in
    rw none refl

AllCame-empty : (t : ℕ) (job : JobValue) → AllCame t (empty_queues (queueing_of job.settings.discipline) job.traffic.ports job.settings.depth)
AllCame-empty t job =
    All-replicate (AllBefore t) (queue_count (queueing_of job.settings.discipline) job.traffic.ports) [] (λ k d none. absurd (omega (arith, none)))

pub before-first : (job : JobValue) → (switch_before job 0).queues ≡ empty_queues (queueing_of job.settings.discipline) job.traffic.ports job.settings.depth
unfolding switch_before
before-first job = refl

places-first : (job : JobValue) → (switch_before job 0).places ≡ places_at_first job.traffic.ports
unfolding switch_before
places-first job = refl

picks-first : (job : JobValue) → (switch_before job 0).picks ≡ stream_at_first job.seed PICKS_STREAM
unfolding switch_before
picks-first job = refl

ports-first : (n : ℕ) → (places_at_first n).ports ≡ n
unfolding places_at_first
ports-first n = refl

-- no cell waits before slot 0
pub AllCame-first : (job : JobValue) → AllCame 0 (switch_before job 0).queues
AllCame-first job = subst (AllCame 0) (sym (before-first job)) (AllCame-empty 0 job)

no_departures : (job : JobValue) → departures job 0 ≡ []
no_departures job = ap (flat_map (departures_in job)) (none-measured_yet job)

-- nothing has been counted of no slots
none-counted : (job : JobValue) (table : CountTable) {X : Type 0} (f : ℕ → List X) (number : X → ℕ) → HasCounted table []
    → HasCounted table (map number (flat_map f (measured job 0)))
none-counted job table f number has = subst (λ (slots : List ℕ). HasCounted table (map number (flat_map f slots))) (sym (none-measured_yet job)) has

-- the parts of a simulation before slot 0
pub HasTakenIn-first : (job : JobValue) (taken : Arrivals)
    → taken.queues ≡ empty_queues (queueing_of job.settings.discipline) job.traffic.ports job.settings.depth
    → HasCounted taken.arrived [] → HasCounted taken.dropped [] → taken.peak ≡ 0 → AreArrivals job.traffic.ports 0 taken → HasTakenIn job 0 taken
HasTakenIn-first job taken queues arrived dropped peak sizes = record {
  queues = queues ∙ sym (before-first job);
  queueing = ap (λ (qs : Queues). qs.queueing) queues;
  sizes = subst (λ (most : ℕ). AreArrivals job.traffic.ports most taken) (omega arith) sizes;
  came = subst (AllCame 0) (sym queues) (AllCame-empty 0 job);
  arrived = none-counted job taken.arrived (λ s. (slot_of job s).came) (λ c. c.input) arrived;
  dropped = none-counted job taken.dropped (λ s. (slot_of job s).dropped) (λ c. c.input) dropped;
  peak = peak;
}

pub HasDecided-first : (job : JobValue) (arbiter : ArbiterValue) → arbiter.discipline ≡ job.settings.discipline → arbiter.rounds ≡ job.settings.rounds
    → arbiter.places ≡ places_at_first job.traffic.ports → arbiter.picks ≡ stream_at_first job.seed PICKS_STREAM → arbiter.meter.count ≡ 0
    → HasNoted arbiter.meter [] → HasDecided job 0 arbiter
HasDecided-first job arbiter discipline rounds places picks few noted = record {
  discipline = discipline;
  rounds = rounds;
  places = places ∙ sym (places-first job);
  picks = picks ∙ sym (picks-first job);
  ports = ap (λ (p : Places). p.ports) places ∙ ports-first job.traffic.ports;
  few = omega (arith, few);
  noted = λ scheduled. noted;
}

pub HasCountedDeparted-first : (job : JobValue) (left : Departed) → HasCounted left.left [] → HasCounted left.fed [] → HasBatched left.batches []
    → HasDelays left.delays [] → AreDeparted job.traffic.ports job.settings.batches 0 left → HasCountedDeparted job 0 left
HasCountedDeparted-first job left from_inputs to_outputs batches delays sizes =
    let none = sym (no_departures job) in
    record {
      sizes = subst (λ (most : ℕ). AreDeparted job.traffic.ports job.settings.batches most left) (omega arith) sizes;
      left = subst (λ (ds : List Departure). HasCounted left.left (inputs (map (λ d. d.cell) ds))) none from_inputs;
      fed = subst (λ (ds : List Departure). HasCounted left.fed (outputs (map (λ d. d.cell) ds))) none to_outputs;
      batches = subst (λ (ds : List Departure). HasBatched left.batches (map (λ d. record { batch = batch_of job d.slot; delay = delay_of d }) ds))
          none batches;
      delays = subst (λ (ds : List Departure). HasDelays left.delays (map delay_of ds)) none delays;
    }

pub HasSummed-first : (job : JobValue) → HasSummed job 0 no_counts
HasSummed-first job = record {
  most = refl;
  before = λ none. absurd (omega (arith, none));
  cell_slots = ap (sum_by (λ s. held_count (slot_of job s).after.queues)) (sym (none-measured_yet job));
  rounds_used = ap (sum_by (λ s. (slot_of job s).decision.numbers.used)) (sym (none-measured_yet job));
  first_pairs = ap (sum_by (λ s. (slot_of job s).decision.numbers.first)) (sym (none-measured_yet job));
  few_cells = omega arith;
  few_rounds = omega arith;
  few_pairs = omega arith;
}
