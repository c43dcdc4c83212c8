use Rattle.std.proofs.Common.{◌∙◌, ◌≤◌, ℕ, ap, arith, refl, subst, sym}
use Rattle.rotating_pick.specs.declared.limits.TheConstants.{MAX_PORTS}
use Rattle.pointer_state.specs.Places.{places_at_first}
use Rattle.made_traffic.specs.Streams.{stream_at_first}
use Rattle.random_picks.specs.declared.picks.TheConstants.{PICKS_STREAM}
use Rattle.simulated_slots.specs.declared.limits.TheConstants.{MAX_SLOTS}
use Rattle.simulated_slots.specs.Jobs.{queueing_of}
use Rattle.simulated_slots.specs.ArrivalSteps.{AreArrivals}
use Rattle.simulated_runs.specs.SimulationSteps.{HasSummed}
use Rattle.simulated_runs.proofs.Starting.{HasCountedDeparted-first, HasDecided-first, HasSummed-first, HasTakenIn-first}
use Rattle.simulated_runs.proofs.simulation.Simulation.make.Goals as goal

pub make-requires-2-clause-rounds_some : goal.make-requires-2-clause-rounds_some
make-requires-2-clause-rounds_some c = c.settings-settings.ensures.in_range.some_rounds

pub make-requires-2-clause-rounds_few : goal.make-requires-2-clause-rounds_few
make-requires-2-clause-rounds_few c = c.settings-settings.ensures.in_range.rounds

pub invariant_of-result : goal.invariant_of-result
invariant_of-result c =
    let job = c.args.job.now in
    let taken = c.in_ok-make.ensures in
    let decides = c.in_ok-make-2.ensures in
    let left = c.in_ok-make-3.ensures in
    let ports = c.ports-ports.ensures.value ∙ ap (λ t. t.ports) c.traffic-traffic.ensures in
    let settings = c.settings-settings.ensures.value in
    let queueing = c.queueing.ensures ∙ ap (λ s. queueing_of s.discipline) settings in
    let counts = c.none.ensures in
    record {
      size = subst (λ (n : ℕ). n ≤ MAX_PORTS) ports c.ports-ports.ensures.size;
      few = subst (λ (n : ℕ). n ≤ MAX_SLOTS) c.slots.ensures.value c.slots.ensures.few;
      slots = omega arith;
      told = c.in_ok-sources.ensures;
      taken = HasTakenIn-first job c.in_ok-make.field-0 (taken.queues ∙ rw (queueing, ports, settings) refl) taken.arrived taken.dropped taken.peak
          (subst (λ (n : ℕ). AreArrivals n 0 c.in_ok-make.field-0) ports taken.sizes);
      decided = HasDecided-first job c.in_ok-make-2.field-0 (decides.discipline ∙ ap (λ s. s.discipline) settings)
          (decides.rounds ∙ ap (λ s. s.rounds) settings) (decides.places ∙ ap places_at_first ports)
          (decides.picks ∙ ap (λ (seed : ℕ). stream_at_first seed PICKS_STREAM) c.seed.ensures) decides.count decides.noted;
      departed = HasCountedDeparted-first job c.in_ok-make-3.field-0 left.left left.fed left.batches left.delays (rw (← ports, ← settings) left.sizes);
      summed = subst (HasSummed job 0) (sym counts) (HasSummed-first job);
    }
