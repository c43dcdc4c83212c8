use Rattle.std.proofs.Common.{◌≡◌, ◌-◌, ◌*◌, ap, subst, arith}
use Rattle.arrival_queues.specs.Queues.{Queues, held_count, sum_of_arrivals}
use Rattle.simulated_runs.specs.Numbers.{age_before, waiting_before}
use Rattle.simulated_runs.specs.SimulationSteps.{SimulationValue}
use Rattle.simulated_runs.proofs.Waits.{age-is}
use Rattle.simulated_runs.proofs.simulation.Simulation.waiting.Goals as goal

pub overflow_sub-result : goal.overflow_sub-result
overflow_sub-result c =
    let age = age-is c.self.inside.slot c.self.inside.arrivals.queues c.self.invariant.taken.came in
    rw (c.from.ensures, c.from-2.ensures, c.held-cells.ensures.value, c.sum_of_arrivals.ensures.value) (omega (arith, age))

pub returns : goal.returns
returns c =
    let slot = c.self.inside.slot in
    let queues = c.self.inside.arrivals.queues in
    let age = age-is slot queues c.self.invariant.taken.came in
    let less : held_count queues * slot - sum_of_arrivals queues ≡ age_before slot queues = omega (arith, age) in
    subst (λ (s : SimulationValue). record { cells = c.held-cells.result; age = c.from.result * c.from-2.result - c.sum_of_arrivals.result }
    ≡ waiting_before s.job s.slot)
    c.self.view_is
    (rw (c.from.ensures, c.from-2.ensures, c.held-cells.ensures.value, c.sum_of_arrivals.ensures.value, less)
    (ap (λ (qs : Queues). record { cells = held_count qs; age = age_before slot qs }) c.self.invariant.taken.queues))
