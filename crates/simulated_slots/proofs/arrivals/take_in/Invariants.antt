use Rattle.simulated_slots.specs.ArrivalSteps.{HaveTold}
use Rattle.simulated_slots.proofs.arrivals.take_in.Given as goal

abbrev pub invariant-loop-input : goal.invariant-loop-input
invariant-loop-input l = HaveTold l.measured l.slot l.input l.fn.sources.items l.sources.items l.fn.arrivals l.arrivals
