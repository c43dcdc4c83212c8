use Rattle.std.proofs.Common.{◌≡◌}
use Rattle.simulated_runs.proofs.runs.simulate.Given as goal

abbrev pub invariant-loop : goal.invariant-loop
invariant-loop l = l.simulation ≡ record { job = l.job; slot = l.counter }
