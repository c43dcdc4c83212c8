use Rattle.std.proofs.Common.{◌≡◌, ℕ, max}
use Rattle.rotating_pick.specs.PortSets.{Has}
use Rattle.service_bound.specs.MeterSteps.{longest_of}
use Rattle.service_bound.proofs.level_queues.longest_of.Given as goal

abbrev pub invariant-loop-output : goal.invariant-loop-output
invariant-loop-output l = record {
  inside : (j : ℕ) → Has l.left j → Has l.outputs j;
  longest : max l.longest (longest_of l.began l.left l.count) ≡ longest_of l.began l.outputs l.count;
}

abbrev pub decreases-loop-output : goal.decreases-loop-output
decreases-loop-output l = l.left
