use Rattle.std.proofs.Common.{ℕ, ◌<◌}
use Rattle.rotating_pick.specs.PortSets.{Has}
use Rattle.rotating_pick.specs.declared.limits.TheConstants.{MAX_PORTS}
use Rattle.eslip_rounds.proofs.Turning.{AreTurned}
use Rattle.eslip_rounds.proofs.columns.turn.Given as goal

abbrev pub invariant-loop-j : goal.invariant-loop-j
invariant-loop-j l = record {
  left : (y : ℕ) → Has l.rest y → y < MAX_PORTS;
  turned : AreTurned l.input l.new l.fn.columns l.rest l.columns l.outputs;
}

abbrev pub decreases-loop-j : goal.decreases-loop-j
decreases-loop-j l = l.rest
