use Rattle.std.proofs.Common.{ℕ, ◌<◌, ◌↔◌}
use Rattle.rotating_pick.specs.PortSets.{Has}
use Rattle.islip_rounds.specs.Rounds.{IsFreeOutput}
use Rattle.islip_rounds.proofs.rounds.free_outputs.Given as goal

abbrev pub invariant-loop-j : goal.invariant-loop-j
invariant-loop-j l = (j : ℕ) → Has l.free j ↔ ((j < l.j) × IsFreeOutput l.fed j)
