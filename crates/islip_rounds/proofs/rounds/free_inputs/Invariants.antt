use Rattle.std.proofs.Common.{ℕ, ◌<◌, ◌↔◌}
use Rattle.rotating_pick.specs.PortSets.{Has}
use Rattle.islip_rounds.specs.Rounds.{Feeds}
use Rattle.islip_rounds.proofs.rounds.free_inputs.Given as goal

abbrev pub invariant-loop-j : goal.invariant-loop-j
invariant-loop-j l = (i : ℕ) → Has l.free i ↔ ((i < l.n) × ((j : ℕ) → j < l.j → Feeds l.fed i j → ⊥))
