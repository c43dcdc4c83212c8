use Rattle.std.proofs.Common.{◌↔◌, ◌⊎◌, ℕ}
use Rattle.rotating_pick.specs.PortSets.{Has}
use Rattle.journal_check.specs.Steps.{IsFlag}
use Rattle.journal_check.proofs.bytes.add_flags.Given as goal

abbrev pub invariant-loop-level : goal.invariant-loop-level
invariant-loop-level l = (k : ℕ) → Has l.flags k ↔ (Has l.bits k ⊎ IsFlag l.sets l.first l.level k)
