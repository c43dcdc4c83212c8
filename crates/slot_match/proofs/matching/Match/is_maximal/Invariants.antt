use Rattle.std.proofs.Common.{ℕ, ◌<◌}
use Rattle.rotating_pick.specs.PortSets.{Has}
use Rattle.slot_match.specs.Rows.{row_of}
use Rattle.slot_match.specs.Steps.{Wants}
use Rattle.slot_match.proofs.matching.Match.is_maximal.Given as goal

abbrev pub invariant-loop-i : goal.invariant-loop-i
invariant-loop-i l = (i j : ℕ) → i < l.i → Wants l.self i (row_of l.rows i) j → Has l.self-inside.free_outputs j → ⊥
