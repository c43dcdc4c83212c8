use Rattle.std.proofs.Common.{ℕ, ◌↔◌, slice_index}
use Rattle.rotating_pick.specs.PortSets.{Has}
use Rattle.eslip_rounds.proofs.moves.joined.Given as goal

abbrev pub invariant-loop-j : goal.invariant-loop-j
invariant-loop-j l = record {
  left : (y : ℕ) → Has l.rest y → Has l.outputs y;
  seen : (i : ℕ) → Has l.all i ↔ ((y : ℕ) × (Has l.outputs y × (Has l.rest y → ⊥)) × Has (slice_index l.columns y) i);
}

abbrev pub decreases-loop-j : goal.decreases-loop-j
decreases-loop-j l = l.rest
