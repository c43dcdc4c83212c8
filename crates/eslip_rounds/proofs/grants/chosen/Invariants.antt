use Rattle.std.proofs.Common.{ℕ, ◌<◌}
use Rattle.rotating_pick.specs.PortSets.{Has}
use Rattle.eslip_rounds.specs.declared.ranks.TheConstants.{RANKS}
use Rattle.eslip_rounds.specs.Steps.{AsksAt}
use Rattle.eslip_rounds.proofs.grants.chosen.Given as goal

abbrev pub invariant-loop-rank : goal.invariant-loop-rank
invariant-loop-rank l = record {
  within : (r : ℕ) → Has l.rest r → Has l.ready.ranks r;
  none : (r i : ℕ) → r < RANKS → (Has l.rest r → ⊥) → AsksAt l.first_kind l.asks l.ready l.j r i → ⊥;
}

abbrev pub decreases-loop-rank : goal.decreases-loop-rank
decreases-loop-rank l = l.rest
