use Rattle.std.proofs.Common.{ℕ, ◌<◌, ◌↔◌}
use Rattle.rotating_pick.specs.PortSets.{Has}
use Rattle.eslip_rounds.specs.Steps.{IsNamed, GrantsUnicast}
use Rattle.eslip_rounds.specs.Refusals.{Tells}
use Rattle.eslip_rounds.proofs.refusals.refused_grants.Given as goal

abbrev pub invariant-loop-j : goal.invariant-loop-j
invariant-loop-j l = record {
  left : (y : ℕ) → Has l.rest y → ((y < l.n) × (Has l.first_outputs y → ⊥)) × IsNamed l.asks y;
  told : (i y level : ℕ) → Tells l.refused i y level
      ↔ (((((y < l.n) × (Has l.first_outputs y → ⊥)) × IsNamed l.asks y) × (Has l.rest y → ⊥))
      × GrantsUnicast l.n l.first_kind l.asks l.ready l.p i y level);
}

abbrev pub decreases-loop-j : goal.decreases-loop-j
decreases-loop-j l = l.rest
