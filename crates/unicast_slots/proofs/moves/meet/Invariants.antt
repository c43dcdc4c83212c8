use Rattle.std.proofs.Common.{ℕ}
use Rattle.rotating_pick.specs.PortSets.{Has}
use Rattle.rotating_pick.specs.declared.kinds.Kind.TheVariants.{Uni}
use Rattle.slot_match.specs.Matches.{Serves}
use Rattle.pointer_state.specs.Places.{AreAtPorts}
use Rattle.eslip_rounds.specs.Steps.{AreMet}
use Rattle.unicast_slots.proofs.moves.meet.Given as goal

abbrev pub invariant-loop-j : goal.invariant-loop-j
invariant-loop-j l = record {
  left : (y : ℕ) → Has l.rest y → Has l.outputs y;
  met : AreMet (λ i y level. (Has l.outputs y × (Has l.rest y → ⊥)) × Serves l.matched i y level Uni) l.fn.p l.p;
  at_ports : AreAtPorts l.p;
}

abbrev pub decreases-loop-j : goal.decreases-loop-j
decreases-loop-j l = l.rest
