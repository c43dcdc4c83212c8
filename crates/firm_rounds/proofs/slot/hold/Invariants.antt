use Rattle.std.proofs.Common.{ℕ}
use Rattle.rotating_pick.specs.PortSets.{Has}
use Rattle.pointer_state.specs.Places.{AreAtPorts}
use Rattle.eslip_rounds.specs.Refusals.{Tells}
use Rattle.firm_rounds.specs.SlotSteps.{AreHeld}
use Rattle.firm_rounds.proofs.slot.hold.Given as goal

abbrev pub invariant-loop-j : goal.invariant-loop-j
invariant-loop-j l = record {
  left : (y : ℕ) → Has l.rest y → Has l.refused.outputs y;
  held : AreHeld (λ i y level. Tells l.refused i y level × (Has l.rest y → ⊥)) l.fn.p l.p;
  at_ports : AreAtPorts l.p;
}

abbrev pub decreases-loop-j : goal.decreases-loop-j
decreases-loop-j l = l.rest
