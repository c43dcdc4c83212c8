use Rattle.std.proofs.Common.{ℕ, ◌↔◌, ◌⊎◌}
use Rattle.rotating_pick.specs.PortSets.{Has}
use Rattle.rotating_pick.specs.declared.kinds.Kind.{Kind}
use Rattle.rotating_pick.specs.declared.kinds.Kind.TheVariants.{Uni}
use Rattle.slot_match.specs.Matches.{Serves, IsMatch}
use Rattle.eslip_rounds.specs.Steps.{IsTaken}
use Rattle.unicast_slots.specs.RoundSteps.{offers_of}
use Rattle.unicast_slots.proofs.accepts.accept_all.Given as goal

abbrev pub invariant-loop-i : goal.invariant-loop-i
invariant-loop-i l = record {
  whole : IsMatch l.n l.out;
  left : (x : ℕ) → Has l.rest x → Has l.offers.granted x;
  pairs : (x j level : ℕ) (kind : Kind) → Serves l.out x j level kind
      ↔ (Serves l.fn.out x j level kind ⊎ ((Has l.rest x → ⊥) × IsTaken l.n Uni l.p (offers_of l.offers) x j level kind));
}

abbrev pub decreases-loop-i : goal.decreases-loop-i
decreases-loop-i l = l.rest
