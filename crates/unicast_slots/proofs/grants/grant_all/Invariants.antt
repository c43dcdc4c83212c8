use Rattle.std.proofs.Common.{◌≡◌, ℕ}
use Rattle.rotating_pick.specs.PortSets.{Has}
use Rattle.eslip_rounds.specs.Steps.{AreOffers}
use Rattle.unicast_slots.specs.RoundSteps.{offers_of}
use Rattle.unicast_slots.proofs.Granting.{Picks}
use Rattle.unicast_slots.proofs.grants.grant_all.Given as goal

abbrev pub invariant-loop-j : goal.invariant-loop-j
invariant-loop-j l = record {
  left : (y : ℕ) → Has l.rest y → Has l.initial.rest y;
  offered : AreOffers (λ i y rank. (Has l.initial.rest y × (Has l.rest y → ⊥)) × (Picks l.n l.rows l.p l.free i y × (rank ≡ 0))) (offers_of l.offers);
}

abbrev pub decreases-loop-j : goal.decreases-loop-j
decreases-loop-j l = l.rest
