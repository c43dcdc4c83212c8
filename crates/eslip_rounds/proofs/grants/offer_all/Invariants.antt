use Rattle.std.proofs.Common.{ℕ}
use Rattle.rotating_pick.specs.PortSets.{Has}
use Rattle.eslip_rounds.specs.Steps.{IsChosen, AreOffers}
use Rattle.eslip_rounds.proofs.grants.offer_all.Given as goal

abbrev pub invariant-loop-j : goal.invariant-loop-j
invariant-loop-j l = record {
  left : (y : ℕ) → Has l.rest y → Has l.free_outputs y;
  offered : AreOffers (λ i y rank. (Has l.free_outputs y × (Has l.rest y → ⊥))
      × IsChosen l.n l.first_kind l.asks l.ready l.p y (record { rank = rank; input = i })) l.offers;
}

abbrev pub decreases-loop-j : goal.decreases-loop-j
decreases-loop-j l = l.rest
