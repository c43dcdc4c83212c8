-- The first round of a slot: an output grants one input, and what is matched after it was accepted, so that nobody refused it.
use Rattle.std.proofs.Common.{◌≡◌, ℕ, List, Option, subst, inl, inr}
use Rattle.rotating_pick.specs.declared.kinds.Kind.{Kind}
use Rattle.rotating_pick.specs.declared.kinds.Kind.TheVariants.{Uni}
use Rattle.rotating_pick.proofs.First.{IsFirstFrom-only}
use Rattle.slot_match.specs.declared.rows.Row.{Row}
use Rattle.slot_match.specs.declared.matching.Fed.{Fed}
use Rattle.slot_match.specs.Matches.{unmatched, Serves}
use Rattle.slot_match.proofs.Kept.{IsMatch-unmatched, nobody_at_first}
use Rattle.pointer_state.specs.Places.{Places, AreAtPorts, grant_of}
use Rattle.eslip_rounds.specs.Rounds.{Requests, Grants, Accepts, IsRound}
use Rattle.eslip_rounds.specs.Slots.{IsRefused}
use Rattle.eslip_rounds.proofs.Choosing.{level_asked}
use Rattle.eslip_rounds.proofs.Deciding.{from_in}

-- every pair of this match was accepted in the first round of slot t
abbrev pub AreAccepted : ℕ → ℕ → List Row → Places → List (Option Fed) → Type 0
AreAccepted n t rows places first_match =
    (i j level : ℕ) (kind : Kind) → Serves first_match i j level kind → Accepts n t rows places (unmatched n) i j level kind

-- so it is where nothing is matched
pub AreAccepted-unmatched : (n t : ℕ) (rows : List Row) (places : Places) → AreAccepted n t rows places (unmatched n)
AreAccepted-unmatched n t rows places i j level kind served = absurd (nobody_at_first n i j level kind served)

-- and after the first round
pub AreAccepted-round : (n t : ℕ) (rows : List Row) (places : Places) (first_match : List (Option Fed)) → IsRound n t rows places (unmatched n) first_match
    → AreAccepted n t rows places first_match
AreAccepted-round n t rows places first_match round i j level kind served = elim ((round.pairs i j level kind).0 served)
    [ inl old ↦ absurd (nobody_at_first n i j level kind old) | inr accepts ↦ accepts ]

module _ (n t : ℕ) (rows : List Row) (places : Places) (at_ports : AreAtPorts places) (ports_are : places.ports ≡ n) where
  -- an output grants one input
  pub grants_once : (i x j level : ℕ) → Grants n t rows places (unmatched n) i j level Uni → Grants n t rows places (unmatched n) x j level Uni → i ≡ x
  grants_once i x j level g h =
      IsFirstFrom-only n (grant_of places j level) (λ y. Requests rows (unmatched n) y j level Uni) i x
      (from_in n t rows places (unmatched n) (IsMatch-unmatched n) at_ports ports_are j level Uni g.output_in
      (level_asked rows (unmatched n) i j level Uni g.first.member)) g.first h.first

  -- an output that is matched was refused by nobody
  pub served_unrefused : (first_match : List (Option Fed)) → AreAccepted n t rows places first_match → (i x j level : ℕ) → Serves first_match i j level Uni
      → IsRefused n t rows places x j level → ⊥
  served_unrefused first_match accepted i x j level served refused =
      let accepts = accepted i j level Uni served in
      refused.1 (subst (λ y. Accepts n t rows places (unmatched n) y j level Uni) (grants_once i x j level accepts.taken.member refused.0) accepts)
