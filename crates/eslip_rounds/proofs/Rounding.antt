-- A round by the columns is a round of the definition.
use Rattle.std.proofs.Common.{◌≡◌, ℕ, ◌<◌, ◌↔◌, ◌∙◌, List, Option, length, sym, ap, subst, inl, inr, arith, slice_index}
use Rattle.rotating_pick.specs.PortSets.{Has}
use Rattle.rotating_pick.specs.declared.kinds.Kind.{Kind}
use Rattle.slot_match.specs.declared.rows.Row.{Row}
use Rattle.slot_match.specs.declared.matching.Fed.{Fed}
use Rattle.slot_match.specs.Matches.{IsFreeOutput}
use Rattle.pointer_state.specs.Places.{Places, accept_of}
use Rattle.eslip_rounds.specs.declared.asks.Asks.{Asks}
use Rattle.eslip_rounds.specs.RankSteps.{level_at, kind_at, rank_of}
use Rattle.eslip_rounds.specs.Rounds.{preferred, Takes, Grants, Accepts, IsRound}
use Rattle.eslip_rounds.specs.Steps.{AreAsks, IsChosen, IsTaken, IsStep}
use Rattle.eslip_rounds.proofs.RankLemmas.{kind_at-rank_of, level_at-rank_of, rank_of-at}
use Rattle.eslip_rounds.proofs.Bests.{IsBest-from_rank, IsBest-to_rank, Takes-along}
use Rattle.eslip_rounds.proofs.Choosing.{Grants-from_chosen, chosen_from_grants}

module _ (n t : ℕ) (rows : List Row) (places : Places) (asks : Asks) (before after : List (Option Fed)) (are : AreAsks n rows asks)
    (step : IsStep n (preferred t) asks places before after) where
  -- output j offers input i at the rank
  abbrev Given : ℕ → ℕ → ℕ → Type 0
  Given i j rank = ((j < n) × IsFreeOutput before j) × IsChosen n (preferred t) asks step.ready places j (record { rank = rank; input = i })

  granted : (i j rank : ℕ) → Given i j rank → Grants n t rows places before i j (level_at rank) (kind_at (preferred t) rank)
  granted i j rank g = Grants-from_chosen n t rows asks step.ready before are step.readies j g.0.0 places g.0.1 rank i g.1

  given : (i j m : ℕ) (k : Kind) → Grants n t rows places before i j m k → Given i j (rank_of (preferred t) m k)
  given i j m k g = (
    (g.output_in, g.output_free),
    chosen_from_grants n t rows asks step.ready before are step.readies j g.output_in places g.output_free i m k g,
  )

  granted_at : (i j rank : ℕ) → Grants n t rows places before i j (level_at rank) (kind_at (preferred t) rank) → Given i j rank
  granted_at i j rank g = subst (Given i j) (rank_of-at (preferred t) rank) (given i j (level_at rank) (kind_at (preferred t) rank) g)

  -- the input is offered what it is granted at its best rank
  listed : (i : ℕ) → Has step.offers.granted i → (y : ℕ) → Has (slice_index step.offers.outputs i) y
      ↔ Grants n t rows places before i y (level_at (slice_index step.offers.ranks i)) (kind_at (preferred t) (slice_index step.offers.ranks i))
  listed i has y =
      let rank = slice_index step.offers.ranks i in
      let l = step.offered.listed i y has in
      (λ h. granted i y rank (l.0 h), λ g. l.1 (granted_at i y rank g))

  accepts_at : (i j : ℕ) → Has step.offers.granted i
      → Takes (kind_at (preferred t) (slice_index step.offers.ranks i)) n (accept_of places i (level_at (slice_index step.offers.ranks i)))
      (Has (slice_index step.offers.outputs i)) j
      → Accepts n t rows places before i j (level_at (slice_index step.offers.ranks i)) (kind_at (preferred t) (slice_index step.offers.ranks i))
  accepts_at i j has taken =
      let first_kind = preferred t in
      let rank = slice_index step.offers.ranks i in
      let P = λ (m : ℕ) (k : Kind). (y : ℕ) × Grants n t rows places before i y m k in
      let s = step.offered.some i has in
      record {
        best = IsBest-from_rank t P rank (s.0, granted i s.0 rank s.1) (λ m k p. (step.offered.least i p.0 (rank_of first_kind m k) (given i p.0 m k p.1)).1);
        taken = (Takes-along (kind_at first_kind rank) n (accept_of places i (level_at rank)) (Has (slice_index step.offers.outputs i))
            (λ y. Grants n t rows places before i y (level_at rank) (kind_at first_kind rank)) (listed i has) j).0 taken;
      }

  Accepts-from_taken : (i j l : ℕ) (k : Kind) → IsTaken n (preferred t) places step.offers i j l k → Accepts n t rows places before i j l k
  Accepts-from_taken i j l k taken =
      let first_kind = preferred t in
      let rank = slice_index step.offers.ranks i in
      let P : ℕ → Type 0 = λ m. Takes k n (accept_of places i m) (Has (slice_index step.offers.outputs i)) j in
      let Q : Kind → Type 0 = λ q. Takes q n (accept_of places i (level_at rank)) (Has (slice_index step.offers.outputs i)) j in
      let a = accepts_at i j taken.granted (subst Q taken.kind_is (subst P taken.level_is taken.taken)) in
      let R : ℕ → Type 0 = λ m. Accepts n t rows places before i j m (kind_at first_kind rank) in
      let S : Kind → Type 0 = λ q. Accepts n t rows places before i j l q in
      subst S (sym taken.kind_is) (subst R (sym taken.level_is) a)

  taken_from_accepts : (i j l : ℕ) (k : Kind) → Accepts n t rows places before i j l k → IsTaken n (preferred t) places step.offers i j l k
  taken_from_accepts i j l k a =
      let first_kind = preferred t in
      let rank = slice_index step.offers.ranks i in
      let P : ℕ → Kind → Type 0 = λ m q. (y : ℕ) × Grants n t rows places before i y m q in
      let there = a.best.there in
      let low = step.offered.least i there.0 (rank_of first_kind l k) (given i there.0 l k there.1) in
      let s = step.offered.some i low.0 in
      let high = IsBest-to_rank t P l k a.best (level_at rank) (kind_at first_kind rank) (s.0, granted i s.0 rank s.1) in
      let at = rank_of-at first_kind rank in
      let same : rank ≡ rank_of first_kind l k = let below = low.1 in omega arith in
      let level_is : l ≡ level_at rank = sym (level_at-rank_of first_kind l k) ∙ ap level_at (sym same) in
      let kind_is : k ≡ kind_at first_kind rank = sym (kind_at-rank_of first_kind l k) ∙ ap (kind_at first_kind) (sym same) in
      let G : (y : ℕ) → Grants n t rows places before i y l k ↔ Has (slice_index step.offers.outputs i) y = λ y.
      let e = listed i low.0 y in
      let R : ℕ → Type 0 = λ m. Grants n t rows places before i y m k in
      let S : Kind → Type 0 = λ q. Grants n t rows places before i y (level_at rank) q in
      let T : ℕ → Type 0 = λ m. Grants n t rows places before i y m (kind_at first_kind rank) in
      let U : Kind → Type 0 = λ q. Grants n t rows places before i y l q in
      (λ g. e.1 (subst S kind_is (subst R level_is g)), λ h. subst U (sym kind_is) (subst T (sym level_is) (e.0 h))) in
      record {
        granted = low.0;
        level_is = level_is;
        kind_is = kind_is;
        taken = (Takes-along k n (accept_of places i l) (λ y. Grants n t rows places before i y l k) (Has (slice_index step.offers.outputs i)) G j).0 a.taken;
      }

  pub IsRound-from_step : length after ≡ n → IsRound n t rows places before after
  IsRound-from_step count =
      record {
        count = count;
        pairs = λ i j l k.
            let e = step.pairs i j l k in (
              λ s. elim (e.0 s) [ inl old ↦ inl old | inr taken ↦ inr (Accepts-from_taken i j l k taken) ],
              λ s. e.1 (elim s [ inl old ↦ inl old | inr a ↦ inr (taken_from_accepts i j l k a) ]),
            );
      }
