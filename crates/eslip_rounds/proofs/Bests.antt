-- The best level and kind is the least rank.
use Rattle.std.proofs.Common.{◌≡◌, ℕ, ◌*◌, ◌≤◌, ◌↔◌, ◌∙◌, refl, sym, ap, subst, inl, inr, arith}
use Rattle.std.proofs.lemmas.Bool.{cases_eq}
use Rattle.rotating_pick.specs.declared.kinds.Kind.{Kind}
use Rattle.rotating_pick.specs.declared.kinds.Kind.TheVariants.{Uni, Multi}
use Rattle.rotating_pick.proofs.First.{IsFirstFrom-along}
use Rattle.slot_match.proofs.Pairs.{kinds_decide}
use Rattle.pointer_state.specs.Places.{Places, accept_of}
use Rattle.eslip_rounds.specs.RankSteps.{level_at, kind_at, rank_of}
use Rattle.eslip_rounds.specs.Rounds.{preferred, IsBest, Takes, IsAccepted}
use Rattle.eslip_rounds.proofs.RankLemmas.{kind_at-even, rank_of-low, rank_of-high, rank_of-first, rank_of-differ}

-- of two kinds, two that are not the third are one
pub other_once : (a b k : Kind) → (a ≡ k → ⊥) → (b ≡ k → ⊥) → a ≡ b
other_once Uni Uni k p q = refl
other_once Multi Multi k p q = refl
other_once Uni Multi Uni p q = absurd (p refl)
other_once Uni Multi Multi p q = absurd (q refl)
other_once Multi Uni Uni p q = absurd (q refl)
other_once Multi Uni Multi p q = absurd (p refl)

-- two best are one
pub IsBest-only : (t : ℕ) (P : ℕ → Kind → Type 0) (l m : ℕ) (k q : Kind) → IsBest t P l k → IsBest t P m q → (l ≡ m) × (k ≡ q)
IsBest-only t P l m k q a b =
    let levels : l ≡ m = omega (arith, a.least m q b.there, b.least l k a.there) in
    let Q : ℕ → Type 0 = λ x. P x q in
    let R : ℕ → Type 0 = λ x. P x k in
    let kinds : k ≡ q = elim (kinds_decide k (preferred t)) [
      | inl one ↦
          let S : Kind → Type 0 = λ x. P l x in
          let T : ℕ → Type 0 = λ x. P x (preferred t) in
          one ∙ sym (b.preferred_first (subst T levels (subst S one a.there)))
      | inr other ↦ elim (kinds_decide q (preferred t)) [
        | inl one ↦
            let S : Kind → Type 0 = λ x. P m x in
            let T : ℕ → Type 0 = λ x. P x (preferred t) in
            absurd (other (a.preferred_first (subst T (sym levels) (subst S one b.there))))
        | inr also ↦ other_once k q (preferred t) other also
      ]
    ] in
    (levels, kinds)

pub IsBest-along : (t : ℕ) (P Q : ℕ → Kind → Type 0) (level : ℕ) (kind : Kind) → ((m : ℕ) (k : Kind) → P m k ↔ Q m k) → IsBest t P level kind
    → IsBest t Q level kind
IsBest-along t P Q level kind same b =
    record {
      there = (same level kind).0 b.there;
      least = λ m k q. b.least m k ((same m k).1 q);
      preferred_first = λ q. b.preferred_first ((same level (preferred t)).1 q);
    }

-- the least rank with P is the best level and kind
pub IsBest-from_rank : (t : ℕ) (P : ℕ → Kind → Type 0) (rank : ℕ) → P (level_at rank) (kind_at (preferred t) rank)
    → ((m : ℕ) (k : Kind) → P m k → rank ≤ rank_of (preferred t) m k) → IsBest t P (level_at rank) (kind_at (preferred t) rank)
IsBest-from_rank t P rank there least =
    record {
      there = there;
      least = λ m k p. let low = least m k p in let high = rank_of-high (preferred t) m k in omega arith;
      preferred_first = λ p.
          let low = least (level_at rank) (preferred t) p in
          let at = rank_of-first (preferred t) (level_at rank) in
          kind_at-even (preferred t) rank (omega arith);
    }

-- and the best level and kind has the least rank
pub IsBest-to_rank : (t : ℕ) (P : ℕ → Kind → Type 0) (level : ℕ) (kind : Kind) → IsBest t P level kind → (m : ℕ) (k : Kind) → P m k
    → rank_of (preferred t) level kind ≤ rank_of (preferred t) m k
IsBest-to_rank t P level kind best m k p =
    let first_kind = preferred t in
    let above = best.least m k p in
    let high = rank_of-high first_kind level kind in
    let low = rank_of-low first_kind m k in
    elim (cases_eq level m) [
      | inr apart ↦ omega arith
      | inl same ↦ elim (kinds_decide k first_kind) [
        | inr other ↦ let there = rank_of-differ first_kind m k other in omega arith
        | inl one ↦
            let Q : Kind → Type 0 = λ x. P m x in
            let R : ℕ → Type 0 = λ x. P x first_kind in
            let mine : kind ≡ first_kind = best.preferred_first (subst R (sym same) (subst Q one p)) in
            let here : rank_of first_kind level kind ≡ 2 * level = ap (rank_of first_kind level) mine ∙ rank_of-first first_kind level in
            omega arith
      ]
    ]

-- what is taken was offered
pub taken_from : (kind : Kind) (n from : ℕ) (P : ℕ → Type 0) (j : ℕ) → Takes kind n from P j → P j
taken_from Uni n from P j t = t.member
taken_from Multi n from P j t = t

pub Takes-along : (kind : Kind) (n from : ℕ) (P Q : ℕ → Type 0) → ((y : ℕ) → P y ↔ Q y) → (j : ℕ) → Takes kind n from P j ↔ Takes kind n from Q j
Takes-along Uni n from P Q same j = (IsFirstFrom-along n from P Q j (λ y y_in. same y), IsFirstFrom-along n from Q P j (λ y y_in. ((same y).1, (same y).0)))
Takes-along Multi n from P Q same j = same j

-- each pair of an input and an output that the one has, at a level with a kind, the other has too
abbrev pub AreAmong : (ℕ → ℕ → ℕ → Kind → Type 0) → (ℕ → ℕ → ℕ → Kind → Type 0) → Type 0
AreAmong P Q = (i j level : ℕ) (kind : Kind) → P i j level kind → Q i j level kind

pub IsAccepted-along : (n t : ℕ) (places : Places) (P Q : ℕ → ℕ → ℕ → Kind → Type 0) → ((i j level : ℕ) (kind : Kind) → P i j level kind ↔ Q i j level kind)
    → AreAmong (IsAccepted n t places P) (IsAccepted n t places Q)
IsAccepted-along n t places P Q same i j level kind a =
    record {
      best = IsBest-along t (λ m k. (y : ℕ) × P i y m k) (λ m k. (y : ℕ) × Q i y m k) level kind
          (λ m k. (λ p. (p.0, (same i p.0 m k).0 p.1), λ q. (q.0, (same i q.0 m k).1 q.1))) a.best;
      taken = (Takes-along kind n (accept_of places i level) (λ y. P i y level kind) (λ y. Q i y level kind) (λ y. same i y level kind) j).0 a.taken;
    }
