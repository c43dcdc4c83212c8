-- The first rank of a slot with a test is its best level and kind.
use Rattle.std.proofs.Common.{◌≡◌, ℕ, zero, suc, ◌+◌, ◌<◌, ◌≤◌, ◌⊎◌, ◌∙◌, Bool, true, false, cond, Option, None, Some, refl, sym, ap, subst, inl, inr, arith}
use Rattle.std.specs.Bool.{Decides}
use Rattle.std.specs.List.{find, flat_map, range_with_len}
use Rattle.std.proofs.lemmas.Bool.{cases_eq, cases_lt, cases_Bool, cond-true, cond-false}
use Rattle.std.proofs.lemmas.Option.{same_Some, none-some}
use Rattle.rotating_pick.specs.declared.kinds.Kind.{Kind}
use Rattle.rotating_pick.specs.declared.kinds.Kind.TheVariants.{Uni, Multi}
use Rattle.rotating_pick.specs.declared.limits.TheConstants.{LEVELS}
use Rattle.eslip_rounds.specs.Rounds.{other_kind}
use Rattle.eslip_rounds.specs.Rounds.{preferred, IsBest}
use Rattle.eslip_rounds.specs.Decisions.{Rank, ranks_at, ranks}
use Rattle.eslip_rounds.proofs.Bests.{IsBest-only}

-- every kind is the first one or the other
pub kind_or : (first_kind k : Kind) → (k ≡ first_kind) ⊎ (k ≡ other_kind first_kind)
kind_or Uni Uni = inl refl
kind_or Uni Multi = inr refl
kind_or Multi Uni = inr refl
kind_or Multi Multi = inl refl

-- the rank is the first with the test among those of the levels from a below b
pub record IsRankFound (t : ℕ) (test : ℕ → Kind → Bool) (a b : ℕ) (found : Option Rank) (level : ℕ) (kind : Kind) : Type 0 where
  pub low : a ≤ level
  pub high : level < b
  pub is : found ≡ Some (record { level = level; kind = kind })
  pub passes : test level kind ≡ true
  pub least : (m : ℕ) (k : Kind) → a ≤ m → m < level → test m k ≡ true → ⊥
  pub preferred_first : test level (preferred t) ≡ true → kind ≡ preferred t

-- no rank of the levels from a below b has the test
pub record IsNoRank (test : ℕ → Kind → Bool) (a b : ℕ) (found : Option Rank) : Type 0 where
  pub is : found ≡ None
  pub fails : (m : ℕ) (k : Kind) → a ≤ m → m < b → test m k ≡ true → ⊥

module _ (t : ℕ) (test : ℕ → Kind → Bool) where
  found_in : ℕ → ℕ → Option Rank
  found_in a n = find (λ rank. test rank.level rank.kind) (flat_map (ranks_at t) (range_with_len a n))

  none_at : (a : ℕ) → test a (preferred t) ≡ false → test a (other_kind (preferred t)) ≡ false → (k : Kind) → test a k ≡ true → ⊥
  none_at a f g k h = elim (kind_or (preferred t) k) [
    | inl e ↦ let here : test a (preferred t) ≡ true = ap (test a) (sym e) ∙ h in absurd (cc)
    | inr e ↦ let here : test a (other_kind (preferred t)) ≡ true = ap (test a) (sym e) ∙ h in absurd (cc)
  ]

  rank_range : (a n : ℕ) → ((level : ℕ) × (kind : Kind) × IsRankFound t test a (a + n) (found_in a n) level kind) ⊎ IsNoRank test a (a + n) (found_in a n)
  unfolding found_in
  rank_range a zero = inr (record { is = refl; fails = λ m k low high h. absurd (omega arith) })
  rank_range a (suc n) =
      let first_kind = preferred t in
      let rest : Option Rank = found_in (a + 1) n in
      let one : Rank = record { level = a; kind = first_kind } in
      let two : Rank = record { level = a; kind = other_kind first_kind } in
      elim (cases_Bool (test a first_kind)) [
        | inl pass ↦
            inl (
              a,
              first_kind,
              record {
                low = omega arith;
                high = omega arith;
                is = cond-true (test a first_kind) (Some one) _ pass;
                passes = pass;
                least = λ m k low high h. absurd (omega arith);
                preferred_first = λ h. refl;
              },
            )
        | inr fail ↦ elim (cases_Bool (test a (other_kind first_kind))) [
          | inl pass ↦
              inl (
                a,
                other_kind first_kind,
                record {
                  low = omega arith;
                  high = omega arith;
                  is = cond-false (test a first_kind) (Some one) _ fail ∙ cond-true (test a (other_kind first_kind)) (Some two) rest pass;
                  passes = pass;
                  least = λ m k low high h. absurd (omega arith);
                  preferred_first = λ h. absurd (cc);
                },
              )
          | inr also ↦
              let none_here = none_at a fail also in
              let skip = cond-false (test a first_kind) (Some one) (cond (test a (other_kind first_kind)) (Some two) rest) fail
              ∙ cond-false (test a (other_kind first_kind)) (Some two) rest also in
              let later : (b m : ℕ) (k : Kind) → ((l : ℕ) (q : Kind) → a + 1 ≤ l → l < b → test l q ≡ true → ⊥) → a ≤ m → m < b → test m k ≡ true
              → ⊥ = λ b m k none low high h. elim (cases_eq m a) [
                | inl same ↦ none_here k (ap (λ l. test l k) (sym same) ∙ h)
                | inr apart ↦ none m k (omega arith) high h
              ] in
              elim (rank_range (a + 1) n) [
                | inl f ↦
                    let g = f.2 in
                    let low = g.low in
                    let high = g.high in
                    inl (
                      f.0,
                      f.1,
                      record {
                        low = omega arith;
                        high = omega arith;
                        is = skip ∙ g.is;
                        passes = g.passes;
                        least = λ m k. later f.0 m k g.least;
                        preferred_first = g.preferred_first;
                      },
                    )
                | inr none ↦ inr (record { is = skip ∙ none.is; fails = λ m k low high. later ((a + 1) + n) m k none.fails low (omega arith) })
              ]
        ]
      ]

module _ (t : ℕ) (test : ℕ → Kind → Bool) (P : ℕ → Kind → Type 0) (level_in : (m : ℕ) (k : Kind) → P m k → m < LEVELS)
    (each : (m : ℕ) (k : Kind) → m < LEVELS → Decides (test m k) (P m k)) where
  rank_or : ((level : ℕ) × (kind : Kind) × (find (λ rank. test rank.level rank.kind) (ranks t) ≡ Some (record { level = level; kind = kind }))
      × IsBest t P level kind) ⊎ ((find (λ rank. test rank.level rank.kind) (ranks t) ≡ None) × ((m : ℕ) (k : Kind) → P m k → ⊥))
  unfolding ranks found_in
  rank_or = elim (rank_range t test 0 LEVELS) [
    | inl f ↦
        let level = f.0 in
        let g = f.2 in
        let below : level < LEVELS = let high = g.high in omega arith in
        inl (
          level,
          f.1,
          g.is,
          record {
            there = (each level f.1 below).0 g.passes;
            least = λ m k p. elim (cases_lt m level) [
              | inl under ↦ absurd
                  (g.least m k (omega arith) under ((each m k (level_in m k p)).1 p))
              | inr above ↦ above
            ];
            preferred_first = λ p. g.preferred_first ((each level (preferred t) below).1 p);
          },
        )
    | inr none ↦ inr (none.is, λ m k p. none.fails m k (omega arith) (let below = level_in m k p in omega arith) ((each m k (level_in m k p)).1 p))
  ]

  -- the rank that is found is best
  pub found_rank : (rank : Rank) → find (λ rank. test rank.level rank.kind) (ranks t) ≡ Some rank → IsBest t P rank.level rank.kind
  found_rank rank e = elim rank_or [
    | inl f ↦
        let one : Rank = record { level = f.0; kind = f.1 } in
        let same : one ≡ rank = same_Some one rank (sym f.2 ∙ e) in
        let Q : Rank → Type 0 = λ w. IsBest t P w.level w.kind in
        subst Q same f.3
    | inr none ↦ absurd (none-some rank (sym none.0 ∙ e))
  ]

  -- and the best is found
  pub finds_rank : (level : ℕ) (kind : Kind) → IsBest t P level kind
      → find (λ rank. test rank.level rank.kind) (ranks t) ≡ Some (record { level = level; kind = kind })
  finds_rank level kind best = elim rank_or [
    | inl f ↦
        let same = IsBest-only t P f.0 level f.1 kind f.3 best in
        let ranks_same : ◌≡◌ {A = Rank} (record { level = f.0; kind = f.1 }) (record { level = level; kind = kind }) =
        λ i. record { level = same.0 i; kind = same.1 i } in
        f.2 ∙ ap Some ranks_same
    | inr none ↦ absurd (none.1 level kind best.there)
  ]
