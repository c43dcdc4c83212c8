-- Grants by output, collected by input, and accepted pairs put into a match.
use Rattle.std.proofs.Common.{◌≡◌, ◌+◌, ℕ, ◌<◌, ◌↔◌, ◌⊎◌, ◌∙◌, List, Option, None, Some, length, slice_index, slice_index_or, slice_set, refl, sym, subst, ap}
use Rattle.std.proofs.Common.{arith, inl, inr, get_or-set_same, get_or-set_other}
use Rattle.std.proofs.lemmas.Bool.{cases_eq}
use Rattle.std.proofs.lemmas.Option.{same_Some}
use Rattle.rotating_pick.specs.PortSets.{Has}
use Rattle.islip_rounds.specs.Rounds.{Feeds, IsFreeOutput}

-- each input has those of the first m outputs that grant it
abbrev pub AreOffers : List (Option ℕ) → ℕ → List ℕ → Type 0
AreOffers granted m offers = (i j : ℕ) → Has (slice_index offers i) j ↔ ((j < m) × Feeds granted i j)

-- output m grants nobody
pub AreOffers-skip : (granted : List (Option ℕ)) (m : ℕ) (offers : List ℕ) → slice_index_or granted m None ≡ None → AreOffers granted m offers
    → AreOffers granted (m + 1) offers
AreOffers-skip granted m offers nobody before i j = (
  λ has. let p = (before i j).0 has in (omega (arith, p.0), p.1),
  λ p. elim (cases_eq j m) [
    | inl same ↦ let grants_m : Feeds granted i m = subst (Feeds granted i) same p.1 in absurd (cc)
    | inr other ↦ (before i j).1 (omega (arith, p.0), p.1)
  ],
)

-- output m grants input x
pub AreOffers-put : (granted : List (Option ℕ)) (m x word : ℕ) (offers : List ℕ) → x < length offers → Feeds granted x m
    → ((j : ℕ) → Has word j ↔ ((j ≡ m) ⊎ Has (slice_index offers x) j)) → AreOffers granted m offers → AreOffers granted (m + 1) (slice_set offers x word)
AreOffers-put granted m x word offers x_in grants put before i j =
    elim (cases_eq i x) [
      | inl same ↦
          let at_x : Has (slice_index (slice_set offers x word) x) j ↔ ((j < m + 1) × Feeds granted x j) =
          rw get_or-set_same (
            λ has. elim ((put j).0 has) [
              | inl is_m ↦ (omega arith, subst (Feeds granted x) (sym is_m) grants)
              | inr old ↦ let p = (before x j).0 old in (omega (arith, p.0), p.1)
            ],
            λ p. (put j).1 (elim (cases_eq j m) [ inl is_m ↦ inl is_m | inr other ↦ inr ((before x j).1 (omega (arith, p.0), p.1)) ]),
          ) in
          subst (λ y. Has (slice_index (slice_set offers x word) y) j ↔ ((j < m + 1) × Feeds granted y j)) (sym same) at_x
      | inr other ↦
          rw get_or-set_other (
            λ has. let p = (before i j).0 has in (omega (arith, p.0), p.1),
            λ p. elim (cases_eq j m) [
              | inl is_m ↦ let grants_m : Feeds granted i m = subst (Feeds granted i) is_m p.1 in absurd (other (same_Some i x (sym grants_m ∙ grants)))
              | inr below ↦ (before i j).1 (omega (arith, p.0), p.1)
            ],
          )
    ]

-- the match has what it had before, and what the first m inputs accepted
abbrev pub AreFed : List (Option ℕ) → List (Option ℕ) → ℕ → List (Option ℕ) → Type 0
AreFed before accepted m fed = (i j : ℕ) → Feeds fed i j ↔ (Feeds before i j ⊎ ((i < m) × (slice_index_or accepted i None ≡ Some j)))

-- input m accepts nothing
pub AreFed-skip : (before accepted : List (Option ℕ)) (m : ℕ) (fed : List (Option ℕ)) → slice_index_or accepted m None ≡ None → AreFed before accepted m fed
    → AreFed before accepted (m + 1) fed
AreFed-skip before accepted m fed nothing was i j = (
  λ feeds. elim ((was i j).0 feeds) [ inl old ↦ inl old | inr p ↦ inr (omega (arith, p.0), p.1) ],
  λ s. (was i j).1
      (elim s [
        | inl old ↦ inl old
        | inr p ↦ elim (cases_eq i m) [
          | inl same ↦ let accepts_m : slice_index_or accepted m None ≡ Some j = subst (λ k. slice_index_or accepted k None ≡ Some j) same p.1 in absurd (cc)
          | inr other ↦ inr (omega (arith, p.0), p.1)
        ]
      ]),
)

-- input m alone accepts output y, which was free
pub AreFed-put : (before accepted : List (Option ℕ)) (m y : ℕ) (fed : List (Option ℕ)) → y < length fed → IsFreeOutput before y
    → ((i : ℕ) → (slice_index_or accepted i None ≡ Some y) ↔ (i ≡ m)) → AreFed before accepted m fed
    → AreFed before accepted (m + 1) (slice_set fed y (Some m))
AreFed-put before accepted m y fed y_in free alone was i j =
    elim (cases_eq j y) [
      | inl same ↦
          let at_y : Feeds (slice_set fed y (Some m)) i y ↔ (Feeds before i y ⊎ ((i < m + 1) × (slice_index_or accepted i None ≡ Some y))) =
          rw get_or-set_same (
            λ new. let is_m : i ≡ m = same_Some i m (sym new) in inr (omega arith, (alone i).1 is_m),
            λ s. elim s [ inl old ↦ absurd (cc) | inr p ↦ ap Some (sym ((alone i).0 p.1)) ],
          ) in
          subst (λ z. Feeds (slice_set fed y (Some m)) i z ↔ (Feeds before i z ⊎ ((i < m + 1) × (slice_index_or accepted i None ≡ Some z)))) (sym same) at_y
      | inr other ↦
          rw get_or-set_other (
            λ feeds. elim ((was i j).0 feeds) [ inl old ↦ inl old | inr p ↦ inr (omega (arith, p.0), p.1) ],
            λ s. (was i j).1
                (elim s [
                  | inl old ↦ inl old
                  | inr p ↦ elim (cases_eq i m) [
                    | inl same ↦
                        let accepts_j : slice_index_or accepted m None ≡ Some j = subst (λ k. slice_index_or accepted k None ≡ Some j) same p.1 in
                        absurd (other (same_Some j y (sym accepts_j ∙ (alone m).1 refl)))
                    | inr below ↦ inr (omega (arith, p.0), p.1)
                  ]
                ]),
          )
    ]
