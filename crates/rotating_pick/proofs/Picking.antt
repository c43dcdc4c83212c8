-- Where some port has P, one is first from a pointer on.
use Rattle.std.proofs.Common.{◌≡◌, ℕ, zero, suc, ◌+◌, ◌%◌, ◌<◌, ◌⊎◌, ◌∙◌, sym, ap, subst, inl, inr, arith}
use Rattle.std.proofs.lemmas.Bool.{cases_eq, cases_lt}
use Rattle.std.proofs.lemmas.Nat.{mod_below}
use Rattle.rotating_pick.specs.Rotation.{distance, IsFirstFrom}
use Rattle.rotating_pick.proofs.Circle.{distance-lt, place_at_distance, distance_of_place}
use Rattle.rotating_pick.proofs.First.{IsFirstFrom-only}

-- P holds or it does not
abbrev pub Decides : Type 0 → Type 0
Decides P = P ⊎ (P → ⊥)

-- the least number below n with P, if there is one
pub least : (P : ℕ → Type 0) → ((k : ℕ) → Decides (P k)) → (n : ℕ) → ((k : ℕ) × (k < n) × P k × ((m : ℕ) → m < k → P m → ⊥)) ⊎ ((k : ℕ) → k < n → P k → ⊥)
least P dec zero = inr (λ k h p. absurd (omega arith))
least P dec (suc n) =
    elim (least P dec n) [
      | inl found ↦ inl (found.0, omega (arith, found.1), found.2, found.3)
      | inr none ↦ elim (dec n) [
        | inl here ↦ inl (n, omega arith, here, none)
        | inr not_here ↦ inr (λ k h p. elim (cases_eq k n) [ inl same ↦ not_here (subst P same p) | inr other ↦ none k (omega arith) p ])
      ]
    ]

-- where some port has P, one is first
pub IsFirstFrom-some : (n from : ℕ) (P : ℕ → Type 0) → ((k : ℕ) → Decides (P k)) → from < n → (y : ℕ) → y < n → P y → (x : ℕ) × IsFirstFrom n from P x
IsFirstFrom-some n from P dec f y y_in has =
    let Q : ℕ → Type 0 = λ d. P ((d + from) % n) in
    let at_distance : (z : ℕ) → z < n → P z → Q (distance n from z) = λ z z_in p. subst P (sym (place_at_distance n from z f z_in)) p in
    elim (least Q (λ d. dec ((d + from) % n)) n) [
      | inl found ↦
          let d = found.0 in (
            (d + from) % n,
            record {
              below = mod_below (d + from) n (omega arith);
              member = found.2;
              least = λ z z_in p. rw (distance_of_place n from d f found.1)
                  (elim (cases_lt (distance n from z) d) [ inl nearer ↦ absurd (found.3 (distance n from z) nearer (at_distance z z_in p)) | inr far ↦ far ]);
            },
          )
      | inr none ↦ absurd (none (distance n from y) (distance-lt n from y f) (at_distance y y_in has))
    ]

-- whether a port is the first
pub IsFirstFrom-decides : (n from : ℕ) (P : ℕ → Type 0) → ((k : ℕ) → Decides (P k)) → from < n → (x : ℕ) → Decides (IsFirstFrom n from P x)
IsFirstFrom-decides n from P dec f x =
    elim (least P dec n) [
      | inl found ↦
          let first = IsFirstFrom-some n from P dec f found.0 found.1 found.2 in
          elim (cases_eq first.0 x) [
            | inl same ↦ inl (subst (IsFirstFrom n from P) same first.1)
            | inr other ↦ inr (λ h. other (IsFirstFrom-only n from P first.0 x f first.1 h))
          ]
      | inr none ↦ inr (λ h. none x h.below h.member)
    ]

-- ports at one distance are one port
pub distance-injective : (n from x y : ℕ) → from < n → x < n → y < n → distance n from x ≡ distance n from y → x ≡ y
distance-injective n from x y f x_in y_in e =
    sym (place_at_distance n from x f x_in) ∙ (ap (λ d. (d + from) % n) e ∙ place_at_distance n from y f y_in)
