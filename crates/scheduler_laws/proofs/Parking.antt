-- Pointers under full load: where two are together, a row of places behind them is taken for ever.
use Rattle.std.proofs.Common.{◌≡◌, ℕ, zero, suc, ◌+◌, ◌%◌, ◌<◌, ◌≤◌, ◌⊎◌, ◌∙◌, refl, sym, ap, subst, inl, inr, arith}
use Rattle.std.proofs.Math.Nat.{mod-eq_of_lt, mod-add-mod}
use Rattle.std.proofs.lemmas.Bool.{cases_eq}
use Rattle.std.proofs.lemmas.Nat.{mod_below}
use Rattle.service_bound.proofs.Distances.{next-injective}
use Rattle.rotating_pick.specs.Rotation.{distance}
use Rattle.rotating_pick.proofs.Circle.{distance-lt, place_at_distance}
use Rattle.scheduler_laws.proofs.Pigeons.{Covers, once_from_Covers}

-- A slot takes pointers from g to h. Each input at which some output's pointer is takes one of those outputs, by F.
-- The pointer of an output that is taken moves one on, and the others stay.
pub record IsStep (n : ℕ) (g h : ℕ → ℕ) (F : ℕ → ℕ → Type 0) : Type 0 where
  pub below : (j : ℕ) → j < n → g j < n
  pub met : (j : ℕ) → j < n → (k : ℕ) × (k < n) × F (g j) k
  pub at : (i k : ℕ) → k < n → F i k → g k ≡ i
  pub once : (i j k : ℕ) → F i j → F i k → j ≡ k
  pub moved : (i j : ℕ) → F i j → h j ≡ (i + 1) % n
  pub stays : (j : ℕ) → ((i : ℕ) → F i j → ⊥) → h j ≡ g j

-- Where the pointers of two outputs are together, some pointer is at each of the t ports after them.
abbrev pub IsSpread : ℕ → ℕ → (ℕ → ℕ) → Type 0
IsSpread n t g = (j k : ℕ) → j < n → k < n → (j ≡ k → ⊥) → g j ≡ g k → (d : ℕ) → d ≤ t → (m : ℕ) × (m < n) × (g m ≡ (g j + d) % n)

-- the port one beyond a port d beyond x is d + 1 beyond x
one_farther : (n p q x d : ℕ) → p ≡ (q + d) % n → q ≡ x → (p + 1) % n ≡ (x + suc d) % n
one_farther n p q x d far same =
    let sums : q + d + 1 ≡ x + suc d = omega arith in
    ap (λ y. (y + 1) % n) far ∙ (mod-add-mod (q + d) n 1 ∙ ap (λ y. y % n) sums)

-- two different outputs whose pointers are at port x
pub record AreTogether (n : ℕ) (g : ℕ → ℕ) (x : ℕ) : Type 0 where
  pub one : ℕ
  pub other : ℕ
  pub one_in : one < n
  pub other_in : other < n
  pub differ : one ≡ other → ⊥
  pub one_at : g one ≡ x
  pub other_at : g other ≡ x

-- no two pointers are together
abbrev pub AreApart : ℕ → (ℕ → ℕ) → Type 0
AreApart n g = (j k : ℕ) → j < n → k < n → (j ≡ k → ⊥) → g j ≡ g k → ⊥

-- before any slot
pub IsSpread-first : (n : ℕ) (g : ℕ → ℕ) → ((j : ℕ) → j < n → g j < n) → IsSpread n 0 g
IsSpread-first n g below j k j_in k_in differ same d d_in =
    let short : g j + d < n = let here = below j j_in in omega arith in
    let value : (g j + d) % n ≡ g j + d = mod-eq_of_lt short in
    (j, j_in, omega arith)

module _ (n : ℕ) (g h : ℕ → ℕ) (F : ℕ → ℕ → Type 0) (step : IsStep n g h F) where
  -- an output is taken where its pointer is, or another one there is and its own pointer stays
  pub taken_or : (j : ℕ) → j < n → F (g j) j ⊎ (AreTogether n g (g j) × (h j ≡ g j))
  taken_or j j_in =
      let met : (k : ℕ) × (k < n) × F (g j) k = step.met j j_in in
      elim (cases_eq met.0 j) [
        | inl same ↦ inl (subst (F (g j)) same met.2)
        | inr other ↦ inr (
          record {
            one = j;
            other = met.0;
            one_in = j_in;
            other_in = met.1;
            differ = λ e. other (sym e);
            one_at = refl;
            other_at = step.at (g j) met.0 met.1 met.2;
          },
          step.stays j (λ i taken. let here : g j ≡ i = step.at i j j_in taken in other (step.once (g j) met.0 j met.2 (subst (λ x. F x j) (sym here) taken))),
        )
      ]

  -- pointers that are together were together there before the slot
  together_before : (j k : ℕ) → j < n → k < n → (j ≡ k → ⊥) → h j ≡ h k → AreTogether n g (h j)
  together_before j k j_in k_in differ same = elim (taken_or j j_in) [
    | inr left ↦ subst (AreTogether n g) (sym left.1) left.0
    | inl taken ↦ elim (taken_or k k_in) [
      | inr left ↦ subst (AreTogether n g) (sym (same ∙ left.1)) left.0
      | inl also ↦
          let both : (g j + 1) % n ≡ (g k + 1) % n = sym (step.moved (g j) j taken) ∙ (same ∙ step.moved (g k) k also) in
          let place : g j ≡ g k = next-injective n (g j) (g k) (step.below j j_in) (step.below k k_in) both in
          absurd (differ (step.once (g j) j k taken (subst (λ x. F x k) (sym place) also)))
    ]
  ]

  -- a port with a pointer has one a port on after the slot
  goes_on : (j : ℕ) → j < n → (k : ℕ) × (k < n) × (h k ≡ (g j + 1) % n)
  goes_on j j_in = let met : (k : ℕ) × (k < n) × F (g j) k = step.met j j_in in (met.0, met.1, step.moved (g j) met.0 met.2)

  pub below_after : (j : ℕ) → j < n → h j < n
  below_after j j_in = elim (taken_or j j_in) [
    | inl taken ↦ let e = step.moved (g j) j taken in let b : (g j + 1) % n < n = mod_below (g j + 1) n (omega arith) in omega arith
    | inr left ↦ let e : h j ≡ g j = left.1 in let b = step.below j j_in in omega arith
  ]

  -- where pointers were together at x, one is a port farther beyond x after the slot
  farther_after : (t x d : ℕ) → IsSpread n t g → AreTogether n g x → d ≤ t → (m : ℕ) × (m < n) × (h m ≡ (x + suc d) % n)
  farther_after t x d spread pair d_in =
      let behind : (m : ℕ) × (m < n)
      × (g m ≡ (g pair.one + d) % n) = spread pair.one pair.other pair.one_in pair.other_in pair.differ (pair.one_at ∙ sym pair.other_at) d d_in in
      let next = goes_on behind.0 behind.1 in
      (next.0, next.1, next.2 ∙ one_farther n (g behind.0) (g pair.one) x d behind.2 pair.one_at)

  -- a slot takes more places, as far as pointers are still together
  pub IsSpread-next : (t : ℕ) → IsSpread n t g → IsSpread n (t + 1) h
  IsSpread-next t spread j k j_in k_in differ same zero d_in =
      let value : (h j + 0) % n ≡ h j + 0 = mod-eq_of_lt (let b = below_after j j_in in omega arith) in
      (j, j_in, omega arith)
  IsSpread-next t spread j k j_in k_in differ same (suc d) d_in =
      farther_after t (h j) d spread (together_before j k j_in k_in differ same) (omega arith)

  -- where no two pointers are together each output is taken
  pub all_taken : AreApart n g → (j : ℕ) → j < n → F (g j) j
  all_taken apart j j_in = elim (taken_or j j_in) [
    | inl taken ↦ taken
    | inr left ↦ let pair = left.0 in absurd (apart pair.one pair.other pair.one_in pair.other_in pair.differ (pair.one_at ∙ sym pair.other_at))
  ]

-- after n - 1 slots no two pointers are together: at every port there would be one, and at one of them two
pub apart_at_last : (n t : ℕ) (g : ℕ → ℕ) → n ≤ t + 1 → ((j : ℕ) → j < n → g j < n) → IsSpread n t g → AreApart n g
apart_at_last n t g late below spread j k j_in k_in differ same =
    let covers : Covers n n g = λ y y_in.
    let far = distance-lt n (g j) y (below j j_in) in
    let at : (m : ℕ) × (m < n) × (g m ≡ (g j + distance n (g j) y) % n) = spread j k j_in k_in differ same (distance n (g j) y) (omega arith) in
    let sums : g j + distance n (g j) y ≡ distance n (g j) y + g j = omega arith in
    (at.0, at.1, at.2 ∙ (ap (λ x. x % n) sums ∙ place_at_distance n (g j) y (below j j_in) y_in)) in
    once_from_Covers n g j k covers j_in k_in differ same
