-- From all pointers together, one output leaves in each slot, and the last of n after n - 1 of them.
use Rattle.std.proofs.Common.{◌≡◌, ℕ, ◌+◌, ◌<◌, ◌≤◌, ◌∙◌, sym, ap, subst, inl, inr, arith}
use Rattle.std.proofs.Math.Nat.{mod-eq_of_lt}
use Rattle.std.proofs.lemmas.Bool.{cases_eq, cases_lt}
use Rattle.scheduler_laws.proofs.Parking.{IsStep, taken_or}

-- After s slots: of the first s outputs the pointers are in a line beyond port 0, and those of the others are at it.
pub record IsLine (n s : ℕ) (g : ℕ → ℕ) : Type 0 where
  pub gone : (j : ℕ) → j < s → g j + j ≡ s
  pub here : (j : ℕ) → s ≤ j → j < n → g j ≡ 0

module _ (n s : ℕ) (g h : ℕ → ℕ) (F : ℕ → ℕ → Type 0) (step : IsStep n g h F) (line : IsLine n s g) (more : s + 1 < n) (taken : F 0 s) where
  -- an output after the first of those that are left is not taken
  pub left_over : (j : ℕ) → s < j → j < n → (i : ℕ) → F i j → ⊥
  left_over j after j_in i also =
      let at : g j ≡ i = step.at i j j_in also in
      let zero_is : i ≡ 0 = sym at ∙ line.here j (omega arith) j_in in
      let same : s ≡ j = step.once 0 s j taken (subst (λ x. F x j) zero_is also) in
      omega arith

  -- in the line no two are together
  one_place : (j k : ℕ) → j < s → k < n → g k ≡ g j → k ≡ j
  one_place j k before k_in same = let e = line.gone j before in elim (cases_lt k s) [
    | inl also ↦ let f = line.gone k also in omega arith
    | inr back ↦ let f = line.here k back k_in in absurd (omega arith)
  ]

  gone_after : (j : ℕ) → j < s → h j + j ≡ s + 1
  gone_after j before = elim (taken_or n g h F step j (omega arith)) [
    | inl moves ↦
        let e = line.gone j before in
        let short : g j + 1 < n = omega arith in
        let value : h j ≡ g j + 1 = step.moved (g j) j moves ∙ mod-eq_of_lt short in
        omega arith
    | inr left ↦
        let pair = left.0 in
        absurd (pair.differ (one_place j pair.one before pair.one_in pair.one_at ∙ sym (one_place j pair.other before pair.other_in pair.other_at)))
  ]

  pub IsLine-next : IsLine n (s + 1) h
  IsLine-next = record {
    gone = λ j j_in. elim (cases_eq j s) [
      | inl last ↦
          let short : 0 + 1 < n = omega arith in
          let value : h s ≡ 0 + 1 = step.moved 0 s taken ∙ mod-eq_of_lt short in
          let same : h j ≡ h s = ap h last in
          omega arith
      | inr other ↦ gone_after j (omega arith)
    ];
    here = λ j after j_in. step.stays j (left_over j (omega arith) j_in) ∙ line.here j (omega arith) j_in;
  }
