-- What is found going over the places is what is found going over all numbers.
use Rattle.std.proofs.Common.{◌≡◌, ◌≢◌, ◌∙◌, ℕ, zero, suc, ◌+◌, ◌-◌, ◌<◌, ◌≤◌, [], Option, None, refl, sym, ap, inl, inr, arith}
use Rattle.std.specs.List.{cons_option, filter_map, range_with_len}
use Rattle.std.proofs.lemmas.Bool.{cases_lt, cases_eq}

module _ {X : Type 0} where
  -- two functions that agree find the same
  pub same_found : (f g : ℕ → Option X) (a n : ℕ) → ((k : ℕ) → a ≤ k → k < a + n → f k ≡ g k) → filter_map f (range_with_len a n) ≡ filter_map g (range_with_len a n)
  same_found f g a zero same = refl
  same_found f g a (suc n) same =
      ap (λ o. cons_option o (filter_map f (range_with_len (a + 1) n))) (same a (omega arith) (omega arith))
      ∙ ap (cons_option (g a)) (same_found f g (a + 1) n (λ k from below. same k (omega arith) (omega arith)))

  -- nothing is found among numbers that give nothing
  none_found : (f : ℕ → Option X) (a n : ℕ) → ((k : ℕ) → a ≤ k → k < a + n → f k ≡ None) → filter_map f (range_with_len a n) ≡ []
  none_found f a zero none = refl
  none_found f a (suc n) none =
      ap (λ o. cons_option o (filter_map f (range_with_len (a + 1) n))) (none a (omega arith) (omega arith))
      ∙ none_found f (a + 1) n (λ k from below. none k (omega arith) (omega arith))

  -- the numbers after the first m give nothing
  pub found_before : (f : ℕ → Option X) (a m n : ℕ) → m ≤ n → ((k : ℕ) → a + m ≤ k → k < a + n → f k ≡ None)
      → filter_map f (range_with_len a m) ≡ filter_map f (range_with_len a n)
  found_before f a zero n few none = sym (none_found f a n (λ k from below. none k (omega arith) below))
  found_before f a (suc m) zero few none = absurd (omega arith)
  found_before f a (suc m) (suc n) few none =
      ap (cons_option (f a)) (found_before f (a + 1) m n (omega arith) (λ k from below. none k (omega arith) (omega arith)))

  -- the first numbers give nothing
  found_after : (f : ℕ → Option X) (a first n : ℕ) → ((k : ℕ) → a ≤ k → k < a + first → f k ≡ None)
      → filter_map f (range_with_len a (first + n)) ≡ filter_map f (range_with_len (a + first) n)
  found_after f a zero n none =
      ap (λ m. filter_map f (range_with_len a m)) (let e : 0 + n ≡ n = omega arith in e)
      ∙ ap (λ b. filter_map f (range_with_len b n)) (let e : a ≡ a + 0 = omega arith in e)
  found_after f a (suc first) n none =
      ap (λ m. filter_map f (range_with_len a m)) (let e : suc first + n ≡ suc (first + n) = omega arith in e)
      ∙ ap (λ o. cons_option o (filter_map f (range_with_len (a + 1) (first + n)))) (none a (omega arith) (omega arith))
      ∙ found_after f (a + 1) first n (λ k from below. none k (omega arith) (omega arith))
      ∙ ap (λ b. filter_map f (range_with_len b n)) (let e : a + 1 + first ≡ a + suc first = omega arith in e)

  -- going over the places of numbers that rise, where no other number gives something
  pub found_at_places : (f : ℕ → Option X) (at : ℕ → ℕ) → ((p q : ℕ) → p < q → at p < at q) → ((k : ℕ) → ((p : ℕ) → at p ≢ k) → f k ≡ None)
      → (p n m : ℕ) → at p + m ≡ at (p + n) → filter_map (λ q. f (at q)) (range_with_len p n) ≡ filter_map f (range_with_len (at p) m)
  found_at_places f at rise others p zero m far =
      let here : at (p + 0) ≡ at p = ap at (omega arith) in
      let none : m ≡ 0 = omega arith in
      rw none refl
  found_at_places f at rise others p (suc n) m far =
      let gap = at (p + 1) - at p - 1 in
      let rest = m - gap - 1 in
      let up : at p < at (p + 1) = rise p (p + 1) (omega arith) in
      let end : at (p + suc n) ≡ at (p + 1 + n) = ap at (omega arith) in
      let later : at (p + 1) ≤ at (p + 1 + n) = elim (cases_eq n 0) [
        | inl none ↦ let e : at (p + 1 + n) ≡ at (p + 1) = ap at (omega arith) in omega arith
        | inr some ↦ let less = rise (p + 1) (p + 1 + n) (omega arith) in omega arith
      ] in
      let next : at p + 1 + gap ≡ at (p + 1) = omega arith in
      let whole : suc (gap + rest) ≡ m = omega arith in
      let between : (k : ℕ) → at p + 1 ≤ k → k < at p + 1 + gap → f k ≡ None = λ k from below. others k
      (λ q is. elim (cases_lt p q) [
        | inl after ↦ elim (cases_eq q (p + 1)) [
          | inl same ↦ let e = ap at same in omega arith
          | inr beyond ↦ let less = rise (p + 1) q (omega arith) in omega arith
        ]
        | inr before ↦ elim (cases_eq q p) [
          | inl same ↦ let e = ap at same in omega arith
          | inr less ↦ let under = rise q p (omega arith) in omega arith
        ]
      ]) in
      ap (cons_option (f (at p)))
      (found_at_places f at rise others (p + 1) n rest (omega arith)
      ∙ ap (λ b. filter_map f (range_with_len b rest)) (sym next)
      ∙ sym (found_after f (at p + 1) gap rest between))
      ∙ ap (λ k. filter_map f (range_with_len (at p) k)) whole
