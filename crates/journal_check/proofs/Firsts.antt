-- The least number with a test, found by going up.
use Rattle.std.proofs.Common.{◌≡◌, ℕ, suc, ◌+◌, ◌-◌, ◌<◌, ◌∙◌, Bool, false, Option, Some, ap, arith}
use Rattle.std.specs.List.{find, range_with_len}
use Rattle.std.proofs.lemmas.Bool.{cond-false}

-- the least of the numbers from i below n with the test
abbrev pub first_from : ℕ → ℕ → (ℕ → Bool) → Option ℕ
first_from i n test = find test (range_with_len i (n - i))

module _ (test : ℕ → Bool) where
  more : (i n : ℕ) → i < n → first_from i n test ≡ find test (range_with_len i (suc (n - (i + 1))))
  more i n below = let e : n - i ≡ suc (n - (i + 1)) = omega arith in ap (λ (k : ℕ). find test (range_with_len i k)) e

  -- it does not, so the least is one of the later numbers
  pub first_later : (i n : ℕ) → i < n → test i ≡ false → first_from i n test ≡ first_from (i + 1) n test
  first_later i n below e = more i n below ∙ cond-false (test i) (Some i) (find test (range_with_len (i + 1) (n - (i + 1)))) e
