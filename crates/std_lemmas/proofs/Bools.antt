-- Tests, and numbers that a test chooses.
use Rattle.std.proofs.Common.{◌&&◌, ◌≡◌, ◌≤◌, Bool, arith, false, if◌then◌else◌, refl, true, ℕ}

-- two tests that agree where the second of three passes
pub same_third : (r s a b : Bool) → (s ≡ true → a ≡ b) → (r && s && a) ≡ (r && s && b)
same_third true true a b same = same refl
same_third true false a b same = refl
same_third false s a b same = refl

-- one where a test passes, else none
pub one_if-le : (yes' : Bool) → (if yes' then 1 else 0) ≤ 1
one_if-le true = omega arith
one_if-le false = omega arith

-- a number where a test passes, else 0, is within what bounds the number
pub if_within : (b : Bool) (x most : ℕ) → (b ≡ true → x ≤ most) → (if b then x else 0) ≤ most
if_within true x most within = within refl
if_within false x most within = omega arith
