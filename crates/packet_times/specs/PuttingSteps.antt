-- Bytes that are put into a slice, one piece after the other or one before the other.
use Rattle.std.specs.Prelude.{◌≡◌, ◌≤◌, ℕ, ◌+◌, ◌++◌, ◌∷◌, List, length, take, drop}
use Rattle.std.specs.List.{flat_map}

-- these bytes were put at a place, and this is the place after them
pub record IsPut (old : List ℕ) (at : ℕ) (bytes new : List ℕ) (end : ℕ) : Type 0 where
  pub long : length new ≡ length old
  pub place : end ≡ at + length bytes
  pub inside : end ≤ length new
  pub text : take end new ≡ take at old ++ bytes

-- these bytes were put before a place, and this is where they begin
pub record IsPutBefore (old : List ℕ) (end : ℕ) (bytes new : List ℕ) (at : ℕ) : Type 0 where
  pub place : at + length bytes ≡ end
  pub text : drop at new ≡ bytes ++ drop end old

-- a comma before each of these fields
abbrev pub with_commas : List (List ℕ) → List ℕ
with_commas = flat_map (λ field. 44 ∷ field)

-- these fields were put before a place, each after a comma
abbrev pub AreFieldsBefore : List ℕ → ℕ → List (List ℕ) → List ℕ → ℕ → Type 0
AreFieldsBefore old end fields new at = IsPutBefore old end (with_commas fields) new at
