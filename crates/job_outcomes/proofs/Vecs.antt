-- Lists in a `Vec`, and lists that are made element by element.
use Rattle.std.proofs.Common.{◌≡◌, ◌<◌, ◌^◌, ℕ, zero, suc, List, [], ◌∷◌, length, Some, Vec, Global, refl, ap, subst, arith}
use Rattle.std.specs.Prelude.{slice_get}
use Rattle.std.proofs.lemmas.Option.{none-some, same_Some}
use denote.RawPtr.{null_ptr}

-- a list in a `Vec`, of which no block is told
abbrev pub vec_of : {A : Type 0} (xs : List A) → length xs < 2 ^ 63 → Vec A Global
vec_of xs few = record {
  ptr = null_ptr;
  len = length xs;
  cap = length xs;
  alloc = record { memory = record { seal = tt } };
  items = xs;
  ok = (refl, omega arith);
  small = few;
}

-- an element for each of a list
pub record IsMade {A B : Type 0} (R : ℕ → A → B → Type 0) (xs : List A) (ys : List B) : Type 0 where
  pub count : length ys ≡ length xs
  pub each : (k : ℕ) (x : A) (y : B) → slice_get xs k ≡ Some x → slice_get ys k ≡ Some y → R k x y

made_more : {A B : Type 0} (R : ℕ → A → B → Type 0) (xs : List A) (ys : List B) (x : A) (y : B) → R 0 x y → IsMade (λ k. R (suc k)) xs ys
    → IsMade R (x ∷ xs) (y ∷ ys)
made_more R xs ys x y first rest = record { count = ap suc rest.count; each = at }
  where
    at : (k : ℕ) (a : _) (b : _) → slice_get (x ∷ xs) k ≡ Some a → slice_get (y ∷ ys) k ≡ Some b → R k a b
    at zero a b at_a at_b = subst (R 0 a) (same_Some y b at_b) (subst (λ z. R 0 z y) (same_Some x a at_a) first)
    at (suc k) a b at_a at_b = rest.each k a b at_a at_b

-- where there is one for each element, there is a list of them
pub made_all : {A B : Type 0} (R : ℕ → A → B → Type 0) (xs : List A) → ((k : ℕ) (x : A) → slice_get xs k ≡ Some x → (y : B) × R k x y)
    → (ys : List B) × IsMade R xs ys
made_all R [] make = ([], record { count = refl; each = λ k x y at_x at_y. absurd (none-some x at_x) })
made_all R (x ∷ xs) make =
    let first = make 0 x refl in
    let rest = made_all (λ k. R (suc k)) xs (λ k y at. make (suc k) y at) in
    (first.0 ∷ rest.0, made_more R xs rest.0 x first.0 first.1 rest.1)
