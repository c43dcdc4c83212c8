-- Lists by their places.
use Rattle.std.proofs.Common.{◌++◌, ◌<◌, ◌∙◌, ◌∷◌, ◌≡◌, ◌≢◌, ◌⊎◌, Any, List, Some, [], ap, append_assoc, arith, drop, inl, inr, length}
use Rattle.std.proofs.Common.{refl, replicate, set, slice_index_or, suc, sym, take, zero, ℕ}
use Rattle.std.proofs.lemmas.List.{append-nil, drop_all, get_or-set_same, length-set, take_all}
use Rattle.std.proofs.lemmas.Option.{same_Some, slice_get-get_or, slice_get_within}
use Rattle.std.specs.List.{remove}
use Rattle.std.specs.Prelude.{map, slice_get}

-- the element at a place within the list
pub at_place : {X : Type 0} (xs : List X) (i : ℕ) → i < length xs → (x : X) × (slice_get xs i ≡ Some x)
at_place [] i inside = absurd (omega (arith, inside))
at_place (x ∷ xs) zero inside = (x, refl)
at_place (x ∷ xs) (suc i) inside = at_place xs i (omega (arith, inside))

-- the element at a place, where the first one is taken off
pub slice_get-remove_first : {X : Type 0} (xs : List X) (i : ℕ) → slice_get (remove xs 0) i ≡ slice_get xs (suc i)
slice_get-remove_first [] i = refl
slice_get-remove_first (x ∷ xs) i = refl

-- the element that is set, at its place,
pub get-set_same : {X : Type 0} (xs : List X) (i : ℕ) (y : X) → i < length xs → slice_get (set xs i y) i ≡ Some y
get-set_same xs i y inside = let long = length-set xs i y in slice_get-get_or (set xs i y) i y (omega arith) ∙ ap Some (get_or-set_same xs i y y inside)

-- and the others, at theirs
pub get-set_other : {X : Type 0} (xs : List X) (i j : ℕ) (y : X) → (j ≡ i → ⊥) → slice_get (set xs i y) j ≡ slice_get xs j
get-set_other [] i j y ne = refl
get-set_other (x ∷ xs) zero zero y ne = absurd (ne refl)
get-set_other (x ∷ xs) zero (suc j) y ne = refl
get-set_other (x ∷ xs) (suc i) zero y ne = refl
get-set_other (x ∷ xs) (suc i) (suc j) y ne = get-set_other xs i j y (λ same. ne (ap suc same))

-- an element of a list with one more is one of the list, or the last
pub get-snoc : {X : Type 0} (xs : List X) (x y : X) (i : ℕ) → slice_get (xs ++ x ∷ []) i ≡ Some y → (slice_get xs i ≡ Some y) ⊎ ((i ≡ length xs) × (x ≡ y))
get-snoc [] x y zero is = inr (refl, cc)
get-snoc [] x y (suc i) is = let below : i < 0 = slice_get_within [] i y is in absurd (omega arith)
get-snoc (z ∷ xs) x y zero is = inl is
get-snoc (z ∷ xs) x y (suc i) is = elim (get-snoc xs x y i is) [ inl before ↦ inl before | inr last ↦ inr (ap suc last.0, last.1) ]

-- a slice that was lent whole, written back
pub whole_back : {X : Type 0} (k : ℕ) (new old : List X) → k ≡ length old → length new ≡ length old → take k (new ++ drop (length new) old) ≡ new
whole_back k new old all same =
    let none : drop (length new) old ≡ [] = drop_all (length new) old (omega arith) in
    ap (λ rest. take k (new ++ rest)) none ∙ ap (take k) (append-nil new) ∙ take_all k new (omega arith)

-- a list of one value has it at each place, and so has what is read past its end
pub get_or-same : {X : Type 0} (d : X) (m k : ℕ) → slice_index_or (replicate m d) k d ≡ d
get_or-same d zero k = refl
get_or-same d (suc m) zero = refl
get_or-same d (suc m) (suc k) = get_or-same d m k

-- a property of the first element is one of some element,
pub Any-here : {X : Type 0} (P : X → Type 0) (x : X) (xs : List X) → P x → Any P (x ∷ xs)
Any-here P x xs here = (0, x, omega arith, refl, here)

-- and so is one of some later element
pub Any-later : {X : Type 0} (P : X → Type 0) (x : X) (xs : List X) → Any P xs → Any P (x ∷ xs)
Any-later P x xs some = (suc some.0, some.1, omega (arith, some.2), some.3, some.4)

-- one more was gone through
pub gone_more : {X : Type 0} (ys rest xs all : List X) (x : X) → ys ++ rest ≡ all → rest ≡ x ∷ xs → (ys ++ x ∷ []) ++ xs ≡ all
gone_more ys rest xs all x whole next = append_assoc ys (x ∷ []) xs ∙ (ap (λ zs. ys ++ zs) (sym next) ∙ whole)

-- the element that follows the first ones
pub slice_get-seam : {X : Type 0} (xs ys : List X) (x : X) → slice_get (xs ++ x ∷ ys) (length xs) ≡ Some x
slice_get-seam [] ys x = refl
slice_get-seam (y ∷ xs) ys x = slice_get-seam xs ys x

-- the element that comes next, in the whole list
pub here_of : {X : Type 0} (ys rest xs all : List X) (x : X) → ys ++ rest ≡ all → rest ≡ x ∷ xs → slice_get all (length ys) ≡ Some x
here_of ys rest xs all x whole next = ap (λ zs. slice_get zs (length ys)) (sym (ap (λ zs. ys ++ zs) (sym next) ∙ whole)) ∙ slice_get-seam ys xs x

-- what can be put behind a list so that it stays as it is, is nothing
pub append_same-nil : {X : Type 0} (xs ys : List X) → xs ++ ys ≡ xs → ys ≡ []
append_same-nil [] ys e = e
append_same-nil (x ∷ xs) ys e = append_same-nil xs ys (cc)

-- an element of a mapped list is made of the one at its place
pub got_map : {A B : Type 0} (f : A → B) (xs : List A) (k : ℕ) (y : B) → slice_get (map f xs) k ≡ Some y → (x : A) × (slice_get xs k ≡ Some x) × (f x ≡ y)
got_map f [] k y is = absurd (cc)
got_map f (x ∷ xs) zero y is = (x, refl, same_Some (f x) y is)
got_map f (x ∷ xs) (suc k) y is = got_map f xs k y is

-- and the element at a place is what the list's own there is made into
pub slice_get-map : {X Y : Type 0} (f : X → Y) (xs : List X) (i : ℕ) (d : X) → i < length xs → slice_get (map f xs) i ≡ Some (f (slice_index_or xs i d))
slice_get-map f [] i d inside = absurd (omega arith)
slice_get-map f (x ∷ xs) zero d inside = refl
slice_get-map f (x ∷ xs) (suc i) d inside = slice_get-map f xs i d (omega arith)

-- what is found where one was written
pub got_set : {A : Type 0} (xs : List A) (k j : ℕ) (x y : A) → slice_get (set xs k x) j ≡ Some y → ((j ≡ k) × (y ≡ x)) ⊎ ((j ≢ k) × (slice_get xs j ≡ Some y))
got_set [] k j x y is = absurd (cc)
got_set (a ∷ xs) zero zero x y is = inl (refl, sym (same_Some x y is))
got_set (a ∷ xs) zero (suc j) x y is = inr (λ e. absurd (omega arith), is)
got_set (a ∷ xs) (suc k) zero x y is = inr (λ e. absurd (omega arith), is)
got_set (a ∷ xs) (suc k) (suc j) x y is = elim (got_set xs k j x y is) [
  | inl both ↦ inl (ap suc both.0, both.1)
  | inr both ↦ inr (λ e. both.0 (omega arith), both.1)
]
