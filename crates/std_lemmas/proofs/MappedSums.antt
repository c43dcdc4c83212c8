-- Sums and counts over lists that are made element by element.
use Rattle.std.proofs.Common.{◌+◌, ◌<◌, ◌∙◌, ◌∷◌, ◌≡◌, Bool, List, [], ap, arith, cond, get_or, length, map, refl, sym, ℕ}
use Rattle.std.proofs.lemmas.List.{get_or-map, length-map}
use Rattle.std.proofs.lemmas.List.Folds.{fold-map}
use Rattle.std.proofs.lemmas.List.FromFn.{fill_by_all}
use Rattle.std.proofs.lemmas.List.Sums.{sum-map, sum_by-cons}
use Rattle.std.proofs.lemmas.Option.{get_or_from_slice_get}
use Rattle.std.proofs.lemmas.Simd.{map-map}
use Rattle.std.specs.List.{range_with_len, sum_by, zip}
use Rattle.std.specs.Prelude.{Some, count_by, slice_get}
use Rattle.std_lemmas.proofs.Lists.{at_place}

-- a sum over a list that was made element by element
pub sum_by-map : {A B : Type 0} (f : B → ℕ) (g : A → B) (xs : List A) → sum_by f (map g xs) ≡ sum_by (λ x. f (g x)) xs
sum_by-map f g xs = sym (sum-map f (map g xs)) ∙ (ap (λ ys. sum_by (λ y. y) ys) (map-map f g xs) ∙ sum-map (λ x. f (g x)) xs)

-- a sum over a list, where each term is told by its place
pub sum_of : {X : Type 0} (f : X → ℕ) (g : ℕ → ℕ) (xs : List X) (n : ℕ) → length xs ≡ n → ((i : ℕ) (x : X) → slice_get xs i ≡ Some x → f x ≡ g i)
    → sum_by f xs ≡ sum_by g (range_with_len 0 n)
sum_of {X} f g xs n long each =
    let term : (k : ℕ) → k < n → get_or (map f xs) k 0 ≡ g k = λ k below.
    let inside : k < length xs = omega arith in
    let (x, at) = at_place xs k inside in
    get_or-map f xs k x 0 inside ∙ ap f (get_or_from_slice_get xs k x x at) ∙ each k x at in
    let terms = fill_by_all g (map f xs) n 0 (length-map xs f ∙ long) term in
    sym (sum-map f xs) ∙ ap (λ ys. sum_by (λ y. y) ys) terms ∙ sum-map g (range_with_len 0 n)

-- how many of a mapped list pass a test
pub count_map : {A B : Type 0} (p : B → Bool) (f : A → B) (xs : List A) → count_by p (map f xs) ≡ count_by (λ x. p (f x)) xs
count_map p f xs = fold-map (λ a x. a + cond (p x) 1 0) f 0 xs

-- how many pairs have a first part that passes
pub count_left : {A B : Type 0} (p : A → Bool) (xs : List A) (ys : List B) → length xs ≡ length ys → count_by (λ pair. p pair.0) (zip xs ys) ≡ count_by p xs
count_left p [] ys same = refl
count_left p (x ∷ xs) [] same = absurd (omega arith)
count_left {A = A} {B = B} p (x ∷ xs) (y ∷ ys) same =
    let test : A × B → ℕ = λ pair. cond (p pair.0) 1 0 in
    sum_by-cons test (x, y) (zip xs ys)
    ∙ ap (λ n. cond (p x) 1 0 + n) (count_left p xs ys (omega arith))
    ∙ sym (sum_by-cons (λ x. cond (p x) 1 0) x xs)
