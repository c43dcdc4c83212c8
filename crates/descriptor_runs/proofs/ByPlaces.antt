-- Lists by their places.
use Rattle.std.proofs.Common.{◌≡◌, ◌∙◌, ℕ, ◌<◌, List, length, map, Some, sym, ap, arith}
use Rattle.std.specs.Prelude.{slice_get}
use Rattle.std.specs.List.{range_with_len}
use Rattle.std.proofs.lemmas.List.{get_or-map, length-map, map-id}
use Rattle.std.proofs.lemmas.List.FromFn.{fill_by_all}
use Rattle.std.proofs.lemmas.Option.{get_or_from_slice_get}
use Rattle.std_lemmas.proofs.Lists.{at_place}

-- where each element gives what its place tells, a list gives what a range of places does
pub map_by_place : {X Y : Type 0} (f : X → Y) (g : ℕ → Y) (xs : List X) (n : ℕ) → length xs ≡ n
    → ((i : ℕ) (x : X) → slice_get xs i ≡ Some x → f x ≡ g i) → map f xs ≡ map g (range_with_len 0 n)
map_by_place {X} f g xs n long each =
    fill_by_all g (map f xs) n (g 0) (length-map xs f ∙ long) (λ k below.
    let inside : k < length xs = omega arith in
    let here : (x : X) × (slice_get xs k ≡ Some x) = at_place xs k inside in
    get_or-map f xs k here.0 (g 0) inside ∙ ap f (get_or_from_slice_get xs k here.0 here.0 here.1) ∙ each k here.0 here.1)

-- and where it is what its place tells, the list is that of the range
pub list_by_place : {X : Type 0} (g : ℕ → X) (xs : List X) (n : ℕ) → length xs ≡ n → ((i : ℕ) (x : X) → slice_get xs i ≡ Some x → x ≡ g i)
    → xs ≡ map g (range_with_len 0 n)
list_by_place {X} g xs n long each = sym (map-id xs) ∙ map_by_place (λ (x : X). x) g xs n long each
