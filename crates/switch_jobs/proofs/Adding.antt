-- Sums over the outputs of a run, what bounds them, and the least of some numbers.
use Rattle.std.proofs.Common.{◌≡◌, ◌⊎◌, ℕ, suc, ◌-◌, ◌^◌, ◌<◌, ◌≤◌, Bool, true, false, cond, List, [], ◌∷◌, ◌++◌, length, get_or, map, refl, arith, inl, inr}
use Rattle.std.specs.Prelude.{Some, Option, None, slice_get, All}
use Rattle.std.specs.List.{sum_by, filter, range_with_len, flat_map}
use Rattle.std.specs.Option.{option_to_list}
use Rattle.std.proofs.lemmas.Bool.{cases_lt}
use Rattle.std.proofs.lemmas.List.{length-append}
use Rattle.std.proofs.lemmas.List.FromFn.{length-range_with_len}
use Rattle.std.proofs.lemmas.List.Sums.{sum_by-le}
use Rattle.std.proofs.lemmas.Option.{slice_get-get_or}
use Rattle.cell_cutter.specs.declared.cell.Cell.{Cell}
use Rattle.slot_board.specs.Boards.{least_of}
use Rattle.card_core.specs.Deliveries.{ended_by, messages_after}

-- sums of small terms over a few elements fit
pub sum_fits : {X : Type 0} (f : X → ℕ) (xs : List X) → length xs ≤ 64 → ((i : ℕ) (x : X) → slice_get xs i ≡ Some x → f x ≤ 262145) → sum_by f xs < 2 ^ 32
sum_fits {X} f xs few each =
    let all : All (λ x. f x ≤ 262145) xs = λ k d inside. each k (get_or xs k d) (slice_get-get_or xs k d inside) in
    let most = sum_by-le f 262145 xs all in
    omega arith

-- ---- what bounds the numbers of a port by its slots
one_at_most : (b : Bool) → cond b 1 0 ≤ 1
one_at_most true = omega arith
one_at_most false = omega arith

ended-le : (b : Bool) (m : List ℕ) → length (cond b (m ∷ []) []) ≤ 1
ended-le true m = omega arith
ended-le false m = omega arith

-- a cell ends one message at most
pub messages-le : (before cells : List Cell) → length (messages_after before cells) ≤ length cells
messages-le before [] = omega arith
messages-le before (cell ∷ cells) =
    let more = messages-le (before ++ cell ∷ []) cells in
    let here : length (ended_by before cell) ≤ 1 = ended-le cell.last _ in
    let both = length-append (ended_by before cell) (messages_after (before ++ cell ∷ []) cells) in
    omega (arith, more, here, both)

option-le : {X : Type 0} (o : Option X) → length (option_to_list o) ≤ 1
option-le None = omega arith
option-le (Some x) = omega arith

one_each-le : {X : Type 0} (f : ℕ → Option X) (ks : List ℕ) → length (flat_map (λ k. option_to_list (f k)) ks) ≤ length ks
one_each-le f [] = omega arith
one_each-le f (k ∷ ks) =
    let more = one_each-le f ks in
    let here = option-le (f k) in
    let both = length-append (option_to_list (f k)) (flat_map (λ j. option_to_list (f j)) ks) in
    omega (arith, more, here, both)

-- a slot has one cell at most
pub cells-le : {X : Type 0} (f : ℕ → Option X) (n : ℕ) → length (flat_map (λ k. option_to_list (f k)) (range_with_len 0 n)) ≤ n
cells-le f n = let most = one_each-le f (range_with_len 0 n) in let long = length-range_with_len 0 n in omega arith

-- ---- the least of some numbers
least_small : (ns : List ℕ) → least_of ns ≤ 2 ^ 64 - 1
least_small [] = omega arith
least_small (n ∷ ns) = let rest = least_small ns in omega arith

least_more : {X : Type 0} (b : Bool) (f : X → ℕ) (x : X) (rest : List X) (n : ℕ)
    → (least_of (map f rest) ≡ n) ⊎ (least_of (map f rest) ≡ 2 ^ 64 - 1) → (b ≡ true → f x ≡ n)
    → (least_of (map f (cond b (x ∷ rest) rest)) ≡ n) ⊎ (least_of (map f (cond b (x ∷ rest) rest)) ≡ 2 ^ 64 - 1)
least_more true f x rest n more own =
    let here = own refl in
    elim (cases_lt n (2 ^ 64)) [
      | inl small ↦ inl (elim more [ inl is ↦ omega (arith, is, here) | inr is ↦ omega (arith, is, here) ])
      | inr great ↦ inr (elim more [ inl is ↦ omega (arith, is, here, least_small (map f rest)) | inr is ↦ omega (arith, is, here) ])
    ]
least_more false f x rest n more own = more

-- of those that count, which are all one number
pub least-exact : {X : Type 0} (p : X → Bool) (f : X → ℕ) (xs : List X) (n : ℕ)
    → ((i : ℕ) (x : X) → slice_get xs i ≡ Some x → p x ≡ true → f x ≡ n)
    → (least_of (map f (filter p xs)) ≡ n) ⊎ (least_of (map f (filter p xs)) ≡ 2 ^ 64 - 1)
least-exact p f [] n each = inr refl
least-exact p f (x ∷ xs) n each = least_more (p x) f x (filter p xs) n (least-exact p f xs n (λ i y at passes. each (suc i) y at passes)) (each 0 x refl)
