-- Lists that are made of the numbers of a range.
use Rattle.std.proofs.Common.{◌++◌, ◌+◌, ◌-◌, ◌<◌, ◌∙◌, ◌∷◌, ◌≡◌, ◌≤◌, List, [], ap, arith, drop, map, refl, suc, sym, take, zero, ℕ}
use Rattle.std.proofs.lemmas.List.{drop-map, flat_map_more, map-id, map_push}
use Rattle.std.proofs.lemmas.List.FromFn.{map-range_with_len_more, take-map-range_with_len}
use Rattle.std.specs.List.{range_with_len}
use Rattle.std.specs.Prelude.{flat_map}

-- a range without its first numbers
pub drop-range : (first a n : ℕ) → first ≤ n → drop first (range_with_len a n) ≡ range_with_len (a + first) (n - first)
drop-range zero a n few = ap (λ b. range_with_len b n) (let e : a ≡ a + 0 = omega arith in e)
    ∙ ap (range_with_len (a + 0)) (let e : n ≡ n - 0 = omega arith in e)
drop-range (suc first) a zero few = absurd (omega arith)
drop-range (suc first) a (suc n) few =
    drop-range first (a + 1) n (omega arith)
    ∙ ap (λ b. range_with_len b (n - first)) (let e : a + 1 + first ≡ a + suc first = omega arith in e)
    ∙ ap (range_with_len (a + suc first)) (let e : n - first ≡ suc n - suc first = omega arith in e)

-- a part of a mapped range
pub middle : {X : Type 0} (f : ℕ → X) (first count n : ℕ) → first + count ≤ n
    → take count (drop first (map f (range_with_len 0 n))) ≡ map f (range_with_len first count)
middle f first count n few =
    ap (take count) (drop-map f first (range_with_len 0 n)
    ∙ ap (map f) (drop-range first 0 n (omega arith) ∙ ap (λ a. range_with_len a (n - first)) (let e : 0 + first ≡ first = omega arith in e)))
    ∙ take-map-range_with_len f first (n - first) count (omega arith)

-- two functions that agree on a range give one list there
pub map_range-same : {X : Type 0} (f g : ℕ → X) (a n : ℕ) → ((i : ℕ) → i < a + n → f i ≡ g i) → map f (range_with_len a n) ≡ map g (range_with_len a n)
map_range-same f g a zero same = refl
map_range-same f g a (suc n) same =
    let first : f a ≡ g a = same a (omega arith) in
    let rest = map_range-same f g (a + 1) n (λ i below. same i (omega arith)) in
    cc

-- a range, and one more number
pub range_next : (a k : ℕ) → range_with_len a (k + 1) ≡ range_with_len a k ++ (a + k) ∷ []
range_next a zero = ap (λ x. x ∷ []) (omega arith)
range_next a (suc k) =
    let same : suc k + 1 ≡ suc (k + 1) = omega arith in
    let last : (a + 1) + k ≡ a + suc k = omega arith in
    ap (range_with_len a) same ∙ ap (λ xs. a ∷ xs) (range_next (a + 1) k ∙ ap (λ x. range_with_len (a + 1) k ++ x ∷ []) last)

-- a text of parts for 0 to k - 1, followed by the part for k
pub flat_map_next : {A : Type 0} (f : ℕ → List A) (bytes : List A) (k : ℕ)
    → (bytes ++ flat_map f (range_with_len 0 k)) ++ f k ≡ bytes ++ flat_map f (range_with_len 0 (k + 1))
flat_map_next f bytes k =
    let here : 0 + k ≡ k = omega arith in
    flat_map_more f bytes (range_with_len 0 k) k ∙ ap (λ xs. bytes ++ flat_map f xs) (sym (range_next 0 k ∙ ap (λ x. range_with_len 0 k ++ x ∷ []) here))

-- a list of what was made for 0 to k - 1, followed by that for k
pub map_next : {A B : Type 0} (g : A → B) (f : ℕ → B) (xs : List A) (x : A) (k : ℕ)
    → map g xs ≡ map f (range_with_len 0 k) → g x ≡ f k → map g (xs ++ x ∷ []) ≡ map f (range_with_len 0 (k + 1))
map_next g f xs x k before here =
    map_push g xs x ∙ ap (λ ys. ys ++ g x ∷ []) before ∙ ap (λ y. map f (range_with_len 0 k) ++ y ∷ []) here
    ∙ sym (map-range_with_len_more f 0 k k (omega arith))

-- a range from 0, and one more number
pub range_more : (n : ℕ) → range_with_len 0 (n + 1) ≡ range_with_len 0 n ++ n ∷ []
range_more n = sym (map-id (range_with_len 0 (n + 1))) ∙ map-range_with_len_more (λ x. x) 0 n n (omega arith)
    ∙ ap (λ xs. xs ++ n ∷ []) (map-id (range_with_len 0 n))
