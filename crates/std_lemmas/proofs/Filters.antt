-- Places in a filtered list, and slots among the first that pass a test.
use Rattle.std.proofs.Common.{◌≡◌, ◌∙◌, ℕ, zero, suc, ◌+◌, ◌<◌, ◌≤◌, Bool, true, false, List, [], ◌∷◌, map, filter, take, sum_by, count_by, All, Option}
use Rattle.std.proofs.Common.{Some, slice_get, refl, sym, ap, arith, if◌then◌else◌, inl, inr}
use Rattle.std.specs.List.{range_with_len}
use Rattle.std.proofs.lemmas.Bool.{cases_lt}
use Rattle.std.proofs.lemmas.List.Elements.{All-head, All-tail}
use Rattle.std.proofs.lemmas.List.Sums.{sum_by-cons}
use Rattle.std.proofs.lemmas.Option.{same_Some}

-- ---- sums over the first elements
pub sum_most : {X : Type 0} (w : X → ℕ) (xs : List X) (k m : ℕ) → k ≤ m → sum_by w (take k xs) ≤ sum_by w (take m xs)
sum_most w xs zero m le = omega arith
sum_most w xs (suc k) zero le = absurd (omega arith)
sum_most w [] (suc k) (suc m) le = omega arith
sum_most w (x ∷ xs) (suc k) (suc m) le = omega (arith, sum_by-cons w x (take k xs), sum_by-cons w x (take m xs), sum_most w xs k m (omega arith))

-- ---- a place in a list, and the place among those that pass
-- the element of number n among those that pass stands at this place
pub record PlaceOf {X : Type 0} (f : X → Bool) (xs : List X) (n : ℕ) (x : X) : Type 0 where
  pub place : ℕ
  pub at : slice_get xs place ≡ Some x
  pub passes : f x ≡ true
  pub count : count_by f (take place xs) ≡ n

module _ {X : Type 0} (f : X → Bool) where
  pub count-cons : (x : X) (xs : List X) → count_by f (x ∷ xs) ≡ (if f x then 1 else 0) + count_by f xs
  count-cons x xs = sum_by-cons (λ y. if f y then 1 else 0) x xs

  shifted : (b : Bool) (y : X) (ys : List X) (n : ℕ) (o : Option X) → slice_get ys n ≡ o → slice_get (if b then y ∷ ys else ys) ((if b then 1 else 0) + n) ≡ o
  shifted true y ys n o is = ap (slice_get (y ∷ ys)) (let e : 1 + n ≡ suc n = omega arith in e) ∙ is
  shifted false y ys n o is = ap (slice_get ys) (let e : 0 + n ≡ n = omega arith in e) ∙ is

  pub place_in : (xs : List X) (k : ℕ) (x : X) → slice_get xs k ≡ Some x → f x ≡ true → slice_get (filter f xs) (count_by f (take k xs)) ≡ Some x
  place_in [] k x at passes = absurd (cc)
  place_in (y ∷ xs) zero x at passes =
      let same : y ≡ x = same_Some y x at in
      ap (λ (b : Bool). slice_get (if b then y ∷ filter f xs else filter f xs) 0) (ap f same ∙ passes) ∙ ap Some same
  place_in (y ∷ xs) (suc k) x at passes =
      ap (slice_get (filter f (y ∷ xs))) (count-cons y (take k xs))
      ∙ shifted (f y) y (filter f xs) (count_by f (take k xs)) (Some x) (place_in xs k x at passes)

  of_first : (y : X) (xs : List X) (x : X) → ((n : ℕ) → slice_get (filter f xs) n ≡ Some x → PlaceOf f xs n x)
      → (b : Bool) (n : ℕ) → f y ≡ b → slice_get (if b then y ∷ filter f xs else filter f xs) n ≡ Some x → PlaceOf f (y ∷ xs) n x
  of_first y xs x more true zero is at = record { place = 0; at = at; passes = ap f (sym (same_Some y x at)) ∙ is; count = refl }
  of_first y xs x more true (suc n) is at =
      let o = more n at in
      let one : ◌≡◌ {A = ℕ} (if f y then 1 else 0) 1 = ap (λ (b : Bool). if b then 1 else 0) is in
      record { place = suc o.place; at = o.at; passes = o.passes; count = omega (arith, count-cons y (take o.place xs), one, o.count) }
  of_first y xs x more false n is at =
      let o = more n at in
      let none : ◌≡◌ {A = ℕ} (if f y then 1 else 0) 0 = ap (λ (b : Bool). if b then 1 else 0) is in
      record { place = suc o.place; at = o.at; passes = o.passes; count = omega (arith, count-cons y (take o.place xs), none, o.count) }

  pub place_of : (xs : List X) (n : ℕ) (x : X) → slice_get (filter f xs) n ≡ Some x → PlaceOf f xs n x
  place_of [] n x at = absurd (cc)
  place_of (y ∷ xs) n x at = of_first y xs x (λ n at. place_of xs n x at) (f y) n refl at

  -- ---- counts up to a place
  pub count_most : (xs : List X) (k m : ℕ) → k ≤ m → count_by f (take k xs) ≤ count_by f (take m xs)
  count_most = sum_most (λ x. if f x then 1 else 0)

  first_counts : (y x : X) (ys : List X) → Some y ≡ Some x → f x ≡ true → 0 < count_by f (y ∷ ys)
  first_counts y x ys at passes =
      let one : ◌≡◌ {A = ℕ} (if f y then 1 else 0) 1 = ap (λ (b : Bool). if b then 1 else 0) (ap f (same_Some y x at) ∙ passes) in
      omega (arith, count-cons y ys, one)

  pub count_less : (xs : List X) (k m : ℕ) (x : X) → slice_get xs k ≡ Some x → f x ≡ true → k < m → count_by f (take k xs) < count_by f (take m xs)
  count_less [] k m x at passes less = absurd (cc)
  count_less (y ∷ xs) k zero x at passes less = absurd (omega arith)
  count_less (y ∷ xs) zero (suc m) x at passes less = first_counts y x (take m xs) at passes
  count_less (y ∷ xs) (suc k) (suc m) x at passes less =
      omega (arith, count-cons y (take k xs), count-cons y (take m xs), count_less xs k m x at passes (omega arith))

  pub count_within : (xs : List X) (k : ℕ) (x : X) → slice_get xs k ≡ Some x → f x ≡ true → count_by f (take k xs) < count_by f xs
  count_within [] k x at passes = absurd (cc)
  count_within (y ∷ xs) zero x at passes = first_counts y x xs at passes
  count_within (y ∷ xs) (suc k) x at passes = omega (arith, count-cons y (take k xs), count-cons y xs, count_within xs k x at passes)

-- ---- two filters
module _ {X : Type 0} (f h : X → Bool) where
  twice_step : (x : X) (xs : List X) (a b : Bool) → f x ≡ a → h x ≡ b → (a ≡ true → b ≡ true) → filter f (filter h xs) ≡ filter f xs
      → filter f (if b then x ∷ filter h xs else filter h xs) ≡ (if a then x ∷ filter f xs else filter f xs)
  twice_step x xs true true passes too tells rest =
      ap (λ (v : Bool). if v then x ∷ filter f (filter h xs) else filter f (filter h xs)) passes ∙ ap (λ ys. x ∷ ys) rest
  twice_step x xs false true passes too tells rest =
      ap (λ (v : Bool). if v then x ∷ filter f (filter h xs) else filter f (filter h xs)) passes ∙ rest
  twice_step x xs true false passes too tells rest = let e = tells refl in absurd (cc)
  twice_step x xs false false passes too tells rest = rest

  pub filter_twice : ((x : X) → f x ≡ true → h x ≡ true) → (xs : List X) → filter f (filter h xs) ≡ filter f xs
  filter_twice tells [] = refl
  filter_twice tells (x ∷ xs) = twice_step x xs (f x) (h x) refl refl (tells x) (filter_twice tells xs)

  same_step : (x : X) (a b : Bool) (ys zs : List X) → a ≡ b → ys ≡ zs → (if a then x ∷ ys else ys) ≡ (if b then x ∷ zs else zs)
  same_step x a b ys zs test rest = ap (λ (v : Bool). if v then x ∷ ys else ys) test ∙ ap (λ ws. if b then x ∷ ws else ws) rest

  pub filter_same : (xs : List X) → All (λ x. f x ≡ h x) xs → filter f xs ≡ filter h xs
  filter_same [] same = refl
  filter_same (x ∷ xs) same =
      same_step x (f x) (h x) (filter f xs) (filter h xs) (All-head (λ x. f x ≡ h x) x xs same) (filter_same xs (All-tail (λ x. f x ≡ h x) x xs same))

-- ---- maps
module _ {X Y : Type 0} (g : X → Y) where
  pub map_place : (xs : List X) (n : ℕ) (y : Y) → slice_get (map g xs) n ≡ Some y → (x : X) × (slice_get xs n ≡ Some x) × (g x ≡ y)
  map_place [] n y at = absurd (cc)
  map_place (x ∷ xs) zero y at = (x, refl, same_Some (g x) y at)
  map_place (x ∷ xs) (suc n) y at = map_place xs n y at

  pub place_map : (xs : List X) (n : ℕ) (x : X) → slice_get xs n ≡ Some x → slice_get (map g xs) n ≡ Some (g x)
  place_map [] n x at = absurd (cc)
  place_map (y ∷ xs) zero x at = ap (λ z. Some (g z)) (same_Some y x at)
  place_map (y ∷ xs) (suc n) x at = place_map xs n x at

  module _ (f : X → Bool) (h : Y → Bool) where
    map_step : (x : X) (xs : List X) (a b : Bool) (ys : List Y) → a ≡ b → map g xs ≡ ys → map g (if a then x ∷ xs else xs) ≡ (if b then g x ∷ ys else ys)
    map_step x xs true b ys test rest = ap (λ zs. g x ∷ zs) rest ∙ ap (λ (v : Bool). if v then g x ∷ ys else ys) test
    map_step x xs false b ys test rest = rest ∙ ap (λ (v : Bool). if v then g x ∷ ys else ys) test

    pub map_filter : (xs : List X) → All (λ x. f x ≡ h (g x)) xs → map g (filter f xs) ≡ filter h (map g xs)
    map_filter [] same = refl
    map_filter (x ∷ xs) same =
        map_step x (filter f xs) (f x) (h (g x)) (filter h (map g xs)) (All-head (λ x. f x ≡ h (g x)) x xs same)
        (map_filter xs (All-tail (λ x. f x ≡ h (g x)) x xs same))

-- ---- slots among the first
pub range_place : (a n k t : ℕ) → slice_get (range_with_len a n) k ≡ Some t → (t ≡ a + k) × (k < n)
range_place a zero k t at = absurd (cc)
range_place a (suc n) zero t at = let same : a ≡ t = same_Some a t at in (omega (arith, same), omega arith)
range_place a (suc n) (suc k) t at = let rest = range_place (a + 1) n k t at in (omega (arith, rest.0), omega (arith, rest.1))

pub range_get : (a n k t : ℕ) → k < n → a + k ≡ t → slice_get (range_with_len a n) k ≡ Some t
range_get a zero k t below is = absurd (omega arith)
range_get a (suc n) zero t below is = ap Some (let e : a ≡ t = omega (arith, is) in e)
range_get a (suc n) (suc k) t below is = range_get (a + 1) n k t (omega (arith, below)) (omega (arith, is))

pub take_range : (a n k : ℕ) → k ≤ n → take k (range_with_len a n) ≡ range_with_len a k
take_range a n zero le = refl
take_range a zero (suc k) le = absurd (omega arith)
take_range a (suc n) (suc k) le = ap (λ ts. a ∷ ts) (take_range (a + 1) n k (omega (arith, le)))

module _ (f : ℕ → Bool) (n : ℕ) where
  -- the place of a slot among the first is the slot
  pub slot_of : (r t : ℕ) → slice_get (filter f (range_with_len 0 n)) r ≡ Some t → (t < n) × (f t ≡ true) × (count_by f (take t (range_with_len 0 n)) ≡ r)
  slot_of r t at =
      let o = place_of f (range_with_len 0 n) r t at in
      let (is, below) = range_place 0 n o.place t o.at in
      let same : t ≡ o.place = omega (arith, is) in
      (omega (arith, same, below), o.passes, ap (λ k. count_by f (take k (range_with_len 0 n))) same ∙ o.count)

  pub slots_rise : (q r t u : ℕ) → slice_get (filter f (range_with_len 0 n)) q ≡ Some t → slice_get (filter f (range_with_len 0 n)) r ≡ Some u → q < r → t < u
  slots_rise q r t u first second less =
      let a = slot_of q t first in
      let b = slot_of r u second in
      elim (cases_lt t u) [
        | inl before ↦ before
        | inr after ↦ absurd (omega (arith, a.2, b.2, count_most f (range_with_len 0 n) u t after))
      ]
