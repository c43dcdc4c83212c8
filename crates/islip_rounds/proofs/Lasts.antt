-- Values that come one after another: the last of them, and what each adds to the one before.
use Rattle.std.proofs.Common.{◌≡◌, ◌-◌, ℕ, suc, List, [], ◌∷◌, ◌++◌, length, map, refl, ap}
use Rattle.islip_rounds.specs.Numbers.{last_of, added_from}

pub last_of-append : {X : Type 0} (x y : X) (ys : List X) → last_of x (ys ++ y ∷ []) ≡ y
last_of-append x y [] = refl
last_of-append x y (z ∷ zs) = last_of-append z y zs

pub added_from-append : {X : Type 0} (f : X → ℕ) (x y : X) (xs : List X) → added_from (f x) (map f (xs ++ y ∷ [])) ≡ added_from (f x) (map f xs)
    ++ (f y - f (last_of x xs)) ∷ []
added_from-append f x y [] = refl
added_from-append f x y (z ∷ zs) = ap (λ rest. (f z - f x) ∷ rest) (added_from-append f z y zs)

pub length-added_from : (b : ℕ) (ks : List ℕ) → length (added_from b ks) ≡ length ks
length-added_from b [] = refl
length-added_from b (k ∷ ks) = ap suc (length-added_from k ks)
