-- Texts that grow at their end.
use Rattle.std.proofs.Common.{◌++◌, ◌+◌, ◌<◌, ◌∙◌, ◌≡◌, ◌≤◌, List, ap, append_assoc, cond, get_or, length, sym, take, ℕ}
use Rattle.std.proofs.lemmas.List.{flat_map_more, take_all, take_more}
use Rattle.std.specs.List.{flat_map}
use Rattle.std.specs.Prelude.{Err, Ok, OnOk, Result, is_ok}

-- what a call that appends says where it is answered Ok
pub appended : {T E : Type 0} (r : Result T E) (old piece new : List ℕ) → new ≡ cond (is_ok r) (old ++ piece) old → OnOk r (new ≡ old ++ piece)
appended (Ok x) old piece new is = is
appended (Err e) old piece new is = tt

-- two pieces in a row
pub both : (old mid new a b : List ℕ) → mid ≡ old ++ a → new ≡ mid ++ b → new ≡ old ++ (a ++ b)
both old mid new a b first second = second ∙ ap (λ s. s ++ b) first ∙ append_assoc old a b

-- one more of the listed pieces
pub one_more : {X : Type 0} (f : X → List ℕ) (xs : List X) (i : ℕ) (d : X) (old now new : List ℕ) → i < length xs → now ≡ old ++ flat_map f (take i xs)
    → new ≡ now ++ f (get_or xs i d) → new ≡ old ++ flat_map f (take (i + 1) xs)
one_more f xs i d old now new within at more =
    more ∙ ap (λ s. s ++ f (get_or xs i d)) at ∙ flat_map_more f old (take i xs) (get_or xs i d)
    ∙ ap (λ ys. old ++ flat_map f ys) (sym (take_more xs i d within))

-- all of the listed pieces
pub all_of : {X : Type 0} (f : X → List ℕ) (xs : List X) (n : ℕ) (old new : List ℕ) → length xs ≤ n → new ≡ old ++ flat_map f (take n xs)
    → new ≡ old ++ flat_map f xs
all_of f xs n old new whole at = at ∙ ap (λ ys. old ++ flat_map f ys) (take_all n xs whole)
