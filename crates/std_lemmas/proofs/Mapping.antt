-- Lists of which each element is made of one of another list, as far as a loop has come.
use Rattle.std.proofs.Common.{◌≡◌, ◌∙◌, ℕ, zero, suc, ◌+◌, ◌<◌, List, [], ◌∷◌, ◌++◌, length, take, slice_index_or, refl, ap, sym, arith}
use Rattle.std.specs.Prelude.{map}
use Rattle.std.specs.List.{zip}
use Rattle.std.proofs.lemmas.List.{map_push, take_more}

-- Two lists side by side have at a place the elements of both,
pub at_zip : {A B : Type 0} (xs : List A) (ys : List B) (k : ℕ) (d : A) (e : B) → k < length xs → k < length ys
    → slice_index_or (zip xs ys) k (d, e) ≡ (slice_index_or xs k d, slice_index_or ys k e)
at_zip [] ys k d e inside within = absurd (omega arith)
at_zip (x ∷ xs) [] k d e inside within = absurd (omega arith)
at_zip (x ∷ xs) (y ∷ ys) zero d e inside within = refl
at_zip (x ∷ xs) (y ∷ ys) (suc k) d e inside within = at_zip xs ys k d e (omega arith) (omega arith)

-- and of two of one length are as long.
pub length_zip : {A B : Type 0} (xs : List A) (ys : List B) → length xs ≡ length ys → length (zip xs ys) ≡ length xs
length_zip [] ys same = refl
length_zip (x ∷ xs) [] same = absurd (omega arith)
length_zip (x ∷ xs) (y ∷ ys) same = omega (arith, length_zip xs ys (omega arith))

-- A list that was made so far, with one more, is made so much further.
pub made_next : {A B : Type 0} (f : A → B) (made pushed : List A) (wanted : List B) (x : A) (k : ℕ) (d : B) → pushed ≡ made ++ x ∷ []
    → f x ≡ slice_index_or wanted k d → k < length wanted
    → map f made ≡ take k wanted → map f pushed ≡ take (k + 1) wanted
made_next f made pushed wanted x k d push here inside so_far =
    ap (map f) push ∙ map_push f made x ∙ ap (λ ys. ys ++ f x ∷ []) so_far ∙ ap (λ y. take k wanted ++ y ∷ []) here ∙ sym (take_more wanted k d inside)
