-- The texts of rows.
use Rattle.std.proofs.Common.{◌≡◌, ◌∙◌, ◌+◌, ℕ, List, [], ◌∷◌, ◌++◌, length, sym, ap, arith, append_assoc, length-append}
use Rattle.std.specs.Prelude.{codes, Option, Some, None, Result, Ok, SomeIff}
use Rattle.std.specs.List.{flat_map, join_with_byte}
use Rattle.std.specs.Result.{result_ok}
use Rattle.std.proofs.lemmas.List.{append-nil}
use Rattle.std.proofs.lemmas.List.Concat.{flat_map-append}
use Rattle.std.proofs.lemmas.Option.{none-some, same_Some}
use Rattle.rotating_pick.specs.declared.memory.OutOfMemory.{OutOfMemory}
use Rattle.packet_times.specs.Rows.{row_text}
use Rattle.packet_times.specs.PuttingSteps.{with_commas}

join-commas : (word : List ℕ) (fields : List (List ℕ)) → join_with_byte 44 (word ∷ fields) ≡ word ++ with_commas fields
join-commas word [] = sym (append-nil word)
join-commas word (field ∷ fields) = ap (λ s. word ++ (44 ∷ s)) (join-commas field fields)

-- a row of its pieces
row-pieces : (word : List ℕ) (fields : List (List ℕ)) → word ++ (with_commas fields ++ codes "\n") ≡ row_text (word ∷ fields)
unfolding row_text
row-pieces word fields =
    sym (append_assoc word (with_commas fields) (codes "\n")) ∙ ap (λ s. s ++ codes "\n") (sym (join-commas word fields))

-- of the number of its input, and two parts of its fields
pub row-parts : (word : List ℕ) (first rest : List (List ℕ))
    → word ++ (with_commas first ++ (with_commas rest ++ codes "\n")) ≡ row_text (word ∷ (first ++ rest))
row-parts word first rest =
    ap (λ s. word ++ s)
    (sym (append_assoc (with_commas first) (with_commas rest) (codes "\n"))
    ∙ ap (λ s. s ++ codes "\n") (sym (flat_map-append (λ (field : List ℕ). 44 ∷ field) first rest)))
    ∙ row-pieces word (first ++ rest)

-- a sum that is answered
pub sum-is : (sum : Option ℕ) (Fits : Type 0) (value len : ℕ) (r : Result ℕ OutOfMemory) → SomeIff sum Fits value → sum ≡ result_ok r → r ≡ Ok len → len ≡ value
sum-is None Fits value len r is same ok = absurd (none-some len (same ∙ ap result_ok ok))
sum-is (Some x) Fits value len r is same ok = sym (same_Some x len (same ∙ ap result_ok ok)) ∙ is.1

-- a row more is there, of those that are left
pub row-more : (all old new : List ℕ) (row : List (List ℕ)) (rows rest : List (List (List ℕ)))
    → all ≡ old ++ flat_map row_text rows → rows ≡ row ∷ rest → new ≡ old ++ row_text row → all ≡ new ++ flat_map row_text rest
row-more all old new row rows rest was next more =
    was
    ∙ ap (λ rows. old ++ flat_map row_text rows) next
    ∙ sym (append_assoc old (row_text row) (flat_map row_text rest))
    ∙ ap (λ s. s ++ flat_map row_text rest) (sym more)

-- a row more is counted
pub row-counted : (all len more : ℕ) (row : List (List ℕ)) (rows rest : List (List (List ℕ)))
    → all ≡ len + length (flat_map row_text rows) → rows ≡ row ∷ rest → more ≡ length (row_text row) → all ≡ len + more + length (flat_map row_text rest)
row-counted all len more row rows rest was next long =
    let both = ap (λ rows. length (flat_map row_text rows)) next ∙ length-append (row_text row) (flat_map row_text rest) in
    omega (arith, was, both, long)
