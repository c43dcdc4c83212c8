-- What is spelled is read again.
use Rattle.std.proofs.Common.{◌≡◌, ℕ, suc, ◌+◌, ◌%◌, ◌^◌, ◌<◌, ◌∙◌, true, nat_le, List, [], ◌∷◌, ◌++◌, length, drop, get_or, Ok, refl, ap, arith}
use Rattle.std.proofs.Common.{append_assoc, le-leb}
use Rattle.std.specs.List.{flat_map, range_with_len}
use Rattle.std.proofs.lemmas.Bool.{and_from}
use Rattle.std.proofs.lemmas.List.{drop_at, length-append}
use Rattle.byteorder.specs.Endian.{big_number, big_bytes}
use Rattle.byteorder.specs.Numbers.{big_number-reads_back, length-bytes_high_first}
use Rattle.journal_check.specs.declared.fields.Field.{Field}
use Rattle.journal_check.specs.Fields.{len_of, allows, Reading, number_in, read_on, each_in}
use Rattle.journal_check.proofs.NumberReads.{is_good, good}

-- a byte is spelled by itself
pub one_byte : (x : ℕ) → x < 256 → big_bytes 1 x ≡ x ∷ []
one_byte x fits = let same : x % 256 ≡ x = omega arith in ap (λ (y : ℕ). y ∷ []) same

-- a field that has one of its numbers is read, whatever follows
pub number_again : (field : Field) (x : ℕ) (rest : List ℕ) → x < 256 ^ len_of field → allows field x ≡ true
    → number_in field (big_bytes (len_of field) x ++ rest) ≡ Ok (x, rest)
number_again field x rest fits allowed =
    let n = len_of field in
    let bytes = big_bytes n x ++ rest in
    let len : length (big_bytes n x) ≡ n = length-bytes_high_first n x in
    let number : big_number n bytes ≡ x = big_number-reads_back n x rest fits in
    let whole : nat_le n (length bytes) ≡ true = le-leb n (length bytes) (omega (arith, length-append (big_bytes n x) rest)) in
    let test : is_good field bytes ≡ true = and_from (nat_le n (length bytes)) (allows field (big_number n bytes)) whole (ap (allows field) number ∙ allowed) in
    good field bytes test
    ∙ ap (λ (y : ℕ). let r : Reading ℕ = Ok (y, drop n bytes) in r) number
    ∙ ap (λ (ys : List ℕ). let r : Reading ℕ = Ok (x, ys) in r) (drop_at (big_bytes n x) rest n len)

-- one after another, things that are spelled are read again
pub each_again : {X : Type 0} (read : List ℕ → Reading X) (text : X → List ℕ) (P : X → Type 0)
    → ((x : X) (rest : List ℕ) → P x → read (text x ++ rest) ≡ Ok (x, rest)) → (xs : List X) (a : ℕ) (rest : List ℕ)
    → ((k : ℕ) (d : X) → k < length xs → P (get_or xs k d)) → each_in (λ i. read) (range_with_len a (length xs)) (flat_map text xs ++ rest) ≡ Ok (xs, rest)
each_again read text P again [] a rest each = refl
each_again {X = X} read text P again (x ∷ xs) a rest each =
    let tail = flat_map text xs ++ rest in
    let here : P x = each 0 x (omega arith) in
    let later : (k : ℕ) (d : X) → k < length xs → P (get_or xs k d) = λ k d below. each (suc k) d (omega arith) in
    let parts : (text x ++ flat_map text xs) ++ rest ≡ text x ++ tail = append_assoc (text x) (flat_map text xs) rest in
    let next = λ (y : X) (more : List ℕ). read_on (each_in (λ i. read) (range_with_len (a + 1) (length xs)) more) (λ ys left. Ok (y ∷ ys, left)) in
    ap (λ (bytes : List ℕ). read_on (read bytes) next) parts
    ∙ ap (λ (r : Reading X). read_on r next) (again x tail here)
    ∙ ap (λ (r : Reading (List X)). read_on r (λ ys left. let q : Reading (List X) = Ok (x ∷ ys, left) in q))
    (each_again read text P again xs (a + 1) rest later)
