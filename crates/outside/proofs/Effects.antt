-- What calls one after another make of the contents, as equations of whole contents.
use Rattle.std.proofs.Common.{◌≡◌, ◌≢◌, ◌+◌, ℕ, List, [], ◌++◌, take, drop, Bool, true, false, cond, Option, Some, None, refl, sym, ◌∙◌, ap, append_assoc}
use Rattle.std.specs.Prelude.{option_map, bytes_eq, IfSome, Result, Ok, Err}
use Rattle.std.proofs.Math.Seq.{take-add}
use Rattle.std.proofs.lemmas.Bool.{false_from_ne_true}
use Rattle.std.proofs.lemmas.List.{append-nil}
use Rattle.std.proofs.lemmas.Slice.Eq.{bytes_eq-Decides}
use Rattle.outside.specs.Contents.{Contents, after_write, begin_file, append_file, append_out, append_err}

-- a name is itself, and no other
pub bytes_eq-same : (name : List ℕ) → bytes_eq name name ≡ true
bytes_eq-same name = (bytes_eq-Decides name name).1 refl

pub bytes_eq-other : (n name : List ℕ) → n ≢ name → bytes_eq n name ≡ false
bytes_eq-other n name other = false_from_ne_true (bytes_eq n name) (λ same. other ((bytes_eq-Decides n name).0 same))

-- Nothing appended

pub append_err-nothing : (c : Contents) → append_err [] c ≡ c
append_err-nothing c = λ j. record { file = c.file; begun = c.begun; out = c.out; err = append-nil c.err j }

-- Twice appended

twice_at : (here : Bool) (o : Option (List ℕ)) (a b : List ℕ)
    → cond here (option_map (λ bytes. bytes ++ b) (cond here (option_map (λ bytes. bytes ++ a) o) o)) (cond here (option_map (λ bytes. bytes ++ a) o) o)
    ≡ cond here (option_map (λ bytes. bytes ++ (a ++ b)) o) o
twice_at true None a b = refl
twice_at true (Some bytes) a b = ap Some (append_assoc bytes a b)
twice_at false o a b = refl

pub append_file-append_file : (name a b : List ℕ) (c : Contents) → append_file name b (append_file name a c) ≡ append_file name (a ++ b) c
append_file-append_file name a b c = λ j. record { file = λ n. twice_at (bytes_eq n name) (c.file n) a b j; begun = c.begun; out = c.out; err = c.err }

pub append_out-append_out : (a b : List ℕ) (c : Contents) → append_out b (append_out a c) ≡ append_out (a ++ b) c
append_out-append_out a b c = λ j. record { file = c.file; begun = c.begun; out = append_assoc c.out a b j; err = c.err }

pub append_err-append_err : (a b : List ℕ) (c : Contents) → append_err b (append_err a c) ≡ append_err (a ++ b) c
append_err-append_err a b c = λ j. record { file = c.file; begun = c.begun; out = c.out; err = append_assoc c.err a b j }

-- Begun again

-- What a file holds

pub file-begin_file : (name : List ℕ) (c : Contents) → (begin_file name c).file name ≡ Some []
file-begin_file name c = rw (bytes_eq-same name) refl

pub file-begin_file-other : (name n : List ℕ) (c : Contents) → n ≢ name → (begin_file name c).file n ≡ c.file n
file-begin_file-other name n c other = rw (bytes_eq-other n name other) refl

pub file-append_file : (name more bytes : List ℕ) (c : Contents) → c.file name ≡ Some bytes → (append_file name more c).file name ≡ Some (bytes ++ more)
file-append_file name more bytes c there = rw (bytes_eq-same name) (ap (option_map (λ b. b ++ more)) there)

pub file-append_file-other : (name more n : List ℕ) (c : Contents) → n ≢ name → (append_file name more c).file n ≡ c.file n
file-append_file-other name more n c other = rw (bytes_eq-other n name other) refl

-- begun and then written, it holds what was written
pub file-append_file-begin_file : (name more : List ℕ) (c : Contents) → (append_file name more (begin_file name c)).file name ≡ Some more
file-append_file-begin_file name more c = file-append_file name more [] (begin_file name c) (file-begin_file name c)

-- Which names were begun

pub begun-begin_file : (name : List ℕ) (c : Contents) → (begin_file name c).begun name ≡ true
begun-begin_file name c = rw (bytes_eq-same name) refl

-- The same of contents that are seen or not

-- one effect after another
pub option_map-option_map : (f g : Contents → Contents) (o : Option Contents) → option_map g (option_map f o) ≡ option_map (λ c. g (f c)) o
option_map-option_map f g None = refl
option_map-option_map f g (Some c) = refl

pub is_begun : (name : List ℕ) (o : Option Contents) → IfSome (option_map (begin_file name) o) (λ c. c.begun name ≡ true)
is_begun name None = tt
is_begun name (Some c) = begun-begin_file name c

pub is_begun-append_file : (name more n : List ℕ) (o : Option Contents) → IfSome o (λ c. c.begun n ≡ true)
    → IfSome (option_map (append_file name more) o) (λ c. c.begun n ≡ true)
is_begun-append_file name more n None is = tt
is_begun-append_file name more n (Some c) is = is

-- Bytes that are written in pieces: none of them, and after the first n of them the next k

pub err_none : (o : Option Contents) → option_map (append_err []) o ≡ o
err_none None = refl
err_none (Some c) = ap Some (append_err-nothing c)

pub write_more : (name bytes : List ℕ) (n k : ℕ) (o : Option Contents)
    → option_map (append_file name (take k (drop n bytes))) (option_map (append_file name (take n bytes)) o) ≡ option_map
    (append_file name (take (n + k) bytes)) o
write_more name bytes n k None = refl
write_more name bytes n k (Some c) =
    ap Some (append_file-append_file name (take n bytes) (take k (drop n bytes)) c ∙ ap (λ xs. append_file name xs c) (sym (take-add n k bytes)))

pub out_more : (bytes : List ℕ) (n k : ℕ) (o : Option Contents)
    → option_map (append_out (take k (drop n bytes))) (option_map (append_out (take n bytes)) o) ≡ option_map (append_out (take (n + k) bytes)) o
out_more bytes n k None = refl
out_more bytes n k (Some c) = ap Some (append_out-append_out (take n bytes) (take k (drop n bytes)) c ∙ ap (λ xs. append_out xs c) (sym (take-add n k bytes)))

pub err_more : (bytes : List ℕ) (n k : ℕ) (o : Option Contents)
    → option_map (append_err (take k (drop n bytes))) (option_map (append_err (take n bytes)) o) ≡ option_map (append_err (take (n + k) bytes)) o
err_more bytes n k None = refl
err_more bytes n k (Some c) = ap Some (append_err-append_err (take n bytes) (take k (drop n bytes)) c ∙ ap (λ xs. append_err xs c) (sym (take-add n k bytes)))

-- a write that failed, or not, leaves a name begun
pub is_begun-after_write : {E : Type 0} (r : Result ℕ E) (name bytes n : List ℕ) (o : Option Contents) → IfSome o (λ c. c.begun n ≡ true)
    → IfSome (after_write r name bytes o) (λ c. c.begun n ≡ true)
is_begun-after_write (Ok k) name bytes n o is = is_begun-append_file name (take k bytes) n o is
is_begun-after_write (Err e) name bytes n o is = is
