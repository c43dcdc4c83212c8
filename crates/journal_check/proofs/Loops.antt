-- Readings of several things, one after another.
use Rattle.std.proofs.Common.{◌≡◌, ℕ, suc, ◌+◌, ◌-◌, ◌<◌, ◌∙◌, List, [], ◌∷◌, ◌++◌, Ok, Err, refl, sym, ap, arith, append_assoc}
use Rattle.std.specs.List.{range_with_len}
use Rattle.std.proofs.lemmas.List.{append-nil}
use Rattle.journal_check.specs.Fields.{Reading, read_on, each_in}

-- a reading of things, with these before them
abbrev pub with_front : {X : Type 0} → List X → Reading (List X) → Reading (List X)
with_front done (Ok read) = Ok (done ++ read.0, read.1)
with_front done (Err bad) = Err bad

-- a thing and then a reading of things
abbrev pub one_more : {X : Type 0} → X → Reading (List X) → Reading (List X)
one_more x r = read_on r (λ xs rest. Ok (x ∷ xs, rest))

-- the readings of the numbers from i below n
abbrev pub left_in : {X : Type 0} → (ℕ → List ℕ → Reading X) → ℕ → ℕ → List ℕ → Reading (List X)
left_in read i n here = each_in read (range_with_len i (n - i)) here

module _ {X : Type 0} where
  pub front_none : (r : Reading (List X)) → r ≡ with_front [] r
  front_none (Ok read) = refl
  front_none (Err bad) = refl

  front_more : (done : List X) (x : X) (r : Reading (List X)) → with_front done (one_more x r) ≡ with_front (done ++ x ∷ []) r
  front_more done x (Ok read) = ap (λ (xs : List X). let r : Reading (List X) = Ok (xs, read.1) in r) (sym (append_assoc done (x ∷ []) read.0))
  front_more done x (Err bad) = refl

  module _ (read : ℕ → List ℕ → Reading X) where
    range_more : (i n : ℕ) → i < n → range_with_len i (n - i) ≡ i ∷ range_with_len (i + 1) (n - (i + 1))
    range_more i n below = let e : n - i ≡ suc (n - (i + 1)) = omega arith in ap (range_with_len i) e

    left_more : (i n : ℕ) (here : List ℕ) → i < n → left_in read i n here ≡ read_on (read i here) (λ x more. one_more x (left_in read (i + 1) n more))
    left_more i n here below = ap (λ (ks : List ℕ). each_in read ks here) (range_more i n below)

    pub left_ok : (i n : ℕ) (here next : List ℕ) (x : X) → i < n → read i here ≡ Ok (x, next) → left_in read i n here ≡ one_more x (left_in read (i + 1) n next)
    left_ok i n here next x below e = left_more i n here below ∙ ap (λ (r : Reading X). read_on r (λ x more. one_more x (left_in read (i + 1) n more))) e

    left_err : (i n : ℕ) (here bad : List ℕ) → i < n → read i here ≡ Err bad → left_in read i n here ≡ Err bad
    left_err i n here bad below e = left_more i n here below ∙ ap (λ (r : Reading X). read_on r (λ x more. one_more x (left_in read (i + 1) n more))) e

    left_none : (n : ℕ) (here : List ℕ) → left_in read n n here ≡ Ok ([], here)
    left_none n here = let e : n - n ≡ 0 = omega arith in ap (λ (k : ℕ). each_in read (range_with_len n k) here) e

    pub begin : (n : ℕ) (here : List ℕ) → each_in read (range_with_len 0 n) here ≡ with_front [] (left_in read 0 n here)
    begin n here =
        let e : n ≡ n - 0 = omega arith in
        front_none (each_in read (range_with_len 0 n) here) ∙ ap (λ (k : ℕ). with_front [] (each_in read (range_with_len 0 k) here)) e

    pub step_ok : (done : List X) (i n : ℕ) (here next : List ℕ) (x : X) → i < n → read i here ≡ Ok (x, next)
        → with_front done (left_in read i n here) ≡ with_front (done ++ x ∷ []) (left_in read (i + 1) n next)
    step_ok done i n here next x below e = ap (with_front done) (left_ok i n here next x below e) ∙ front_more done x (left_in read (i + 1) n next)

    pub step_err : (done : List X) (i n : ℕ) (here bad : List ℕ) → i < n → read i here ≡ Err bad → with_front done (left_in read i n here) ≡ Err bad
    step_err done i n here bad below e = ap (with_front done) (left_err i n here bad below e)

    pub step_end : (done : List X) (n : ℕ) (here : List ℕ) → with_front done (left_in read n n here) ≡ Ok (done, here)
    step_end done n here = ap (with_front done) (left_none n here) ∙ ap (λ (xs : List X). let r : Reading (List X) = Ok (xs, here) in r) (append-nil done)
