-- What is read of a field is spelled by its bytes, and so are readings one after another.
use Rattle.std.proofs.Common.{◌≡◌, ℕ, zero, suc, ◌+◌, ◌-◌, ◌*◌, ◌/◌, ◌%◌, ◌^◌, ◌<◌, ◌≤◌, ◌∙◌, All, List, [], ◌∷◌, ◌++◌, length, take, drop, get_or}
use Rattle.std.proofs.Common.{slice_index, Ok, Err, refl, sym, ap, subst, inl, inr, arith, append_assoc, leb-true, nat_le, true}
use Rattle.std.specs.List.{flat_map, range_with_len}
use Rattle.std.specs.Int.{byte_at, bytes_high_first}
use Rattle.std.proofs.Math.Nat.{mod-eq_of_lt, mul-add-mod_self_right}
use Rattle.std.proofs.lemmas.Bool.{cases_Bool, cases_lt, and_parts}
use Rattle.std.proofs.lemmas.List.{append-nil, length-append, length-take-le, take-append-drop, get_or_past, get_or-take, get_or-append_right}
use Rattle.std.proofs.lemmas.List.Elements.{All-cons}
use Rattle.std.proofs.lemmas.Nat.{div-mul-add}
use Rattle.std_lemmas.proofs.Numbers.{byte_at-lt}
use Rattle.byteorder.specs.Endian.{big_from, big_number, big_bytes}
use Rattle.byteorder.specs.Numbers.{big_from-cons, big_from-lt, big_from-take, big_number-reads_back, length-bytes_high_first}
use Rattle.journal_check.specs.declared.fields.Field.{Field}
use Rattle.journal_check.specs.Fields.{len_of, allows, Reading, number_in, read_on, each_in}
use Rattle.journal_check.proofs.NumberReads.{is_good, good, not_good}

-- bytes, each below 256
abbrev pub AreBytes : List ℕ → Type 0
AreBytes bytes = All (λ b. b < 256) bytes

bytes_rest : (text rest bytes : List ℕ) → bytes ≡ text ++ rest → AreBytes bytes → AreBytes rest
bytes_rest text rest bytes e are k d below =
    let whole : AreBytes (text ++ rest) = subst AreBytes e are in
    let place : length text + k - length text ≡ k = omega arith in
    let same : get_or (text ++ rest) (length text + k) d ≡ get_or rest (length text + k - length text) d =
    get_or-append_right text rest (length text) (length text + k) d refl (omega arith) in
    subst (λ (b : ℕ). b < 256) (same ∙ ap (λ (j : ℕ). get_or rest j d) place) (whole (length text + k) d (omega (arith, length-append text rest)))

-- What is read stands at the head of the bytes, with a text of which P holds.
abbrev pub Spells : {X : Type 0} → (X → List ℕ → Type 0) → List ℕ → Reading X → Type 0
Spells P bytes (Ok read) = (text : List ℕ) × (bytes ≡ text ++ read.1) × P read.0 text
Spells P bytes (Err bad) = Unit {0}

pub follow : {X Y : Type 0} (P : X → List ℕ → Type 0) (R : Reading Y → Type 0) (bytes : List ℕ) (r : Reading X) (next : X → List ℕ → Reading Y)
    → AreBytes bytes → Spells P bytes r → ((bad : List ℕ) → R (Err bad))
    → ((x : X) (text rest : List ℕ) → bytes ≡ text ++ rest → AreBytes rest → P x text → R (next x rest)) → R (read_on r next)
follow P R bytes (Ok read) next are spells none go = go read.0 spells.0 read.1 spells.1 (bytes_rest spells.0 read.1 bytes spells.1 are) spells.2
follow P R bytes (Err bad) next are spells none go = none bad

-- a text before what a reading spells
after_text : {Y : Type 0} (Q : Y → List ℕ → Type 0) (bytes text rest : List ℕ) → bytes ≡ text ++ rest → (r : Reading Y)
    → Spells (λ y more. Q y (text ++ more)) rest r → Spells Q bytes r
after_text Q bytes text rest e (Ok read) h = (text ++ h.0, e ∙ ap (λ (more : List ℕ). text ++ more) h.1 ∙ sym (append_assoc text h.0 read.1), h.2)
after_text Q bytes text rest e (Err bad) h = tt

-- what is read next stands behind it
pub spells_on : {X Y : Type 0} (P : X → List ℕ → Type 0) (Q : Y → List ℕ → Type 0) (bytes : List ℕ) (r : Reading X) (next : X → List ℕ → Reading Y)
    → AreBytes bytes → Spells P bytes r
    → ((x : X) (text rest : List ℕ) → AreBytes rest → P x text → Spells (λ y more. Q y (text ++ more)) rest (next x rest)) → Spells Q bytes (read_on r next)
spells_on P Q bytes r next are spells go =
    follow P (Spells Q bytes) bytes r next are spells (λ bad. tt)
    (λ x text rest e rest_are p. after_text Q bytes text rest e (next x rest) (go x text rest rest_are p))

-- nothing more is read
pub ends_here : {X : Type 0} (P : X → List ℕ → Type 0) (x : X) (rest : List ℕ) → P x [] → Spells P rest (Ok (x, rest))
ends_here P x rest p = ([], refl, p)

pub spells_more : {X : Type 0} (P Q : X → List ℕ → Type 0) (bytes : List ℕ) (r : Reading X) → ((x : X) (text : List ℕ) → P x text → Q x text)
    → Spells P bytes r → Spells Q bytes r
spells_more P Q bytes (Ok read) more h = (h.0, h.1, more read.0 h.0 h.2)
spells_more P Q bytes (Err bad) more h = tt

-- so many of these, and their texts
abbrev pub AreSpelled : {X : Type 0} → (X → List ℕ) → ℕ → List X → List ℕ → Type 0
AreSpelled text_of count xs text = (length xs ≡ count) × (text ≡ flat_map text_of xs)

pub each_spelled : {X : Type 0} (text_of : X → List ℕ) (read : List ℕ → Reading X)
    → ((bytes : List ℕ) → AreBytes bytes → Spells (λ x text. text ≡ text_of x) bytes (read bytes)) → (count a : ℕ) (bytes : List ℕ) → AreBytes bytes
    → Spells (AreSpelled text_of count) bytes (each_in (λ k. read) (range_with_len a count) bytes)
each_spelled text_of read each zero a bytes are = ([], refl, (refl, refl))
each_spelled text_of read each (suc count) a bytes are =
    spells_on (λ x text. text ≡ text_of x) (AreSpelled text_of (suc count)) bytes (read bytes) _ are (each bytes are) (λ x first more more_are is.
    spells_on (AreSpelled text_of count) (λ xs text. AreSpelled text_of (suc count) xs (first ++ text)) more
    (each_in (λ k. read) (range_with_len (a + 1) count) more) _ more_are (each_spelled text_of read each count (a + 1) more more_are)
    (λ xs others rest rest_are they.
    ends_here (λ ys text. AreSpelled text_of (suc count) ys (first ++ (others ++ text))) (x ∷ xs) rest
    (ap suc they.0, ap (λ (t : List ℕ). first ++ t) (append-nil others ∙ they.1) ∙ ap (λ (t : List ℕ). t ++ flat_map text_of xs) is)))

index_fits : (bytes : List ℕ) → AreBytes bytes → (k : ℕ) → slice_index bytes k < 256
index_fits bytes are k = elim (cases_lt k (length bytes)) [
  | inl below ↦ are k 0 below
  | inr past ↦ let none : slice_index bytes k ≡ 0 = get_or_past bytes k 0 past in omega arith
]

-- bytes of one number are the same bytes
same_bytes : (n : ℕ) (xs ys : List ℕ) → length xs ≡ n → length ys ≡ n → AreBytes xs → AreBytes ys → big_from 0 n xs ≡ big_from 0 n ys → xs ≡ ys
same_bytes zero [] [] p q are also e = refl
same_bytes zero [] (y ∷ ys) p q are also e = absurd (omega arith)
same_bytes zero (x ∷ xs) ys p q are also e = absurd (omega arith)
same_bytes (suc n) [] ys p q are also e = absurd (omega arith)
same_bytes (suc n) (x ∷ xs) [] p q are also e = absurd (omega arith)
same_bytes (suc n) (x ∷ xs) (y ∷ ys) p q are also e =
    let xs_are : AreBytes xs = λ k d below. are (suc k) d (omega arith) in
    let ys_are : AreBytes ys = λ k d below. also (suc k) d (omega arith) in
    let high = 256 ^ n in
    let r = big_from 0 n xs in
    let s = big_from 0 n ys in
    let r_low : r < high = big_from-lt 0 n xs (index_fits xs xs_are) in
    let s_low : s < high = big_from-lt 0 n ys (index_fits ys ys_are) in
    let sums : x * high + r ≡ y * high + s = ap (λ (v : ℕ). x * high + v) (sym (big_from-cons 0 n x xs)) ∙ e
    ∙ ap (λ (v : ℕ). y * high + v) (big_from-cons 0 n y ys) in
    let heads : x ≡ y = sym (div-mul-add x high r r_low) ∙ ap (λ (v : ℕ). v / high) sums ∙ div-mul-add y high s s_low in
    let rests : r ≡ s = sym (mul-add-mod_self_right x high r ∙ mod-eq_of_lt r_low) ∙ ap (λ (v : ℕ). v % high) sums
    ∙ (mul-add-mod_self_right y high s ∙ mod-eq_of_lt s_low) in
    ap (λ (b : ℕ). b ∷ xs) heads ∙ ap (λ (t : List ℕ). y ∷ t) (same_bytes n xs ys (omega arith) (omega arith) xs_are ys_are rests)

high_first_fit : (n x : ℕ) → AreBytes (bytes_high_first n x)
high_first_fit zero x = λ k d below. absurd (omega arith)
high_first_fit (suc n) x = All-cons (λ (b : ℕ). b < 256) (byte_at n x) (bytes_high_first n x) (byte_at-lt n x) (high_first_fit n x)

-- the number in the first n bytes is spelled by them
front_spelled : (n : ℕ) (bytes : List ℕ) → n ≤ length bytes → AreBytes bytes → take n bytes ≡ big_bytes n (big_number n bytes)
front_spelled n bytes long are =
    let x = big_number n bytes in
    let fits : x < 256 ^ n = big_from-lt 0 n bytes (index_fits bytes are) in
    let long_front : length (take n bytes) ≡ n = length-take-le n bytes long in
    let front_are : AreBytes (take n bytes) = λ k d below. subst (λ (b : ℕ). b < 256) (sym (get_or-take n bytes k d (omega arith))) (are k d (omega arith)) in
    let again : big_from 0 n (big_bytes n x) ≡ x = ap (big_from 0 n) (sym (append-nil (big_bytes n x))) ∙ big_number-reads_back n x [] fits in
    same_bytes n (take n bytes) (big_bytes n x) long_front (length-bytes_high_first n x) front_are (high_first_fit n x)
    (big_from-take 0 n n bytes (omega arith) ∙ sym again)

-- a number that a field may have, and its bytes
abbrev pub IsSpelled : Field → ℕ → List ℕ → Type 0
IsSpelled field x text = (text ≡ big_bytes (len_of field) x) × (allows field x ≡ true)

pub number_spelled : (field : Field) (bytes : List ℕ) → AreBytes bytes → Spells (IsSpelled field) bytes (number_in field bytes)
number_spelled field bytes are =
    let n = len_of field in
    let x = big_number n bytes in
    elim (cases_Bool (is_good field bytes)) [
      | inl e ↦
          let parts = and_parts (nat_le n (length bytes)) (allows field x) e in
          let long : n ≤ length bytes = leb-true n (length bytes) parts.0 in
          let whole : bytes ≡ big_bytes n x ++ drop n bytes = sym (take-append-drop n bytes)
          ∙ ap (λ (t : List ℕ). t ++ drop n bytes) (front_spelled n bytes long are) in
          subst (Spells (IsSpelled field) bytes) (sym (good field bytes e)) (big_bytes n x, whole, (refl, parts.1))
      | inr e ↦ subst (Spells (IsSpelled field) bytes) (sym (not_good field bytes e)) tt
    ]
