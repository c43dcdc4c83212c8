-- A number that stands at a place: whether it is read there.
use Rattle.std.proofs.Common.{◌≡◌, ℕ, ◌+◌, ◌-◌, ◌<◌, ◌≤◌, ◌&&◌, ◌∙◌, inl, inr, Bool, true, false, nat_le, nat_lt, ltb-true, ◌==◌, List}
use Rattle.std.proofs.Common.{length, take, drop, Ok, Err, refl, sym, ap, arith, leb-true, le-leb}
use Rattle.std.proofs.lemmas.Bool.{cond-true, cond-false, and_from, cases_Bool, and_parts, or_cases}
use Rattle.std.proofs.lemmas.Bool.Decides.{Decides-eqb}
use Rattle.std.proofs.lemmas.List.{drop-drop, length-drop, take_rest}
use Rattle.byteorder.specs.Endian.{big_number}
use Rattle.journal_check.specs.declared.fields.Field.{Field}
use Rattle.journal_check.specs.declared.fields.Field.TheVariants.{Ports, Rounds, Slots, Input, Rank}
use Rattle.journal_check.specs.Fields.{len_of, allows, is_from, most_slots, no_input, Reading, number_in}
use Rattle.journal_check.specs.Steps.{IsRead, IsBadAt}

-- the test of a field at the head of the bytes
abbrev pub is_good : Field → List ℕ → Bool
is_good field bytes = nat_le (len_of field) (length bytes) && allows field (big_number (len_of field) bytes)

-- what is read where the field is good, and where it is not
abbrev pub good_in : Field → List ℕ → Reading ℕ
good_in field bytes = Ok (big_number (len_of field) bytes, drop (len_of field) bytes)

pub good : (field : Field) (bytes : List ℕ) → is_good field bytes ≡ true → number_in field bytes ≡ good_in field bytes
unfolding number_in
good field bytes e = cond-true (is_good field bytes) (good_in field bytes) (Err bytes) e

pub not_good : (field : Field) (bytes : List ℕ) → is_good field bytes ≡ false → number_in field bytes ≡ Err bytes
unfolding number_in
not_good field bytes e = cond-false (is_good field bytes) (good_in field bytes) (Err bytes) e

not_both : (a b : Bool) → (a ≡ true → b ≡ true → a ≡ false) → (a && b) ≡ false
not_both true true h = h refl refl
not_both true false h = refl
not_both false b h = refl

pub number_read : (field : Field) (bytes : List ℕ) (at number : ℕ) → at + len_of field ≤ length bytes → number ≡ big_number (len_of field) (drop at bytes)
    → allows field number ≡ true → IsRead (number_in field) bytes at number (at + len_of field)
number_read field bytes at number long is allowed =
    let rest = drop at bytes in
    let whole : nat_le (len_of field) (length rest) ≡ true = le-leb (len_of field) (length rest) (omega (arith, length-drop at bytes)) in
    let test : is_good field rest ≡ true =
    and_from (nat_le (len_of field) (length rest)) (allows field (big_number (len_of field) rest)) whole (sym (ap (allows field) is) ∙ allowed) in
    let next = drop-drop (len_of field) at bytes in
    let reads : number_in field rest ≡ Ok (number, drop (at + len_of field) bytes) =
    good field rest test ∙ ap (λ (x : ℕ). let r : Reading ℕ = Ok (x, drop (len_of field) rest) in r) (sym is)
    ∙ ap (λ (xs : List ℕ). let r : Reading ℕ = Ok (number, xs) in r) next in
    record { within = long; reads = reads }

pub number_short : (field : Field) (bytes : List ℕ) (at : ℕ) → at ≤ length bytes → length bytes - at < len_of field → IsBadAt (number_in field) bytes at at
number_short field bytes at place short =
    let rest = drop at bytes in
    record {
      within = place;
      fails = not_good field rest
          (not_both (nat_le (len_of field) (length rest)) (allows field (big_number (len_of field) rest))
          (λ fits ok. absurd (omega (arith, leb-true (len_of field) (length rest) fits, length-drop at bytes))));
    }

pub number_refused : (field : Field) (bytes : List ℕ) (at number : ℕ) → at ≤ length bytes → number ≡ big_number (len_of field) (drop at bytes)
    → allows field number ≡ false → IsBadAt (number_in field) bytes at at
number_refused field bytes at number place is refused =
    let rest = drop at bytes in
    let no : allows field (big_number (len_of field) rest) ≡ false = sym (ap (allows field) is) ∙ refused in
    record {
      within = place;
      fails = not_good field rest
          (not_both (nat_le (len_of field) (length rest)) (allows field (big_number (len_of field) rest))
          (λ fits ok. absurd (let same : true ≡ false = sym ok ∙ no in cc)));
    }

abbrev number_part : Reading ℕ → ℕ
number_part (Ok read) = read.0
number_part (Err bad) = 0

-- the number of the first bytes of the rest of a slice
pub read_is : (field : Field) (bytes : List ℕ) (at number len : ℕ) → len ≡ len_of field → number ≡ big_number len (take (length bytes - at) (drop at bytes))
    → number ≡ big_number (len_of field) (drop at bytes)
read_is field bytes at number len len_is is =
    is ∙ ap (λ (k : ℕ). big_number k (take (length bytes - at) (drop at bytes))) len_is ∙ ap (big_number (len_of field)) (take_rest bytes at)

-- what the test of a range tells
pub from_bounds : (low high x : ℕ) → is_from low high x ≡ true → (low ≤ x) × (x ≤ high)
from_bounds low high x e = let p = and_parts (nat_le low x) (nat_le x high) e in (leb-true low x p.0, leb-true x high p.1)

-- what is read in a field is a number that it may have
pub number_allowed : (field : Field) (bytes : List ℕ) (at number next : ℕ) → IsRead (number_in field) bytes at number next → allows field number ≡ true
number_allowed field bytes at number next read =
    let rest = drop at bytes in
    elim (cases_Bool (is_good field rest)) [
      | inl e ↦
          let both = and_parts (nat_le (len_of field) (length rest)) (allows field (big_number (len_of field) rest)) e in
          let same : good_in field rest ≡ Ok (number, drop next bytes) = sym (good field rest e) ∙ read.reads in
          let is : big_number (len_of field) rest ≡ number = ap number_part same in
          sym (ap (allows field) is) ∙ both.1
      | inr e ↦ absurd (let same : Err rest ≡ Ok (number, drop next bytes) = sym (not_good field rest e) ∙ read.reads in cc)
    ]

pub most_few : (ports : ℕ) → most_slots ports ≤ 262145
most_few ports = elim (cases_Bool (nat_lt 32 ports)) [
  | inl e ↦ let same : most_slots ports ≡ 131073 = cond-true (nat_lt 32 ports) 131073 262145 e in omega arith
  | inr e ↦ let same : most_slots ports ≡ 262145 = cond-false (nat_lt 32 ports) 131073 262145 e in omega arith
]

-- the numbers of some fields are within their limits
pub ports_within : (bytes : List ℕ) (at x next : ℕ) → IsRead (number_in Ports) bytes at x next → (1 ≤ x) × (x ≤ 64)
ports_within bytes at x next read = from_bounds 1 64 x (number_allowed Ports bytes at x next read)

pub rounds_within : (bytes : List ℕ) (at x next : ℕ) → IsRead (number_in Rounds) bytes at x next → (1 ≤ x) × (x ≤ 64)
rounds_within bytes at x next read = from_bounds 1 64 x (number_allowed Rounds bytes at x next read)

pub slots_within : (ports : ℕ) (bytes : List ℕ) (at x next : ℕ) → IsRead (number_in (Slots ports)) bytes at x next → (1 ≤ x) × (x ≤ 262145)
slots_within ports bytes at x next read =
    let p = from_bounds 1 (most_slots ports) x (number_allowed (Slots ports) bytes at x next read) in
    let few = most_few ports in
    let high = p.1 in
    (p.0, omega arith)

-- so are the two numbers of an output
pub input_within : (ports : ℕ) (bytes : List ℕ) (at x next : ℕ) → ports ≤ 64 → IsRead (number_in (Input ports)) bytes at x next → x < 256
input_within ports bytes at x next few read =
    elim (or_cases (nat_lt x ports) (x == no_input) (number_allowed (Input ports) bytes at x next read)) [
      | inl e ↦ let below = ltb-true x ports e in omega arith
      | inr e ↦ let is : x ≡ 255 = (Decides-eqb x 255).0 e in omega arith
    ]

pub rank_within : (input : ℕ) (bytes : List ℕ) (at x next : ℕ) → IsRead (number_in (Rank input)) bytes at x next → x < 8
rank_within input bytes at x next read =
    let allowed = number_allowed (Rank input) bytes at x next read in
    elim (cases_Bool (input == no_input)) [
      | inl e ↦ let same : allows (Rank input) x ≡ (x == 0) = cond-true (input == no_input) (x == 0) (is_from 0 7 x) e in let is : x ≡ 0 =
          (Decides-eqb x 0).0 (sym same ∙ allowed) in omega arith
      | inr e ↦ let same : allows (Rank input) x ≡ is_from 0 7 x = cond-false (input == no_input) (x == 0) (is_from 0 7 x) e in let p =
          (from_bounds 0 7 x (sym same ∙ allowed)).1 in omega arith
    ]
