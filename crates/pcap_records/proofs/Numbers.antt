-- Numbers in a file: what is read is what is spelled, and a number is spelled in one way.
use Rattle.std.proofs.Common.{◌≡◌, ℕ, ◌+◌, ◌^◌, ◌<◌, ◌≤◌, List, ◌++◌, length, get_or, take, drop, refl, sym, ap, ◌∙◌, arith, inl, inr}
use Rattle.std.specs.Int.{w16, w32, from_be_bytes, from_le_bytes}
use Rattle.std.proofs.lemmas.Bool.{cases_lt}
use Rattle.std.proofs.lemmas.List.{take_at, drop_at, drop-drop, take-append-drop, length-drop, length-take, length-take-le, get_or-drop, get_or-take}
use Rattle.std.proofs.lemmas.List.{get_or_past}
use Rattle.std.proofs.lemmas.Nat.{be_bytes_2, be_bytes_4, le_bytes_2, le_bytes_4}
use Rattle.byteorder.specs.Endian.{big_number, little_number}
use Rattle.byteorder.specs.Numbers.{big_from-append, big_from-lt, big_number-reads_back, length-bytes_high_first, little_from-append, little_from-lt}
use Rattle.byteorder.specs.Numbers.{little_number-reads_back, length-bytes_low_first}
use Rattle.pcap_records.specs.declared.order.Order.{Order}
use Rattle.pcap_records.specs.declared.order.Order.TheVariants.{Big, Little}
use Rattle.pcap_records.specs.Format.{number_bytes, number_in}

abbrev pub IsBytes : List ℕ → Type 0
IsBytes bytes = (i : ℕ) → get_or bytes i 0 < 256

pub IsBytes-drop : (n : ℕ) (bytes : List ℕ) → IsBytes bytes → IsBytes (drop n bytes)
IsBytes-drop n bytes h i = rw get_or-drop (h (n + i))

pub IsBytes-take : (n : ℕ) (bytes : List ℕ) → IsBytes bytes → IsBytes (take n bytes)
IsBytes-take n bytes h i =
    elim (cases_lt i n) [
      | inl lt ↦ rw (get_or-take n bytes i 0 lt) (h i)
      | inr le ↦ rw (get_or_past (take n bytes) i 0 (omega (arith, length-take n bytes))) (omega arith)
    ]

-- two lists that are joined in one place are the same
pub same_parts : (a b x y : List ℕ) → length a ≡ length b → a ++ x ≡ b ++ y → (a ≡ b) × (x ≡ y)
same_parts a b x y len e = (
  sym (take_at a x (length b) len) ∙ ap (take (length b)) e ∙ take_at b y (length b) refl,
  sym (drop_at a x (length b) len) ∙ ap (drop (length b)) e
      ∙ drop_at b y (length b) refl,
)

pub length-number_bytes : (order : Order) (n x : ℕ) → length (number_bytes order n x) ≡ n
unfolding number_bytes
length-number_bytes Big n x = length-bytes_high_first n x
length-number_bytes Little n x = length-bytes_low_first 0 n x

-- what was spelled is read again, whatever follows
pub number_in-number_bytes : (order : Order) (n x : ℕ) (rest : List ℕ) → x < 256 ^ n → number_in order n (number_bytes order n x ++ rest) ≡ x
unfolding number_bytes number_in
number_in-number_bytes Big n x rest fits = big_number-reads_back n x rest fits
number_in-number_bytes Little n x rest fits = little_number-reads_back n x rest fits

-- a number reads the first bytes alone
pub number_in-append : (order : Order) (n : ℕ) (xs ys : List ℕ) → n ≤ length xs → number_in order n (xs ++ ys) ≡ number_in order n xs
unfolding number_in
number_in-append Big n xs ys long = big_from-append n xs ys long
number_in-append Little n xs ys long = little_from-append n xs ys long

pub number_in-lt : (order : Order) (n : ℕ) (xs : List ℕ) → IsBytes xs → number_in order n xs < 256 ^ n
unfolding number_in
number_in-lt Big n xs fits = big_from-lt 0 n xs fits
number_in-lt Little n xs fits = little_from-lt 0 n xs fits

-- numbers that are spelled alike are one, and what follows them is the same
pub same_numbers : (order : Order) (n x y : ℕ) (a b : List ℕ) → x < 256 ^ n → y < 256 ^ n → number_bytes order n x ++ a ≡ number_bytes order n y ++ b
    → (x ≡ y) × (a ≡ b)
same_numbers order n x y a b x_fits y_fits e =
    let parts = same_parts (number_bytes order n x) (number_bytes order n y) a b (length-number_bytes order n x ∙ sym (length-number_bytes order n y)) e in
    (sym (number_in-number_bytes order n x a x_fits) ∙ ap (number_in order n) e ∙ number_in-number_bytes order n y b y_fits, parts.1)

two_again : (order : Order) (bs : List ℕ) → length bs ≡ 2 → IsBytes bs → number_bytes order 2 (number_in order 2 bs) ≡ bs
unfolding number_bytes number_in
two_again Big bs len fits =
    let e : big_number 2 bs ≡ from_be_bytes w16 bs = omega arith in
    be_bytes_2 bs (big_number 2 bs) len fits e
two_again Little bs len fits =
    let e : little_number 2 bs ≡ from_le_bytes w16 bs = omega arith in
    le_bytes_2 bs (little_number 2 bs) len fits e

four_again : (order : Order) (bs : List ℕ) → length bs ≡ 4 → IsBytes bs → number_bytes order 4 (number_in order 4 bs) ≡ bs
unfolding number_bytes number_in
four_again Big bs len fits =
    let e : big_number 4 bs ≡ from_be_bytes w32 bs = omega arith in
    be_bytes_4 bs (big_number 4 bs) len fits e
four_again Little bs len fits =
    let e : little_number 4 bs ≡ from_le_bytes w32 bs = omega arith in
    le_bytes_4 bs (little_number 4 bs) len fits e

-- the number in the first bytes is spelled so, and then the others follow
pub spelled_two : (order : Order) (xs : List ℕ) → 2 ≤ length xs → IsBytes xs → xs ≡ number_bytes order 2 (number_in order 2 xs) ++ drop 2 xs
spelled_two order xs long fits =
    let len = length-take-le 2 xs long in
    let one : number_in order 2 xs ≡ number_in order 2 (take 2 xs) =
    ap (number_in order 2) (sym (take-append-drop 2 xs)) ∙ number_in-append order 2 (take 2 xs) (drop 2 xs) (omega arith) in
    sym (ap (λ (x : ℕ). number_bytes order 2 x ++ drop 2 xs) one
    ∙ ap (λ (x : List ℕ). x ++ drop 2 xs) (two_again order (take 2 xs) len (IsBytes-take 2 xs fits)) ∙ take-append-drop 2 xs)

pub spelled_four : (order : Order) (xs : List ℕ) → 4 ≤ length xs → IsBytes xs → xs ≡ number_bytes order 4 (number_in order 4 xs) ++ drop 4 xs
spelled_four order xs long fits =
    let len = length-take-le 4 xs long in
    let one : number_in order 4 xs ≡ number_in order 4 (take 4 xs) =
    ap (number_in order 4) (sym (take-append-drop 4 xs)) ∙ number_in-append order 4 (take 4 xs) (drop 4 xs) (omega arith) in
    sym (ap (λ (x : ℕ). number_bytes order 4 x ++ drop 4 xs) one
    ∙ ap (λ (x : List ℕ). x ++ drop 4 xs) (four_again order (take 4 xs) len (IsBytes-take 4 xs fits)) ∙ take-append-drop 4 xs)

-- the same of the bytes at a place, as a read of the rest of a slice gives their number
pub read_two : (order : Order) (xs : List ℕ) (at n : ℕ) → at + 2 ≤ length xs → IsBytes xs → n ≡ number_in order 2 (drop at xs)
    → drop at xs ≡ number_bytes order 2 n ++ drop (at + 2) xs
read_two order xs at n long fits e =
    spelled_two order (drop at xs) (omega (arith, length-drop at xs)) (IsBytes-drop at xs fits)
    ∙ ap (λ (x : List ℕ). number_bytes order 2 (number_in order 2 (drop at xs)) ++ x) (drop-drop 2 at xs)
    ∙ ap (λ (x : ℕ). number_bytes order 2 x ++ drop (at + 2) xs) (sym e)

pub read_four : (order : Order) (xs : List ℕ) (at n : ℕ) → at + 4 ≤ length xs → IsBytes xs → n ≡ number_in order 4 (drop at xs)
    → drop at xs ≡ number_bytes order 4 n ++ drop (at + 4) xs
read_four order xs at n long fits e =
    spelled_four order (drop at xs) (omega (arith, length-drop at xs)) (IsBytes-drop at xs fits)
    ∙ ap (λ (x : List ℕ). number_bytes order 4 (number_in order 4 (drop at xs)) ++ x) (drop-drop 4 at xs)
    ∙ ap (λ (x : ℕ). number_bytes order 4 x ++ drop (at + 4) xs) (sym e)
