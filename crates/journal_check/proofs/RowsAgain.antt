-- What is spelled of a row, a post, an output and a slot is read again.
use Rattle.std.proofs.Common.{◌≡◌, ℕ, suc, ◌+◌, ◌-◌, ◌^◌, ◌<◌, ◌≤◌, ◌==◌, ◌∙◌, not, Bool, true, false, nat_le, List, [], ◌∷◌, ◌++◌, length, get_or, slice_index}
use Rattle.std.proofs.Common.{Ok, All, refl, sym, ap, subst, arith, inl, inr, append_assoc, le-leb}
use Rattle.std.specs.Bool.{Decides, one_answer}
use Rattle.std.specs.List.{flat_map, range_with_len}
use Rattle.std.specs.Int.{bit_at}
use Rattle.std.proofs.lemmas.Bool.{cond-true, cond-false, and_from, cases_eq, cases_Bool, eq-eqb}
use Rattle.std.proofs.lemmas.Bool.Decides.{Decides-eqb}
use Rattle.std.proofs.lemmas.Grind.{flat_map-append}
use Rattle.std.proofs.lemmas.List.{get_or-append-add, get_or_append_left}
use Rattle.std.proofs.lemmas.List.Elements.{All-tail}
use Rattle.std.proofs.Math.Nat.{pow-le-pow_right}
use Rattle.byteorder.specs.Endian.{big_bytes}
use Rattle.slot_match.specs.declared.rows.Row.{Row}
use Rattle.slot_match.specs.Parts.{set_of}
use Rattle.slot_match.proofs.Sets.{Has-set_of, set_of-lt}
use Rattle.journal_check.specs.declared.fields.Field.{Field}
use Rattle.journal_check.specs.declared.fields.Field.TheVariants.{Sets, More, Set}
use Rattle.journal_check.specs.declared.posts.FilePost.{FilePost}
use Rattle.journal_check.specs.Fields.{len_of, allows, Reading, number_in, read_on, each_in}
use Rattle.journal_check.specs.Files.{set_in, row_in, post_in}
use Rattle.journal_check.specs.Texts.{all_sets, sets_there, set_text, number_of, post_text, IsFileRow}
use Rattle.journal_check.proofs.Spelled.{one_byte, number_again}

-- each set is below the limit, and its bit tells whether it is not empty
abbrev pub AreMarked : ℕ → ℕ → List ℕ → List ℕ → Type 0
AreMarked n sets [] [] = Unit {0}
AreMarked n sets [] (x ∷ xs) = ⊥
AreMarked n sets (k ∷ ks) [] = ⊥
AreMarked n sets (k ∷ ks) (x ∷ xs) = ((bit_at sets k == 1) ≡ not (x == 0)) × (x < 2 ^ n) × AreMarked n sets ks xs

set_again : (n sets k x : ℕ) (rest : List ℕ) → n ≤ 64 → (bit_at sets k == 1) ≡ not (x == 0) → x < 2 ^ n → set_in n sets k (set_text x ++ rest) ≡ Ok (x, rest)
set_again n sets k x rest few marked fits =
    elim (cases_eq x 0) [
      | inl zero_set ↦
          let empty : (x == 0) ≡ true = eq-eqb x 0 zero_set in
          let bit : (bit_at sets k == 1) ≡ false = marked ∙ ap not empty in
          let text : set_text x ≡ [] = cond-true (x == 0) [] (big_bytes 8 x) empty in
          let r : Reading ℕ = Ok (0, rest) in
          ap (λ (t : List ℕ). set_in n sets k (t ++ rest)) text
          ∙ cond-false (bit_at sets k == 1) (number_in (Set n) rest) r bit
          ∙ ap (λ (y : ℕ). let q : Reading ℕ = Ok (y, rest) in q) (sym zero_set)
      | inr some ↦
          let empty : (x == 0) ≡ false = not_equal x some in
          let bit : (bit_at sets k == 1) ≡ true = marked ∙ ap not empty in
          let text : set_text x ≡ big_bytes 8 x = cond-false (x == 0) [] (big_bytes 8 x) empty in
          let bytes = big_bytes 8 x ++ rest in
          let r : Reading ℕ = Ok (0, bytes) in
          let allowed : allows (Set n) x ≡ true =
          and_from (nat_le 1 x) (nat_le x (2 ^ n - 1)) (le-leb 1 x (omega arith)) (le-leb x (2 ^ n - 1) (omega arith)) in
          ap (λ (t : List ℕ). set_in n sets k (t ++ rest)) text
          ∙ cond-true (bit_at sets k == 1) (number_in (Set n) bytes) r bit
          ∙ number_again (Set n) x rest (fits_eight n x few fits) allowed
    ] where
      not_equal : (x : ℕ) → (x ≡ 0 → ⊥) → (x == 0) ≡ false
      not_equal x some = elim (cases_Bool (x == 0)) [ inl e ↦ absurd (some ((Decides-eqb x 0).0 e)) | inr e ↦ e ]

      fits_eight : (n x : ℕ) → n ≤ 64 → x < 2 ^ n → x < 256 ^ 8
      fits_eight n x few fits = let more : 2 ^ n ≤ 2 ^ 64 = pow-le-pow_right (omega arith) few in omega arith

pub sets_again : (n sets : ℕ) (ks xs rest : List ℕ) → n ≤ 64 → AreMarked n sets ks xs
    → each_in (set_in n sets) ks (flat_map set_text xs ++ rest) ≡ Ok (xs, rest)
sets_again n sets [] [] rest few marked = refl
sets_again n sets [] (x ∷ xs) rest few marked = absurd marked
sets_again n sets (k ∷ ks) [] rest few marked = absurd marked
sets_again n sets (k ∷ ks) (x ∷ xs) rest few marked =
    let tail = flat_map set_text xs ++ rest in
    let next = λ (y : ℕ) (more : List ℕ). read_on (each_in (set_in n sets) ks more) (λ ys left. Ok (y ∷ ys, left)) in
    ap (λ (bytes : List ℕ). read_on (set_in n sets k bytes) next) (append_assoc (set_text x) (flat_map set_text xs) rest)
    ∙ ap (λ (r : Reading ℕ). read_on r next) (set_again n sets k x tail few marked.0 marked.1)
    ∙ ap (λ (r : Reading (List ℕ)). read_on r (λ ys left. let q : Reading (List ℕ) = Ok (x ∷ ys, left) in q)) (sets_again n sets ks xs rest few marked.2)

-- sets of which these bits tell whether they are not empty
marked_from : (n sets first : ℕ) (xs : List ℕ) → ((k : ℕ) → k < length xs → (bit_at sets (first + k) == 1) ≡ not (slice_index xs k == 0))
    → All (λ set. set < 2 ^ n) xs → AreMarked n sets (range_with_len first (length xs)) xs
marked_from n sets first [] bits within = tt
marked_from n sets first (x ∷ xs) bits within = (
  subst (λ (k : ℕ). (bit_at sets k == 1) ≡ not (x == 0)) (let here : first + 0 ≡ first = omega arith in here) (bits 0 (omega arith)),
  within 0 0 (omega arith),
  marked_from n sets (first + 1) xs
      (λ k below. subst (λ (i : ℕ). (bit_at sets i == 1) ≡ not (slice_index xs k == 0)) (let next : first + suc k ≡ first + 1 + k = omega arith in next)
      (bits (suc k) (omega arith)))
      (All-tail (λ set. set < 2 ^ n) x xs within),
)

-- a byte that a field of one byte may have is read
pub byte_again : (field : Field) → len_of field ≡ 1 → (x : ℕ) (rest : List ℕ) → x < 256 → allows field x ≡ true → number_in field (x ∷ rest) ≡ Ok (x, rest)
byte_again field one x rest fits allowed =
    let spelled : big_bytes (len_of field) x ≡ x ∷ [] = ap (λ (n : ℕ). big_bytes n x) one ∙ one_byte x fits in
    let limit : 256 ^ len_of field ≡ 256 ^ 1 = ap (λ (n : ℕ). 256 ^ n) one in
    ap (λ (b : List ℕ). number_in field (b ++ rest)) (sym spelled) ∙ number_again field x rest (omega arith) allowed

flag_again : (more : Bool) (rest : List ℕ) → number_in More (number_of more ∷ rest) ≡ Ok (number_of more, rest)
flag_again true rest = byte_again More refl 1 rest (omega arith) refl
flag_again false rest = byte_again More refl 0 rest (omega arith) refl

flag_is : (more : Bool) → (number_of more == 1) ≡ more
flag_is true = refl
flag_is false = refl

-- the bit of a set tells whether it is not empty
bit_tells : (xs : List ℕ) (k : ℕ) → k < 8 → (bit_at (set_of 8 (λ bit. not (slice_index xs bit == 0))) k == 1) ≡ not (slice_index xs k == 0)
bit_tells xs k below =
    let test = λ (bit : ℕ). not (slice_index xs bit == 0) in
    let sets = set_of 8 test in
    let of = Has-set_of 8 test k in
    let marked : Decides (bit_at sets k == 1) (test k ≡ true) =
    (λ e. (of.0 ((Decides-eqb (bit_at sets k) 1).0 e)).1, λ e. (Decides-eqb (bit_at sets k) 1).1 (of.1 (below, e))) in
    one_answer (bit_at sets k == 1) (test k) marked (λ e. e, λ e. e)

module _ (n : ℕ) (few : n ≤ 64) where
  pub row_again : (row : Row) (rest : List ℕ) → IsFileRow n row → row_in n (sets_there row) (flat_map set_text (all_sets row) ++ rest) ≡ Ok (row, rest)
  unfolding row_in
  row_again row rest good =
      let uni = row.uni in
      let multi = row.multi in
      let four = good.uni_levels in
      let also = good.multi_levels in
      let sets = sets_there row in
      let tail = flat_map set_text multi ++ rest in
      let text : flat_map set_text (all_sets row) ++ rest ≡ flat_map set_text uni ++ tail =
      ap (λ (t : List ℕ). t ++ rest) (flat_map-append set_text uni multi) ∙ append_assoc (flat_map set_text uni) (flat_map set_text multi) rest in
      let low : AreMarked n sets (0 ∷ 1 ∷ 2 ∷ 3 ∷ []) uni =
      subst (λ (k : ℕ). AreMarked n sets (range_with_len 0 k) uni) four
      (marked_from n sets 0 uni (λ k below. bit_tells (all_sets row) (0 + k) (omega arith)
      ∙ ap (λ (x : ℕ). not (x == 0)) (ap (λ (i : ℕ). get_or (all_sets row) i 0) (let e : 0 + k ≡ k = omega arith in e)
      ∙ get_or_append_left uni multi 0 k below)) good.uni_within) in
      let high : AreMarked n sets (4 ∷ 5 ∷ 6 ∷ 7 ∷ []) multi =
      subst (λ (k : ℕ). AreMarked n sets (range_with_len 4 k) multi) also
      (marked_from n sets 4 multi (λ k below. bit_tells (all_sets row) (4 + k) (omega arith)
      ∙ ap (λ (x : ℕ). not (x == 0)) (ap (λ (m : ℕ). get_or (all_sets row) (m + k) 0) (sym four) ∙ get_or-append-add uni multi k 0)) good.multi_within) in
      let first : each_in (set_in n sets) (0 ∷ 1 ∷ 2 ∷ 3 ∷ []) (flat_map set_text (all_sets row) ++ rest) ≡ Ok (uni, tail) =
      ap (each_in (set_in n sets) (0 ∷ 1 ∷ 2 ∷ 3 ∷ [])) text ∙ sets_again n sets (0 ∷ 1 ∷ 2 ∷ 3 ∷ []) uni tail few low in
      let second : each_in (set_in n sets) (4 ∷ 5 ∷ 6 ∷ 7 ∷ []) tail ≡ Ok (multi, rest) = sets_again n sets (4 ∷ 5 ∷ 6 ∷ 7 ∷ []) multi rest few high in
      let after = λ (u : List ℕ) (more : List ℕ). read_on (each_in (set_in n sets) (4 ∷ 5 ∷ 6 ∷ 7 ∷ []) more)
      (λ (m left : List ℕ). let q : Reading Row = Ok (record { uni = u; multi = m }, left) in q) in
      ap (λ (r : Reading (List ℕ)). read_on r after) first
      ∙ ap (λ (r : Reading (List ℕ)). read_on r (λ (m left : List ℕ). let q : Reading Row = Ok (record { uni = uni; multi = m }, left) in q)) second

  pub post_again : (post : FilePost) (rest : List ℕ) → IsFileRow n post.row → post_in n (post_text post ++ rest) ≡ Ok (post, rest)
  unfolding post_in post_text
  post_again post rest good =
      let sets = sets_there post.row in
      let flag = number_of post.more in
      let after_more = flat_map set_text (all_sets post.row) ++ rest in
      let small : sets < 256 = omega (arith, set_of-lt 8 (λ bit. not (slice_index (all_sets post.row) bit == 0))) in
      rw (byte_again Sets refl sets (flag ∷ after_more) small
      (and_from (nat_le 0 sets) (nat_le sets 0xff) (le-leb 0 sets (omega arith)) (le-leb sets 0xff (omega arith))))
      (rw (flag_again post.more after_more)
      (rw (row_again post.row rest good)
      (ap (λ (more : Bool). let r : Reading FilePost = Ok (record { row = post.row; more = more }, rest) in r) (flag_is post.more))))
