-- What is read of a post is spelled by its bytes: the byte that tells which sets of its row there are, the byte that tells whether more is to come,
-- and the sets.
use Rattle.std.proofs.Common.{◌≡◌, ℕ, zero, suc, ◌+◌, ◌-◌, ◌^◌, ◌<◌, ◌≤◌, ◌==◌, ◌∙◌, not, true, false}
use Rattle.std.proofs.Common.{List, [], ◌∷◌, ◌++◌, length, slice_index, Ok, refl, sym, ap, subst, inl, inr, arith, add-zero}
use Rattle.std.specs.List.{flat_map, range_with_len}
use Rattle.std.specs.Int.{bit_at}
use Rattle.std.proofs.lemmas.Bool.{cases_Bool, cases_lt, cond-true, cond-false}
use Rattle.std.proofs.lemmas.Bool.Decides.{Decides-eqb}
use Rattle.std.proofs.lemmas.Grind.{flat_map-append}
use Rattle.std.proofs.lemmas.List.{append-nil, get_or_append_left, get_or-append_right}
use Rattle.std_lemmas.proofs.Numbers.{not_zero}
use Rattle.rotating_pick.proofs.Bits.{Has-lt}
use Rattle.slot_match.specs.declared.rows.Row.{Row}
use Rattle.slot_match.proofs.Sets.{Has-same, Has-set_of}
use Rattle.journal_check.specs.declared.fields.Field.TheVariants.{Sets, More, Set}
use Rattle.journal_check.specs.declared.posts.FilePost.{FilePost}
use Rattle.journal_check.specs.Fields.{Reading, number_in, each_in}
use Rattle.journal_check.specs.Files.{set_in, row_in, post_in}
use Rattle.journal_check.specs.Texts.{all_sets, sets_there, set_text, number_of, post_text}
use Rattle.journal_check.proofs.NumberReads.{from_bounds}
use Rattle.journal_check.proofs.Spelled.{one_byte}
use Rattle.journal_check.proofs.Written.{set_some}
use Rattle.journal_check.proofs.NumbersSpelled.{AreBytes, Spells, spells_on, ends_here, spells_more, IsSpelled, number_spelled}

-- The texts of two lists, one after the other, are that of the two as one list.
two_lists : {X : Type 0} (text_of : X → List ℕ) (first second : List X) (first_text second_text : List ℕ) → first_text ≡ flat_map text_of first
    → second_text ≡ flat_map text_of second → first_text ++ (second_text ++ []) ≡ flat_map text_of (first ++ second)
two_lists text_of first second first_text second_text first_is second_is =
    ap (λ (text : List ℕ). text ++ (second_text ++ [])) first_is
    ∙ ap (λ (text : List ℕ). flat_map text_of first ++ text) (append-nil second_text ∙ second_is)
    ∙ sym (flat_map-append text_of first second)

-- Two texts of one byte each stand before a third as these bytes.
pub two_bytes : (first second : ℕ) (first_text second_text text : List ℕ) → first_text ≡ first ∷ [] → second_text ≡ second ∷ []
    → first_text ++ (second_text ++ text) ≡ first ∷ second ∷ text
two_bytes first second first_text second_text text first_is second_is =
    ap (λ (front : List ℕ). front ++ (second_text ++ text)) first_is ∙ ap (λ (next : List ℕ). first ∷ (next ++ text)) second_is

-- The flag of a number that is 0 or 1 has that number.
flag_spelled : (more : ℕ) → more ≤ 1 → number_of (more == 1) ≡ more
flag_spelled more few = elim (cases_Bool (more == 1)) [
  | inl is_one ↦ ap number_of is_one ∙ sym ((Decides-eqb more 1).0 is_one)
  | inr is_not ↦ let none : more ≡ 0 = not_one more few is_not in ap number_of is_not ∙ sym none
] where
  not_one : (number : ℕ) → number ≤ 1 → (number == 1) ≡ false → number ≡ 0
  not_one zero few is_not = refl
  not_one (suc number) few is_not =
      absurd
      (let one : suc number ≡ 1 = omega arith in
      let is_one : (suc number == 1) ≡ true = (Decides-eqb (suc number) 1).1 one in
      let both : true ≡ false = sym is_one ∙ is_not in cc)

-- so many sets from the bit `from` on, with their texts: a bit of `bits` tells whether its set is not empty
record AreSets (bits from count : ℕ) (sets text : List ℕ) : Type 0 where
  long : length sets ≡ count
  spelled : text ≡ flat_map set_text sets
  told : (i : ℕ) → i < count → (bit_at bits (from + i) == 1) ≡ not (slice_index sets i == 0)

-- A byte whose low four bits tell the sets of unicast, and whose high four those of multicast, is the one that tells the sets of the row.
module _ (bits : ℕ) (row : Row) (small : bits < 256) (uni_long : length row.uni ≡ 4)
    (low : (i : ℕ) → i < 4 → (bit_at bits (0 + i) == 1) ≡ not (slice_index row.uni i == 0))
    (high : (i : ℕ) → i < 4 → (bit_at bits (4 + i) == 1) ≡ not (slice_index row.multi i == 0)) where
  -- Each of its eight bits tells the set of that place in the row.
  told_at : (bit : ℕ) → bit < 8 → (bit_at bits bit == 1) ≡ not (slice_index (all_sets row) bit == 0)
  told_at bit below = elim (cases_lt bit 4) [
    | inl few ↦
        let place : bit ≡ 0 + bit = omega arith in
        let set : slice_index (all_sets row) bit ≡ slice_index row.uni bit = get_or_append_left row.uni row.multi 0 bit (omega arith) in
        ap (λ (j : ℕ). bit_at bits j == 1) place ∙ low bit few ∙ ap (λ (found : ℕ). not (found == 0)) (sym set)
    | inr past ↦
        let place : bit ≡ 4 + (bit - 4) = omega arith in
        let set : slice_index (all_sets row) bit ≡ slice_index row.multi (bit - 4) = get_or-append_right row.uni row.multi 4 bit 0 uni_long past in
        ap (λ (j : ℕ). bit_at bits j == 1) place ∙ high (bit - 4) (omega arith) ∙ ap (λ (found : ℕ). not (found == 0)) (sym set)
  ]

  -- So it is the row's byte.
  sets_are : bits ≡ sets_there row
  sets_are = Has-same bits (sets_there row) (λ k.
      let is_member = Has-set_of 8 (λ (bit : ℕ). not (slice_index (all_sets row) bit == 0)) k in (
        λ has.
            let below : k < 8 = Has-lt 8 bits k (omega arith) has in
            is_member.1 (below, sym (told_at k below) ∙ (Decides-eqb (bit_at bits k) 1).1 has),
        λ has. let member = is_member.0 has in (Decides-eqb (bit_at bits k) 1).0 (told_at k member.0 ∙ member.1),
      ))

-- Readings of a switch of n ports.
module _ (n : ℕ) where
  -- a set and its text, where the bit tells whether it is empty
  abbrev IsSetText : ℕ → ℕ → ℕ → List ℕ → Type 0
  IsSetText bits bit set text = (text ≡ set_text set) × ((bit_at bits bit == 1) ≡ not (set == 0))

  -- What is read for a bit is spelled: a set that is not empty where the bit is set, else the empty one, which has no bytes.
  set_spelled : (bits bit : ℕ) (bytes : List ℕ) → AreBytes bytes → Spells (IsSetText bits bit) bytes (set_in n bits bit bytes)
  set_spelled bits bit bytes are =
      let none : Reading ℕ = Ok (0, bytes) in
      elim (cases_Bool (bit_at bits bit == 1)) [
        | inl there ↦
            subst (Spells (IsSetText bits bit) bytes) (sym (cond-true (bit_at bits bit == 1) (number_in (Set n) bytes) none there))
            (spells_more (IsSpelled (Set n)) (IsSetText bits bit) bytes (number_in (Set n) bytes) (λ set text is.
            let some : 1 ≤ set = (from_bounds 1 (2 ^ n - 1) set is.1).0 in
            let full : set ≡ 0 → ⊥ = λ empty. absurd (omega arith) in
            (is.0 ∙ sym (set_some set full), there ∙ sym (not_zero set full))) (number_spelled (Set n) bytes are))
        | inr lacks ↦
            subst (Spells (IsSetText bits bit) bytes) (sym (cond-false (bit_at bits bit == 1) (number_in (Set n) bytes) none lacks))
            (ends_here (IsSetText bits bit) 0 bytes (refl, lacks))
      ]

  -- What is read for bits one after another is spelled.
  sets_spelled : (bits count from : ℕ) (bytes : List ℕ) → AreBytes bytes
      → Spells (AreSets bits from count) bytes (each_in (set_in n bits) (range_with_len from count) bytes)
  sets_spelled bits zero from bytes are = ([], refl, record { long = refl; spelled = refl; told = λ i below. absurd (omega arith) })
  sets_spelled bits (suc count) from bytes are =
      spells_on (IsSetText bits from) (AreSets bits from (suc count)) bytes (set_in n bits from bytes) _ are (set_spelled bits from bytes are)
      (λ set set_bytes more more_are set_is.
      spells_on (AreSets bits (from + 1) count) (λ sets text. AreSets bits from (suc count) sets (set_bytes ++ text)) more
      (each_in (set_in n bits) (range_with_len (from + 1) count) more) _ more_are (sets_spelled bits count (from + 1) more more_are)
      (λ sets sets_bytes rest rest_are sets_are.
      ends_here (λ all text. AreSets bits from (suc count) all (set_bytes ++ (sets_bytes ++ text))) (set ∷ sets) rest
      (joined set sets set_bytes sets_bytes set_is sets_are))) where
        joined : (set : ℕ) (sets set_bytes sets_bytes : List ℕ) → IsSetText bits from set set_bytes → AreSets bits (from + 1) count sets sets_bytes
            → AreSets bits from (suc count) (set ∷ sets) (set_bytes ++ (sets_bytes ++ []))
        joined set sets set_bytes sets_bytes set_is sets_are = record {
          long = ap suc sets_are.long;
          spelled =
              ap (λ (text : List ℕ). text ++ (sets_bytes ++ [])) set_is.0
              ∙ ap (λ (text : List ℕ). set_text set ++ text) (append-nil sets_bytes ∙ sets_are.spelled);
          told = told;
        } where
          told : (i : ℕ) → i < suc count → (bit_at bits (from + i) == 1) ≡ not (slice_index (set ∷ sets) i == 0)
          told zero below = ap (λ (j : ℕ). bit_at bits j == 1) (add-zero from) ∙ set_is.1
          told (suc i) below =
              let place : from + suc i ≡ from + 1 + i = omega arith in
              ap (λ (j : ℕ). bit_at bits j == 1) place ∙ sets_are.told i (omega arith)

  -- a row and its text, where the byte tells its sets
  abbrev IsRowText : ℕ → Row → List ℕ → Type 0
  IsRowText bits row text = (text ≡ flat_map set_text (all_sets row)) × (bits ≡ sets_there row)

  -- What is read as a row is spelled.
  row_spelled : (bits : ℕ) (bytes : List ℕ) → bits < 256 → AreBytes bytes → Spells (IsRowText bits) bytes (row_in n bits bytes)
  unfolding row_in
  row_spelled bits bytes small are =
      spells_on (AreSets bits 0 4) (IsRowText bits) bytes (each_in (set_in n bits) (0 ∷ 1 ∷ 2 ∷ 3 ∷ []) bytes) _ are (sets_spelled bits 4 0 bytes are)
      (λ uni uni_bytes after_uni after_are low.
      spells_on (AreSets bits 4 4) (λ row text. IsRowText bits row (uni_bytes ++ text)) after_uni
      (each_in (set_in n bits) (4 ∷ 5 ∷ 6 ∷ 7 ∷ []) after_uni) _ after_are (sets_spelled bits 4 4 after_uni after_are)
      (λ multi multi_bytes rest rest_are high.
      ends_here (λ row text. IsRowText bits row (uni_bytes ++ (multi_bytes ++ text))) (record { uni = uni; multi = multi }) rest (
        two_lists set_text uni multi uni_bytes multi_bytes low.spelled high.spelled,
        sets_are bits (record { uni = uni; multi = multi }) small low.long low.told high.told,
      )))

  -- What is read as a post is spelled.
  pub post_spelled : (bytes : List ℕ) → AreBytes bytes → Spells (λ (post : FilePost) text. text ≡ post_text post) bytes (post_in n bytes)
  unfolding post_in post_text
  post_spelled bytes are =
      spells_on (IsSpelled Sets) (λ (post : FilePost) text. text ≡ post_text post) bytes (number_in Sets bytes) _ are (number_spelled Sets bytes are)
      (λ bits bits_text after_bits after_bits_are bits_is.
      spells_on (IsSpelled More) (λ (post : FilePost) text. bits_text ++ text ≡ post_text post) after_bits (number_in More after_bits) _ after_bits_are
      (number_spelled More after_bits after_bits_are) (λ more more_text after_more after_more_are more_is.
      let small : bits < 256 = let top = (from_bounds 0 0xff bits bits_is.1).1 in omega arith in
      let one : more ≤ 1 = (from_bounds 0 1 more more_is.1).1 in
      spells_on (IsRowText bits) (λ (post : FilePost) text. bits_text ++ (more_text ++ text) ≡ post_text post) after_more (row_in n bits after_more) _
      after_more_are (row_spelled bits after_more small after_more_are) (λ row row_text rest rest_are row_is.
      ends_here (λ (post : FilePost) text. bits_text ++ (more_text ++ (row_text ++ text)) ≡ post_text post) (record { row = row; more = more == 1 }) rest
      (two_bytes bits more bits_text more_text (row_text ++ []) (bits_is.0 ∙ one_byte bits small) (more_is.0 ∙ one_byte more (omega arith))
      ∙ ap (λ (byte : ℕ). byte ∷ more ∷ (row_text ++ [])) row_is.1
      ∙ ap (λ (byte : ℕ). sets_there row ∷ byte ∷ (row_text ++ [])) (sym (flag_spelled more one))
      ∙ ap (λ (text : List ℕ). sets_there row ∷ number_of (more == 1) ∷ text) (append-nil row_text ∙ row_is.0)))))
