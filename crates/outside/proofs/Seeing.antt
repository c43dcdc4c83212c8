-- A read that gave a piece: what is seen after it has that piece, and depends on the file that was read alone.
use Rattle.std.proofs.Common.{◌≡◌, ◌≤◌, ◌<◌, ℕ, Bool, true, false, List, take, drop, length, Option, Some, None, refl, ◌∙◌, ap, arith, inl, inr}
use Rattle.std.specs.Prelude.{IfSome, nat_lt, ◌==◌, ◌||◌, option_and_then, if◌then◌else◌}
use Rattle.std.proofs.lemmas.Bool.{and_parts, cases_lt, eqb-true, lt-ltb, ltb-true, or_cases}
use Rattle.std.proofs.lemmas.List.{length-drop, length-take, length-take-le}
use Rattle.std.proofs.lemmas.Slice.Eq.{bytes_eq-Decides}
use Rattle.outside.specs.Contents.{AreAlike, Contents, GivesPiece, Stays}
use Rattle.outside.specs.Events.{agreeing, has_piece}

agreeing_if : (b : Bool) (c : Contents) → Stays (Some c) (if b then Some c else None)
agreeing_if true c = refl
agreeing_if false c = tt

pub agreeing_Stays : (name : List ℕ) (at room : ℕ) (piece : List ℕ) (o : Option Contents) → Stays o (option_and_then (agreeing name at room piece) o)
agreeing_Stays name at room piece None = tt
agreeing_Stays name at room piece (Some c) = agreeing_if (has_piece (c.file name) at room piece) c

some_true : (at n k room : ℕ) → (if nat_lt at n then nat_lt 0 k || room == 0 else true) ≡ true → at < n → 0 < room → 0 < k
some_true at n k room e within some =
    let either : nat_lt 0 k || room == 0 ≡ true = rw (lt-ltb at n within) at e in
    elim (or_cases (nat_lt 0 k) (room == 0) either) [
      | inl more ↦ ltb-true 0 k more
      | inr none ↦ let is : room ≡ 0 = eqb-true room 0 none in omega (arith, is)
    ]

has_GivesPiece : (file : Option (List ℕ)) (at room : ℕ) (buf : List ℕ) (k : ℕ) → k ≤ length buf → has_piece file at room (take k buf) ≡ true
    → GivesPiece file at room buf k
has_GivesPiece None at room buf k short has = absurd (cc)
has_GivesPiece (Some bytes) at room buf k short has =
    let both = and_parts _ _ has in
    let n : length (take k buf) ≡ k = length-take-le k buf short in
    let same : take k buf ≡ take k (drop at bytes) = (bytes_eq-Decides (take k buf) (take (length (take k buf)) (drop at bytes))).0 both.0
    ∙ ap (λ m. take m (drop at bytes)) n in
    let within : k ≤ length (drop at bytes) = omega (arith, ap length same, n, length-take k (drop at bytes)) in
    record {
      bytes = bytes;
      there = refl;
      within = within;
      same = same;
      end = λ some. (
        λ none. elim (cases_lt at (length bytes)) [
          | inl inside ↦ let more : 0 < length (take k buf) = some_true at (length bytes) (length (take k buf)) room both.1 inside some in omega (arith, n)
          | inr past ↦ omega arith
        ],
        λ past. omega (arith, within, length-drop at bytes),
      );
    }

gives_if : (b : Bool) (P : Contents → Type 0) (c : Contents) → (b ≡ true → P c) → IfSome (if b then Some c else None) P
gives_if true P c holds = holds refl
gives_if false P c holds = tt

pub agreeing_GivesPiece : (name : List ℕ) (at room : ℕ) (buf : List ℕ) (k : ℕ) (o : Option Contents) → k ≤ length buf
    → IfSome (option_and_then (agreeing name at room (take k buf)) o) (λ c. GivesPiece (c.file name) at room buf k)
agreeing_GivesPiece name at room buf k None short = tt
agreeing_GivesPiece name at room buf k (Some c) short =
    gives_if (has_piece (c.file name) at room (take k buf)) (λ d. GivesPiece (d.file name) at room buf k) c
    (has_GivesPiece (c.file name) at room buf k short)

alike_if : (named : List ℕ → Bool) (b : Bool) (c d : Contents) → AreAlike named (Some c) (Some d)
    → AreAlike named (if b then Some c else None) (if b then Some d else None)
alike_if named true c d alike = alike
alike_if named false c d alike = tt

-- a read of a named file leaves alike what was alike
pub agreeing_AreAlike : (named : List ℕ → Bool) (name : List ℕ) (at room : ℕ) (piece : List ℕ) (o p : Option Contents) → named name ≡ true
    → AreAlike named o p → AreAlike named (option_and_then (agreeing name at room piece) o) (option_and_then (agreeing name at room piece) p)
agreeing_AreAlike named name at room piece None None is alike = tt
agreeing_AreAlike named name at room piece (Some c) (Some d) is alike =
    rw (← alike name is) (alike_if named (has_piece (c.file name) at room piece) c d alike)
agreeing_AreAlike named name at room piece None (Some d) is alike = absurd alike
agreeing_AreAlike named name at room piece (Some c) None is alike = absurd alike
