-- A file that is given piece by piece.
use Rattle.std.proofs.Common.{◌≡◌, ◌↔◌, ◌∙◌, ℕ, ◌≤◌, List, [], ◌++◌, length, take, sym, ap, arith, true, if◌then◌else◌, length-append, length-take}
use Rattle.std.specs.List.{flat_map}
use Rattle.packet_times.specs.Rows.{row_text, header}
use Rattle.packet_times.specs.KeptSteps.{Pieces, left, rows_left}

-- where the header was given, the rows are left
pub left-rows : (pieces : Pieces) → pieces.began ≡ true → left pieces ≡ flat_map row_text (rows_left pieces.times pieces.walk)
left-rows pieces began = ap (λ b. (if b then [] else header) ++ flat_map row_text (rows_left pieces.times pieces.walk)) began

-- where nothing is put only at the end, all of the text is there when nothing is put
pub put-ends : (at : ℕ) (buf rest all : List ℕ) → all ≡ take at buf ++ rest → at ≤ length buf → (at ≡ 0 → rest ≡ []) → (at ≡ 0) ↔ (all ≡ [])
put-ends at buf rest all is inside none = (
  (λ zero. is ∙ ap (λ n. take n buf ++ rest) zero ∙ none zero),
  (λ nil. omega (arith, length-take at buf, length-append (take at buf) rest, ap length (sym is ∙ nil))),
)
