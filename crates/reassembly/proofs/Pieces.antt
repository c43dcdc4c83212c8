-- The pieces of a flow's cells, with one cell more.
use Rattle.std.proofs.Common.{ℕ, zero, suc, ◌-◌, ◌*◌, ◌<◌, leb, append_assoc, arith, ◌≡◌, ◌+◌, Bool, true, false, cond, List, [], ◌∷◌, ◌++◌, map}
use Rattle.std.proofs.Common.{length, refl, sym, ap, ◌∙◌}
use Rattle.std.proofs.lemmas.List.{append-nil, length_push, map_push}
use Rattle.std.proofs.lemmas.Grind.{flat_map-append}
use Rattle.std.proofs.lemmas.Bool.{le-leb, lt-leb}
use Rattle.std.specs.List.{range_with_len}
use Rattle.rotating_pick.specs.declared.kinds.Kind.{Kind}
use Rattle.cell_cutter.specs.declared.cell.Cell.{Cell}
use Rattle.cell_cutter.specs.Messages.{cells_in}
use Rattle.cell_cutter.proofs.Forms.{cells_join}
use Rattle.cell_cutter.specs.Cells.{used_bytes, cell_of, cells_of_message}
use Rattle.reassembly.specs.Flows.{Flow, fresh, bytes_with, with_cell}
use Rattle.reassembly.specs.Cutting.{pieces_after, rest_after, joined, messages_of, Stands}

-- a function of a choice
ap_cond : {A B : Type 0} (f : A → B) (b : Bool) (x y : A) → f (cond b x y) ≡ cond b (f x) (f y)
ap_cond f true x y = refl
ap_cond f false x y = refl

rest_after-push : (before cells : List Cell) (cell : Cell) → rest_after before (cells ++ cell ∷ []) ≡ cond cell.last [] (rest_after before cells ++ cell ∷ [])
rest_after-push before [] cell = refl
rest_after-push before (c ∷ cs) cell =
    let motive : Bool → Type 0 = λ v. cond v (rest_after [] (cs ++ cell ∷ [])) (rest_after (before ++ c ∷ []) (cs ++ cell ∷ [])) ≡ cond cell.last []
    (cond v (rest_after [] cs) (rest_after (before ++ c ∷ []) cs) ++ cell ∷ []) in
    elim c.last as motive [
      | true ↦ rest_after-push [] cs cell
      | false ↦ rest_after-push (before ++ c ∷ []) cs cell
    ]

pieces_after-push : (before cells : List Cell) (cell : Cell)
    → pieces_after before (cells ++ cell ∷ []) ≡ cond cell.last (pieces_after before cells ++ (rest_after before cells ++ cell ∷ []) ∷ [])
    (pieces_after before cells)
pieces_after-push before [] cell = refl
pieces_after-push before (c ∷ cs) cell =
    let piece : List Cell = before ++ c ∷ [] in
    let pieces : Bool → List (List Cell) = λ v. cond v (piece ∷ pieces_after [] cs) (pieces_after piece cs) in
    let rest : Bool → List Cell = λ v. cond v (rest_after [] cs) (rest_after piece cs) in
    let motive : Bool → Type 0 = λ v. cond v (piece ∷ pieces_after [] (cs ++ cell ∷ [])) (pieces_after piece (cs ++ cell ∷ [])) ≡ cond cell.last
    (pieces v ++ (rest v ++ cell ∷ []) ∷ []) (pieces v) in
    elim c.last as motive [
      | true ↦ ap (λ ps. piece ∷ ps) (pieces_after-push [] cs cell) ∙ ap_cond (λ ps. piece ∷ ps) cell.last _ _
      | false ↦ pieces_after-push piece cs cell
    ]

joined-push : (cells : List Cell) (cell : Cell) → joined (cells ++ cell ∷ []) ≡ joined cells ++ used_bytes cell
joined-push cells cell =
    flat_map-append used_bytes cells (cell ∷ []) ∙ ap (λ b. joined cells ++ b) (append-nil (used_bytes cell))

-- the bytes of a flow's message with one cell more are those of its piece
bytes_with-is : (flow : Flow) (cells : List Cell) (cell : Cell) → Stands flow cells → bytes_with flow cell ≡ joined (rest_after [] cells ++ cell ∷ [])
bytes_with-is flow cells cell stands =
    ap (λ b. b ++ used_bytes cell) stands.bytes ∙ sym (joined-push (rest_after [] cells) cell)

pub Stands-with_cell : (flow : Flow) (cells : List Cell) (cell : Cell) → Stands flow cells → cell.number ≡ flow.next
    → Stands (with_cell flow cell) (cells ++ cell ∷ [])
Stands-with_cell flow cells cell stands next =
    let rest : List Cell = rest_after [] cells in
    let after : Bool → Flow = λ v. cond v (fresh flow.size) (record { size = flow.size; bytes = bytes_with flow cell; next = cell.number + 1 }) in
    let same_bytes : Bool → Type 0 = λ v. (after v).bytes ≡ joined (cond v [] (rest ++ cell ∷ [])) in
    let same_next : Bool → Type 0 = λ v. (after v).next ≡ length (cond v [] (rest ++ cell ∷ [])) in
    let push = sym (rest_after-push [] cells cell) in
    let bytes : same_bytes cell.last = elim cell.last as same_bytes [ true ↦ refl | false ↦ bytes_with-is flow cells cell stands ] in
    let number : same_next cell.last =
    elim cell.last as same_next [ true ↦ refl | false ↦ ap (λ n. n + 1) (next ∙ stands.next) ∙ sym (length_push rest cell) ] in
    record { bytes = bytes ∙ ap joined push; next = number ∙ ap length push }

pub messages_of-push : (flow : Flow) (cells : List Cell) (cell : Cell) → Stands flow cells
    → messages_of (cells ++ cell ∷ []) ≡ cond cell.last (messages_of cells ++ bytes_with flow cell ∷ []) (messages_of cells)
messages_of-push flow cells cell stands =
    let pieces : List (List Cell) = pieces_after [] cells in
    let piece : List Cell = rest_after [] cells ++ cell ∷ [] in
    let more : map joined (pieces ++ piece ∷ []) ≡ map joined pieces ++ bytes_with flow cell ∷ [] = map_push joined pieces piece
    ∙ ap (λ b. map joined pieces ++ b ∷ []) (sym (bytes_with-is flow cells cell stands)) in
    ap (map joined) (pieces_after-push [] cells cell)
    ∙ (ap_cond (map joined) cell.last (pieces ++ piece ∷ []) pieces ∙ ap (λ m. cond cell.last m (map joined pieces)) more)

-- a last cell's message is the next of the flow's messages
pub messages_of-last : (flow : Flow) (cells : List Cell) (cell : Cell) → Stands flow cells → cell.last ≡ true
    → messages_of (cells ++ cell ∷ []) ≡ messages_of cells ++ bytes_with flow cell ∷ []
messages_of-last flow cells cell stands last =
    messages_of-push flow cells cell stands
    ∙ ap (λ v. cond v (messages_of cells ++ bytes_with flow cell ∷ []) (messages_of cells)) last

module _ (input level : ℕ) (kind : Kind) (message : List ℕ) where
  -- the last n + 1 cells of a message are the end of one piece
  piece_from : (before : List Cell) (a n : ℕ) → a + suc n ≡ cells_in (length message)
      → pieces_after before (map (cell_of input level kind message) (range_with_len a (suc n))) ≡
      (before ++ map (cell_of input level kind message) (range_with_len a (suc n))) ∷ []
  piece_from before a zero all =
      let cell : Cell = cell_of input level kind message a in
      let last : leb (length message) (56 * a + 56) ≡ true = le-leb _ _ (omega arith) in
      ap (λ v. cond v ((before ++ cell ∷ []) ∷ []) []) last
  piece_from before a (suc n) all =
      let cell : Cell = cell_of input level kind message a in
      let rest : List Cell = map (cell_of input level kind message) (range_with_len (a + 1) (suc n)) in
      let more : leb (length message) (56 * a + 56) ≡ false = lt-leb _ _ (omega arith) in
      ap (λ v. cond v ((before ++ cell ∷ []) ∷ pieces_after [] rest) (pieces_after (before ++ cell ∷ []) rest)) more
      ∙ (piece_from (before ++ cell ∷ []) (a + 1) n (omega arith) ∙ ap (λ cs. cs ∷ []) (append_assoc before (cell ∷ []) rest))

  -- the cells of a message, put together, are the message
  pub messages_of-cells : 0 < length message → messages_of (cells_of_message input level kind message) ≡ message ∷ []
  messages_of-cells some =
      let count : ℕ = cells_in (length message) - 1 in
      let e : suc count ≡ cells_in (length message) = omega arith in
      let cells : ℕ → List Cell = λ n. map (cell_of input level kind message) (range_with_len 0 n) in
      let one : pieces_after [] (cells (suc count)) ≡ cells (suc count) ∷ [] = piece_from [] 0 count (omega arith) in
      ap (λ n. messages_of (cells n)) (sym e)
      ∙ (ap (map joined) one ∙ (ap (λ n. joined (cells n) ∷ []) e ∙ ap (λ m. m ∷ []) (cells_join input level kind message)))
