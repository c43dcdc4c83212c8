-- A first part of the cells of a flow: its messages, and which cell comes next.
use Rattle.std.proofs.Common.{◌≡◌, ◌∙◌, ℕ, zero, suc, ◌+◌, ◌-◌, ◌*◌, ◌<◌, Bool, true, false, cond, List, [], ◌∷◌, ◌++◌, map, length, refl, sym, ap}
use Rattle.std.proofs.Common.{subst, arith}
use Rattle.std.specs.List.{range_with_len, flat_map}
use Rattle.std.proofs.lemmas.Bool.{le-leb, lt-leb}
use Rattle.std.proofs.lemmas.List.{map-append}
use Rattle.std.proofs.lemmas.List.FromFn.{map-range_with_len_more}
use Rattle.rotating_pick.specs.declared.kinds.Kind.{Kind}
use Rattle.cell_cutter.specs.declared.cell.Cell.{Cell}
use Rattle.cell_cutter.specs.Messages.{cells_in}
use Rattle.cell_cutter.specs.Cells.{cell_of, cells_of_message}
use Rattle.reassembly.specs.Cutting.{pieces_after, rest_after, joined, messages_of}

-- ---- the messages of a first part are first
pieces_after-append : (before xs ys : List Cell) → pieces_after before (xs ++ ys) ≡ pieces_after before xs ++ pieces_after (rest_after before xs) ys
pieces_after-append before [] ys = refl
pieces_after-append before (c ∷ xs) ys =
    let piece : List Cell = before ++ c ∷ [] in
    let motive : Bool → Type 0 = λ v. cond v (piece ∷ pieces_after [] (xs ++ ys)) (pieces_after piece (xs ++ ys)) ≡ cond v (piece ∷ pieces_after [] xs)
    (pieces_after piece xs) ++ pieces_after (cond v (rest_after [] xs) (rest_after piece xs)) ys in
    elim c.last as motive [
      | true ↦ ap (λ ps. piece ∷ ps) (pieces_after-append [] xs ys)
      | false ↦ pieces_after-append piece xs ys
    ]

pub messages_of-append : (xs ys : List Cell) → messages_of (xs ++ ys) ≡ messages_of xs ++ map joined (pieces_after (rest_after [] xs) ys)
messages_of-append xs ys =
    ap (map joined) (pieces_after-append [] xs ys) ∙ map-append joined (pieces_after [] xs) (pieces_after (rest_after [] xs) ys)

head_is : (c d : Cell) (xs ys : List Cell) → c ∷ xs ≡ d ∷ ys → c ≡ d
head_is c d xs ys is = cc

tail_is : (c d : Cell) (xs ys : List Cell) → c ∷ xs ≡ d ∷ ys → xs ≡ ys
tail_is c d xs ys is = cc

not_nil : (xs ys : List Cell) (c : Cell) → xs ++ c ∷ ys ≡ [] → ⊥
not_nil [] ys c is = cc
not_nil (x ∷ xs) ys c is = cc

-- ---- the next cell, where all are the cells of some messages
-- each of the messages has bytes, and P holds of it
abbrev pub AllHold : (List ℕ → Type 0) → List (List ℕ) → Type 0
AllHold P [] = Unit {0}
AllHold P (m ∷ ms) = P m × (0 < length m) × AllHold P ms

module _ (input level : ℕ) (kind : Kind) (P : List ℕ → Type 0) where
  abbrev own_cells : List ℕ → ℕ → ℕ → List Cell
  own_cells message a n = map (cell_of input level kind message) (range_with_len a n)

  -- The cell is of a message, and the cells that stand are those before it.
  pub record IsNextOf (stand : List Cell) (cell : Cell) : Type 0 where
    pub message : List ℕ
    pub holds : P message
    pub number : ℕ
    pub few : number < cells_in (length message)
    pub is : cell ≡ cell_of input level kind message number
    pub begun : stand ≡ map (cell_of input level kind message) (range_with_len 0 number)

  abbrev Goes : List Cell → Cell → List Cell → Type 0
  Goes cells cell rest = (begun : List Cell) (m : List ℕ) (ms : List (List ℕ)) (a n : ℕ) → P m → AllHold P ms → a + suc n ≡ cells_in (length m)
      → begun ≡ own_cells m 0 a → cells ++ cell ∷ rest ≡ own_cells m a (suc n) ++ flat_map (cells_of_message input level kind) ms
      → IsNextOf (rest_after begun cells) cell

  next_message : (cells : List Cell) (cell : Cell) (rest : List Cell) → Goes cells cell rest → (ms : List (List ℕ)) → AllHold P ms
      → cells ++ cell ∷ rest ≡ flat_map (cells_of_message input level kind) ms → IsNextOf (rest_after [] cells) cell
  next_message cells cell rest goes [] all is = absurd (not_nil cells rest cell is)
  next_message cells cell rest goes (m ∷ ms) all is =
      let count : suc (cells_in (length m) - 1) ≡ cells_in (length m) = omega (arith, all.1) in
      goes [] m ms 0 (cells_in (length m) - 1) all.0 all.2 (omega (arith, count)) refl
      (is ∙ ap (λ n. own_cells m 0 n ++ flat_map (cells_of_message input level kind) ms) (sym count))

  next_none : (cell : Cell) (rest : List Cell) → Goes [] cell rest
  next_none cell rest begun m ms a n holds all count is was = record {
    message = m;
    holds = holds;
    number = a;
    few = omega (arith, count);
    is = head_is cell (cell_of input level kind m a) rest (own_cells m (a + 1) n ++ flat_map (cells_of_message input level kind) ms) was;
    begun = is;
  }

  next_one : (c : Cell) (cells : List Cell) (cell : Cell) (rest : List Cell) → Goes cells cell rest → Goes (c ∷ cells) cell rest
  next_one c cells cell rest goes begun m ms a zero holds all count is was =
      let here = head_is c (cell_of input level kind m a) (cells ++ cell ∷ rest) (flat_map (cells_of_message input level kind) ms) was in
      let last : c.last ≡ true = ap (λ (x : Cell). x.last) here ∙ le-leb (length m) (56 * a + 56) (omega (arith, count)) in
      let more = tail_is c (cell_of input level kind m a) (cells ++ cell ∷ rest) (flat_map (cells_of_message input level kind) ms) was in
      subst (λ v. IsNextOf (cond v (rest_after [] cells) (rest_after (begun ++ c ∷ []) cells)) cell) (sym last) (next_message cells cell rest goes ms all more)
  next_one c cells cell rest goes begun m ms a (suc n) holds all count is was =
      let others = own_cells m (a + 1) (suc n) ++ flat_map (cells_of_message input level kind) ms in
      let here = head_is c (cell_of input level kind m a) (cells ++ cell ∷ rest) others was in
      let on : c.last ≡ false = ap (λ (x : Cell). x.last) here ∙ lt-leb (length m) (56 * a + 56) (omega (arith, count)) in
      let more = tail_is c (cell_of input level kind m a) (cells ++ cell ∷ rest) others was in
      let begun' : begun ++ c ∷ [] ≡ own_cells m 0 (a + 1) = ap (λ xs. xs ++ c ∷ []) is ∙ ap (λ x. own_cells m 0 a ++ x ∷ []) here
      ∙ sym (map-range_with_len_more (cell_of input level kind m) 0 a a (omega arith)) in
      subst (λ v. IsNextOf (cond v (rest_after [] cells) (rest_after (begun ++ c ∷ []) cells)) cell) (sym on)
      (goes (begun ++ c ∷ []) m ms (a + 1) n holds all (omega (arith, count)) begun' more)

  next_from : (cells : List Cell) (cell : Cell) (rest : List Cell) → Goes cells cell rest
  next_from [] cell rest = next_none cell rest
  next_from (c ∷ cells) cell rest = next_one c cells cell rest (next_from cells cell rest)

  pub next_is : (cells : List Cell) (cell : Cell) (rest : List Cell) (ms : List (List ℕ)) → AllHold P ms
      → cells ++ cell ∷ rest ≡ flat_map (cells_of_message input level kind) ms
      → IsNextOf (rest_after [] cells) cell
  next_is cells cell rest ms all is = next_message cells cell rest (next_from cells cell rest) ms all is
