-- The cells of a message are of the form of a cell, and have the message's bytes.
use Rattle.std.proofs.Common.{◌≡◌, ℕ, suc, zero, ◌+◌, ◌-◌, ◌*◌, ◌<◌, ◌≤◌, Bool, true, false, List, ◌++◌, length, take, drop, map, min, leb, refl, arith}
use Rattle.std.proofs.Common.{sym, ap, ◌∙◌, subst, inl, inr}
use Rattle.std.proofs.lemmas.Bool.{cases_lt, leb-false, le-leb, lt-leb}
use Rattle.std.specs.List.{range_with_len, flat_map}
use Rattle.std.proofs.lemmas.List.{take_all, drop-drop}
use Rattle.std.proofs.Math.Seq.{take-add}
use Rattle.rotating_pick.specs.declared.kinds.Kind.{Kind}
use Rattle.cell_cutter.specs.Messages.{message, cells_in}
use Rattle.cell_cutter.specs.Cells.{IsCellForm, IsUsed, cell_of, part, used_bytes, cells_of_message}
use Rattle.cell_cutter.proofs.Payloads.{length-part, length-padded, drop-padded, take-padded}

-- a cell is full where the message goes on, and has some byte where it is one of the message's
IsUsed-part : (m k : ℕ) → 56 * k < m → (b : Bool) → leb m (56 * k + 56) ≡ b → IsUsed b (min 56 (m - 56 * k))
IsUsed-part m k some true e = (omega arith, omega arith)
IsUsed-part m k some false e = let more = leb-false _ _ e in omega arith

pub IsCellForm-cell_of : (input level : ℕ) (kind : Kind) (message : List ℕ) (k : ℕ) → input < 64 → level < 4 → length message ≤ 65551
    → k < cells_in (length message) → IsCellForm (cell_of input level kind message k)
IsCellForm-cell_of input level kind message k inputs levels few numbers =
    let few_bytes : length (part k message) ≤ 56 = omega (arith, length-part k message) in
    record {
      input = inputs;
      level = levels;
      used = subst (IsUsed (leb (length message) (56 * k + 56))) (sym (length-part k message)) (IsUsed-part (length message) k (omega arith) _ refl);
      number = omega arith;
      room = length-padded (part k message) few_bytes;
      rest = drop-padded (part k message);
    }

-- whether a message ends with a cell, by the bytes that are left of it
pub last_by_left : (m k left : ℕ) → 56 * k < m → left + 56 * k ≡ m → leb left 56 ≡ leb m (56 * k + 56)
last_by_left m k left some e =
    elim (cases_lt 56 left) [
      | inl more ↦ lt-leb _ _ more ∙ sym (lt-leb m (56 * k + 56) (omega arith))
      | inr few ↦ le-leb _ _ few ∙ sym (le-leb m (56 * k + 56) (omega arith))
    ]

-- the used bytes of n cells from cell a on
joined_from : (input level : ℕ) (kind : Kind) (message : List ℕ) (a n : ℕ)
    → flat_map used_bytes (map (cell_of input level kind message) (range_with_len a n)) ≡ take (56 * n) (drop (56 * a) message)
joined_from input level kind message a zero = refl
joined_from input level kind message a (suc n) =
    let here : used_bytes (cell_of input level kind message a) ≡ part a message = take-padded (part a message) in
    let rest : flat_map used_bytes (map (cell_of input level kind message) (range_with_len (a + 1) n)) ≡ take (56 * n) (drop 56 (drop (56 * a) message)) =
    joined_from input level kind message (a + 1) n ∙ ap (take (56 * n)) (ap (λ m. drop m message) (omega arith) ∙ sym (drop-drop 56 (56 * a) message)) in
    let all : take (56 + 56 * n) (drop (56 * a) message) ≡ take 56 (drop (56 * a) message) ++ take (56 * n) (drop 56 (drop (56 * a) message)) =
    take-add 56 (56 * n) (drop (56 * a) message) in
    let more : 56 * suc n ≡ 56 + 56 * n = omega arith in
    ap (λ xs. xs ++ flat_map used_bytes (map (cell_of input level kind message) (range_with_len (a + 1) n))) here
    ∙ (ap (λ xs. part a message ++ xs) rest ∙ (sym all ∙ ap (λ m. take m (drop (56 * a) message)) (sym more)))

-- the used bytes of all cells of a message are the message
pub cells_join : (input level : ℕ) (kind : Kind) (message : List ℕ) → flat_map used_bytes (cells_of_message input level kind message) ≡ message
cells_join input level kind message =
    joined_from input level kind message 0 (cells_in (length message)) ∙ take_all _ message (omega arith)
