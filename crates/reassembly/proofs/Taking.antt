-- A flow takes the cells of a message, one after the other.
use Rattle.std.proofs.Common.{◌≡◌, ◌∙◌, ℕ, ◌+◌, ◌*◌, ◌<◌, ◌≤◌, true, false, cond, leb, List, ◌++◌, length, length-append}
use Rattle.std.proofs.Common.{take, ap, sym, arith}
use Rattle.std.proofs.lemmas.Bool.{le-leb, lt-leb}
use Rattle.std.proofs.lemmas.List.{take_all, length-take}
use Rattle.std.proofs.Math.Seq.{take-add}
use Rattle.rotating_pick.specs.declared.kinds.Kind.{Kind}
use Rattle.cell_cutter.specs.declared.cell.Cell.{Cell}
use Rattle.cell_cutter.specs.Messages.{cells_in}
use Rattle.cell_cutter.specs.Cells.{cell_of, part}
use Rattle.cell_cutter.proofs.Forms.{IsCellForm-cell_of}
use Rattle.cell_cutter.proofs.Payloads.{take-padded}
use Rattle.reassembly.specs.Flows.{Flows, Fits, fresh, flow_of, bytes_with, with_cell}
use Rattle.reassembly.specs.Filling.{begun_with}

-- what stands of a message with cell k: its bytes up to the end of the cell
bytes-more : (size input level k : ℕ) (kind : Kind) (message : List ℕ)
    → bytes_with (begun_with size message k) (cell_of input level kind message k) ≡ take (56 * k + 56) message
bytes-more size input level k kind message =
    ap (λ bytes. take (56 * k) message ++ bytes) (take-padded (part k message)) ∙ sym (take-add (56 * k) 56 message)

-- cell k of a message may come, of a flow that has room for the message
pub record MayCome (all : Flows) (size input level k : ℕ) (message : List ℕ) : Type 0 where
  pub ports : all.ports ≤ 64
  pub input_in : input < all.ports
  pub level_in : level < 4
  pub few : length message ≤ 65551
  pub room : length message ≤ size
  pub more : k < cells_in (length message)

-- it fits where the cells before it stand
pub Fits-next : (all : Flows) (size input level k : ℕ) (kind : Kind) (message : List ℕ) → MayCome all size input level k message
    → flow_of all (cell_of input level kind message k) ≡ begun_with size message k → Fits all (cell_of input level kind message k)
Fits-next all size input level k kind message may stands =
    let cell : Cell = cell_of input level kind message k in
    let count : length (take (56 * k) message) + length (part k message) ≡ length (take (56 * k + 56) message) =
    sym (length-append (take (56 * k) message) (part k message)) ∙ ap length (sym (take-add (56 * k) 56 message)) in
    record {
      form = IsCellForm-cell_of input level kind message k (omega (arith, may.ports, may.input_in)) may.level_in may.few may.more;
      input = may.input_in;
      next = sym (ap (λ f. f.next) stands);
      room = omega (arith, ap (λ f. length f.bytes) stands, ap (λ f. f.size) stands, count, length-take (56 * k + 56) message, may.room);
    }

-- with a cell that is not the last, one cell more stands
pub with_cell-more : (size input level k : ℕ) (kind : Kind) (message : List ℕ) → k + 1 < cells_in (length message)
    → with_cell (begun_with size message k) (cell_of input level kind message k) ≡ begun_with size message (k + 1)
with_cell-more size input level k kind message more =
    let on : leb (length message) (56 * k + 56) ≡ false = lt-leb _ _ (omega arith) in
    let bytes : bytes_with (begun_with size message k) (cell_of input level kind message k) ≡ take (56 * (k + 1)) message =
    bytes-more size input level k kind message ∙ ap (λ n. take n message) (omega arith) in
    ap (λ v. cond v (fresh size) (record { size = size; bytes = bytes_with (begun_with size message k) (cell_of input level kind message k); next = k + 1 })) on
    ∙ ap (λ b. record { size = size; bytes = b; next = k + 1 }) bytes

-- with the last one, the message is whole, and nothing stands of the next
pub with_cell-last : (size input level k : ℕ) (kind : Kind) (message : List ℕ) → k + 1 ≡ cells_in (length message)
    → with_cell (begun_with size message k) (cell_of input level kind message k) ≡ fresh size
with_cell-last size input level k kind message last =
    let end : leb (length message) (56 * k + 56) ≡ true = le-leb _ _ (omega arith) in
    ap (λ v. cond v (fresh size)
    (record { size = size; bytes = bytes_with (begun_with size message k) (cell_of input level kind message k); next = k + 1 })) end

pub bytes-last : (size input level k : ℕ) (kind : Kind) (message : List ℕ) → k + 1 ≡ cells_in (length message)
    → bytes_with (begun_with size message k) (cell_of input level kind message k) ≡ message
bytes-last size input level k kind message last =
    bytes-more size input level k kind message ∙ take_all (56 * k + 56) message (omega arith)

-- a cell is marked last exactly where the message ends with it
pub last-more : (input level k : ℕ) (kind : Kind) (message : List ℕ) → k + 1 < cells_in (length message) → (cell_of input level kind message k).last ≡ false
last-more input level k kind message more = lt-leb _ _ (omega arith)

pub last-end : (input level k : ℕ) (kind : Kind) (message : List ℕ) → k + 1 ≡ cells_in (length message) → (cell_of input level kind message k).last ≡ true
last-end input level k kind message end = le-leb _ _ (omega arith)
