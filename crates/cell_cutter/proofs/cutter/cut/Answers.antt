use Rattle.std.proofs.Common.{arith, subst, sym, ◌≡◌, ◌+◌, ◌-◌, ◌*◌, ◌<◌, length, leb}
use Rattle.cell_cutter.specs.Messages.{message}
use Rattle.cell_cutter.specs.Cells.{IsCellForm, cell_of, part}
use Rattle.cell_cutter.specs.declared.cell.Cell.{Cell}
use Rattle.cell_cutter.proofs.Payloads.{length-message, length-part}
use Rattle.cell_cutter.proofs.Forms.{IsCellForm-cell_of, last_by_left}
use Rattle.cell_cutter.proofs.cutter.cut.Goals as goal

-- the cell that is made is the one that the message has
is_cell : (c : goal.After-payload_of) → ◌≡◌ {A = Cell} (record {
  input = c.args.packet.now.input;
  level = c.args.packet.now.level;
  kind = c.args.packet.now.kind;
  last = leb (16 + length c.args.packet.now.bytes.now - c.from.result * 56) 56;
  used = c.min-used.result;
  number = c.args.k;
  payload = c.payload_of.result;
}) (cell_of c.args.packet.now.input c.args.packet.now.level c.args.packet.now.kind
    (message c.args.packet.now.seconds c.args.packet.now.nanos c.args.packet.now.original c.args.packet.now.bytes.now) c.args.k)
is_cell c =
    let p = c.args.packet.now in
    let all = message p.seconds p.nanos p.original p.bytes.now in
    let len : length all ≡ 16 + length p.bytes.now = length-message p.seconds p.nanos p.original p.bytes.now in
    let some : 56 * c.args.k < length all = omega (arith, c.requires.number) in
    let left : 16 + length p.bytes.now - c.from.result * 56 + 56 * c.args.k ≡ length all = omega (arith, c.from.ensures) in
    let used : c.min-used.result ≡ length (part c.args.k all) = omega (arith, c.min-used.ensures, c.from.ensures, length-part c.args.k all) in
    let last = last_by_left (length all) c.args.k _ some left in
    λ j. record {
      input = p.input;
      level = p.level;
      kind = p.kind;
      last = last j;
      used = used j;
      number = c.args.k;
      payload = c.payload_of.ensures j;
    }

pub returns-clause-cell : goal.returns-clause-cell
returns-clause-cell c = is_cell c

pub returns-clause-form : goal.returns-clause-form
returns-clause-form c =
    let p = c.args.packet.now in
    let all = message p.seconds p.nanos p.original p.bytes.now in
    let len : length all ≡ 16 + length p.bytes.now = length-message p.seconds p.nanos p.original p.bytes.now in
    subst IsCellForm (sym (is_cell c))
    (IsCellForm-cell_of p.input p.level p.kind all c.args.k (omega (arith, c.requires.input)) (omega (arith, c.requires.level))
    (omega (arith, c.requires.len)) (omega (arith, c.requires.number)))
