use Rattle.std.proofs.Common.{arith, sym, ap, ◌∙◌, ◌≡◌, ◌+◌, ◌-◌, ◌*◌, ◌++◌, length, length-drop, take, drop, min}
use Rattle.cell_cutter.specs.Messages.{message_header}
use Rattle.cell_cutter.specs.Cells.{part, padded}
use Rattle.cell_cutter.proofs.Payloads.{length-message_header, part-first, part-later, take_used}
use Rattle.cell_cutter.proofs.cutter.payload_of.Goals as goal

pub returns-then-k-eq0 : goal.returns-then-k-eq0
returns-then-k-eq0 c =
    let p = c.args.packet.now in
    let front = message_header p.seconds p.nanos (length p.bytes.now) p.original in
    let used : c.args.used - 16 ≡ min 40 (length p.bytes.now) = omega (arith, c.requires.used, c.if-k-eq0.true) in
    let first : part c.args.k (front ++ p.bytes.now) ≡ front ++ take 40 p.bytes.now = ap (λ k. part k (front ++ p.bytes.now)) c.if-k-eq0.true
    ∙ part-first front p.bytes.now (length-message_header _ _ _ _) in
    c.first_payload.ensures ∙ (ap (λ b. padded (front ++ b)) (take_used p.bytes.now 40 _ used) ∙ ap padded (sym first))

pub returns-else-k-eq0 : goal.returns-else-k-eq0
returns-else-k-eq0 c =
    let p = c.args.packet.now in
    let front = message_header p.seconds p.nanos (length p.bytes.now) p.original in
    let from : c.from.result * 56 - 16 ≡ 56 * c.args.k - 16 = omega (arith, c.from.ensures) in
    let later : part c.args.k (front ++ p.bytes.now) ≡ take 56 (drop (56 * c.args.k - 16) p.bytes.now) =
    part-later front p.bytes.now c.args.k (length-message_header _ _ _ _) (omega (arith, c.if-k-eq0.false)) in
    let used : c.from.result * 56 - 16 + c.args.used - (c.from.result * 56 - 16) ≡ min 56 (length (drop (c.from.result * 56 - 16) p.bytes.now)) =
    omega (arith, c.requires.used, c.from.ensures, c.if-k-eq0.false, length-drop (c.from.result * 56 - 16) p.bytes.now) in
    c.padded.ensures ∙ (ap padded (take_used _ 56 _ used) ∙ (ap (λ n. padded (take 56 (drop n p.bytes.now))) from ∙ ap padded (sym later)))
