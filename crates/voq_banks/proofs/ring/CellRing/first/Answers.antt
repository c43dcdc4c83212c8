use Rattle.std.proofs.Common.{◌∙◌, ap, sym, Some, slice_get}
use Rattle.voq_banks.proofs.Queueing.{IsRing-in, queue_of-in, queue_of-first}
use Rattle.voq_banks.proofs.ring.CellRing.first.Goals as goal

pub returns : goal.returns
returns g c =
    let s = c.self.inside in
    let ring = c.in-Some.ring in
    let old = IsRing-in s.depth s.next s.cells s.spare s.ring ring c.in-Some.is c.self.invariant in
    let value = queue_of-in s.depth s.next s.spare s.ring ring _ c.in-Some.is c.self.view_is in
    let cells = ap (λ q. q.cells) value ∙ queue_of-first s.depth s.next s.cells s.spare ring c.in_ok-packet.field-0.now c.in_ok-packet.ensures old in
    ap Some c.cell_of.ensures ∙ ap (λ cs. slice_get cs 0) (sym cells)
