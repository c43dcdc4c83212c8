use Rattle.std.proofs.Common.{◌∙◌, ap}
use Rattle.voq_banks.proofs.Queueing.{IsRing-in, queue_of-in, IsRing-next, queue_of-first, queue_of-next, last-true}
use Rattle.voq_banks.proofs.ring.CellRing.pop.Goals as goal

pub invariant_of-self : goal.invariant_of-self
invariant_of-self g c =
    let s = c.self.inside in
    let ring = c.in-Some.ring in
    let old = IsRing-in s.depth s.next s.cells s.spare s.ring ring c.in-Some.is c.self.invariant in
    let first = c.first-packet.result in
    let end = last-true s.next first c.cell_of-cell.result c.cell_of-cell.ensures c.if-cell.true in
    rw c.pop_front.ensures.items (IsRing-next s.depth s.next s.cells s.spare ring first c.first-packet.ensures end old)

pub returns-then-cell-clause-cells : goal.returns-then-cell-clause-cells
returns-then-cell-clause-cells g c =
    let s = c.self.inside in
    let ring = c.in-Some.ring in
    let old = IsRing-in s.depth s.next s.cells s.spare s.ring ring c.in-Some.is c.self.invariant in
    let value = queue_of-in s.depth s.next s.spare s.ring ring _ c.in-Some.is c.self.view_is in
    let first = c.first-packet.result in
    let end = last-true s.next first c.cell_of-cell.result c.cell_of-cell.ensures c.if-cell.true in
    let next = queue_of-next s.depth s.next s.cells s.spare ring first c.first-packet.ensures end old in
    rw (ap (λ b. b.items) c.pop_front.ensures.items, c.cell_of-cell.ensures) (ap (λ q. q.cells) value ∙ next)

pub returns-else-cell-clause-cells : goal.returns-else-cell-clause-cells
returns-else-cell-clause-cells g c =
    let s = c.self.inside in
    let ring = c.in-Some.ring in
    let old = IsRing-in s.depth s.next s.cells s.spare s.ring ring c.in-Some.is c.self.invariant in
    let value = queue_of-in s.depth s.next s.spare s.ring ring _ c.in-Some.is c.self.view_is in
    rw c.cell_of-cell.ensures
    (ap (λ q. q.cells) value ∙ queue_of-first s.depth s.next s.cells s.spare ring c.first-packet.result c.first-packet.ensures old)
