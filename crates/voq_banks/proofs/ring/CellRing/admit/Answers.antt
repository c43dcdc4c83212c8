use Rattle.std.proofs.Common.{◌∙◌, ◌+◌, ◌<◌, ◌≤◌, ap, sym, arith, length}
use Rattle.voq_banks.specs.CellQueues.{queue_with}
use Rattle.voq_banks.proofs.Queueing.{MayEnter, IsRing-in, queue_of-in, items-more, IsRing-more, queue_of-more}
use Rattle.voq_banks.proofs.ring.CellRing.admit.Goals as goal

pub invariant_of-self : goal.invariant_of-self
invariant_of-self g c =
    let s = c.self.inside in
    let ring = c.in-Some.ring in
    let old = IsRing-in s.depth s.next s.cells s.spare s.ring ring c.in-Some.is c.self.invariant in
    let value = queue_of-in s.depth s.next s.spare s.ring ring _ c.in-Some.is c.self.view_is in
    let fits : s.cells + c.args.cells ≤ s.depth = omega (arith, old.queue.counted, ap (λ q. q.depth) value, ap (λ q. length q.cells) value, c.requires.fits) in
    let spare : 0 < s.spare = omega (arith, ap (λ q. q.spare) value, c.requires.spare) in
    let may : MayEnter s.depth s.cells s.spare c.args.cells = record { some = c.requires.some; few = c.requires.few; place = spare; fits = fits } in
    let items = c.push_back.ensures.items ∙ items-more s.depth s.next s.cells s.spare ring _ old may in
    rw items (IsRing-more s.depth s.next s.cells s.spare ring _ old may)

pub returns : goal.returns
returns g c =
    let s = c.self.inside in
    let ring = c.in-Some.ring in
    let old = IsRing-in s.depth s.next s.cells s.spare s.ring ring c.in-Some.is c.self.invariant in
    let value = queue_of-in s.depth s.next s.spare s.ring ring _ c.in-Some.is c.self.view_is in
    let fits : s.cells + c.args.cells ≤ s.depth = omega (arith, old.queue.counted, ap (λ q. q.depth) value, ap (λ q. length q.cells) value, c.requires.fits) in
    let spare : 0 < s.spare = omega (arith, ap (λ q. q.spare) value, c.requires.spare) in
    let may : MayEnter s.depth s.cells s.spare c.args.cells = record { some = c.requires.some; few = c.requires.few; place = spare; fits = fits } in
    let items = c.push_back.ensures.items ∙ items-more s.depth s.next s.cells s.spare ring _ old may in
    rw items
    (queue_of-more s.depth s.next s.cells s.spare ring _ old ∙ ap (λ q. queue_with q c.args.packet c.args.cells c.args.fan) (sym value))
