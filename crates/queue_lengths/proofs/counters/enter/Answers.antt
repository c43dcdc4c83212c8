use Rattle.std.proofs.Common.{◌≢◌, ◌∙◌, ◌-◌, nat_le, slice_index}
use Rattle.queue_lengths.proofs.Entering.{enters_from}
use Rattle.queue_lengths.proofs.counters.enter.Goals as goal

pub returns-then-fits-clause-test : goal.returns-then-fits-clause-test
returns-then-fits-clause-test c =
    let some : c.args.packet.fan ≢ 0 = λ none. let yes' = c.is_empty.ensures.zero.1 none in absurd (cc) in
    (λ i. nat_le (c.cells_of-cells.ensures i) (c.args.depth - slice_index c.args.lengths.now (c.queue_place-place.ensures.place i)))
    ∙ enters_from c.args.ports c.args.depth c.args.lengths.now c.args.packet some c.requires.few

pub returns-else-fits-clause-test : goal.returns-else-fits-clause-test
returns-else-fits-clause-test c =
    let some : c.args.packet.fan ≢ 0 = λ none. let yes' = c.is_empty.ensures.zero.1 none in absurd (cc) in
    (λ i. nat_le (c.cells_of-cells.ensures i) (c.args.depth - slice_index c.args.lengths.now (c.queue_place-place.ensures.place i)))
    ∙ enters_from c.args.ports c.args.depth c.args.lengths.now c.args.packet some c.requires.few
