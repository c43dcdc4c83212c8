use Rattle.std.proofs.Common.{◌≡◌, ◌≢◌, ◌∙◌, true, refl, ap, slice_set, slice_index, slice_index_or}
use Rattle.std.proofs.lemmas.Bool.{ne_eqb}
use Rattle.card_core.specs.Plans.{size_of}
use Rattle.card_core.specs.Queues.{is_routed}
use Rattle.queue_measures.specs.NotingSteps.{no_numbers}
use Rattle.queue_measures.specs.Steps.{with_packet}
use Rattle.queue_measures.proofs.inputs.count_packet.Goals as goal

pub returns-then-not-is_empty : goal.returns-then-not-is_empty
returns-then-not-is_empty c =
    let p = c.args.arrival.packet in
    let ns = c.args.numbers.now in
    let adm = c.args.arrival.admitted in
    let slot = c.args.slot in
    let at = c.queue_place-place.result in
    let some : p.fan ≢ 0 = λ none. let e = c.is_empty.ensures.zero.1 none in let f = c.if-not-is_empty.true in absurd (cc) in
    let routed : is_routed p ≡ true = rw (ne_eqb p.fan 0 some) refl in
    rw routed
    (ap (slice_set ns at) (c.with_packet-counted.ensures
    ∙ ap (λ n. with_packet slot n adm c.length-length.result (slice_index_or ns at no_numbers)) c.cells_of-cells.ensures
    ∙ ap (λ n. with_packet slot (size_of p) adm n (slice_index_or ns at no_numbers)) c.length-length.ensures)
    ∙ ap (λ place. slice_set ns place (with_packet slot (size_of p) adm (slice_index c.args.queues.now.lengths place) (slice_index_or ns place no_numbers)))
    c.queue_place-place.ensures.place)
