use Rattle.std.proofs.Common.{◌∙◌, length, sym}
use Rattle.std.proofs.lemmas.Bool.{ltb-false}
use Rattle.card_core.proofs.Sets.{more-is}
use Rattle.descriptor_runs.proofs.posts.has_more.Goals as goal

pub returns-else-has_next : goal.returns-else-has_next
returns-else-has_next c =
    let next = c.args.input.now.next in
    let packets = length c.args.input.now.plan.packets in
    more-is next packets c.args.row.now c.is_empty.result (ltb-false next packets (sym c.has_next.ensures ∙ c.if-has_next.false)) c.is_empty.ensures
