use Rattle.card_core.proofs.Sets.{more-is}
use Rattle.card_core.proofs.posts.is_more.Goals as goal

pub returns-else-next-packets : goal.returns-else-next-packets
returns-else-next-packets c = more-is c.args.next c.args.packets c.args.row.now c.is_empty.result c.if-next-packets.false c.is_empty.ensures
