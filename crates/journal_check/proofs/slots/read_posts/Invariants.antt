use Rattle.journal_check.proofs.SlotLoops.{ArePostsRead}
use Rattle.journal_check.proofs.slots.read_posts.Given as goal

abbrev pub invariant-loop-i : goal.invariant-loop-i
invariant-loop-i l = ArePostsRead l.ports l.bytes l.fn.at l.i l.next l.rows l.more
