use Rattle.std.proofs.Common.{arith}
use Rattle.journal_check.proofs.Written.{post_long}
use Rattle.journal_check.proofs.bytes.post_len.Goals as goal

pub returns-clause-value : goal.returns-clause-value
returns-clause-value c = omega (arith, post_long c.args.post.now.row c.args.post.now.more, c.sets_len.ensures.value, c.sets_len-2.ensures.value)
