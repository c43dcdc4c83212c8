use Rattle.journal_check.proofs.Written.{post_spelled}
use Rattle.journal_check.proofs.bytes.put_post.Goals as goal

pub returns : goal.returns
returns c =
    rw (
      c.in_ok-put_sets-2.ensures,
      c.in_ok-put_sets.ensures,
      c.in_ok-push-2.ensures.items,
      c.in_ok-push.ensures.items,
      c.sets_there.ensures,
      c.flag.ensures,
    )
    (post_spelled c.args.row.now c.args.more c.args.text.now.items)
