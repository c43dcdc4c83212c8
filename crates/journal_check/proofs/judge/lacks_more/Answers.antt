use Rattle.std.proofs.Common.{◌≡◌, ◌&&◌, not, Bool, true, false, ap}
use Rattle.std.specs.Bool.{one_answer}
use Rattle.slot_histories.specs.Tests.{is_empty}
use Rattle.slot_histories.proofs.SetTests.{Decides-is_empty}
use Rattle.journal_check.proofs.judge.lacks_more.Goals as goal

lacks : (more r e : Bool) → more ≡ false → r ≡ e → not r ≡ (not more && not e)
lacks true r e silent same = absurd (cc)
lacks false r e silent same = ap not same

pub returns-then-not-more : goal.returns-then-not-more
returns-then-not-more c =
    lacks _ _ _ c.if-not-more.true (one_answer c.is_empty.result (is_empty c.args.row.now) c.is_empty.ensures (Decides-is_empty c.args.row.now))
