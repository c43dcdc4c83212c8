use Rattle.std.proofs.Common.{not, ap}
use Rattle.std.specs.Bool.{one_answer}
use Rattle.slot_histories.specs.Tests.{keeps_rest}
use Rattle.slot_histories.proofs.KeepingTests.{Decides-keeps_rest}
use Rattle.journal_check.proofs.judge.breaks.Goals as goal

pub returns : goal.returns
returns c = ap not (one_answer c.keeps.result (keeps_rest c.args.count c.args.served c.args.before.now c.args.row.now) c.keeps.ensures
    (Decides-keeps_rest c.args.count c.args.served c.args.before.now c.requires.within c.requires.levels c.args.row.now))
