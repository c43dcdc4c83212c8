use Rattle.std.proofs.Common.{◌≡◌, ◌∙◌, false, length, arith}
use Rattle.std.proofs.lemmas.Grind.{common_steps}
use Rattle.journal_check.specs.Lawful.{lacks_more}
use Rattle.journal_check.proofs.Firsts.{first_later}
use Rattle.journal_check.proofs.judge.first_without_more.Goals as goal

pub loop-i-preserved : goal.loop-i-preserved
loop-i-preserved c =
    let no : lacks_more c.args.rows.now c.args.more.now c.loop-i.i ≡ false = grind (arith, common_steps, c.lacks_more.ensures, c.if-lacks_more.false) in
    c.loop-i.invariant ∙ first_later (lacks_more c.args.rows.now c.args.more.now) c.loop-i.i (length c.args.rows.now) (omega (arith, c.loop-i-test.true)) no
