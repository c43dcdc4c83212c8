use Rattle.std.proofs.Common.{◌≡◌, ◌∙◌, false, length, arith}
use Rattle.std.proofs.lemmas.Grind.{common_steps}
use Rattle.journal_check.specs.Lawful.{breaks}
use Rattle.journal_check.proofs.Firsts.{first_later}
use Rattle.journal_check.proofs.judge.first_to_break.Goals as goal

pub loop-i-preserved : goal.loop-i-preserved
loop-i-preserved c =
    let no : breaks (length c.args.rows.now) c.args.matched.now c.args.before.now c.args.rows.now c.loop-i.i ≡ false =
    grind (arith, common_steps, c.served.ensures.value, c.breaks.ensures, c.if-breaks.false) in
    c.loop-i.invariant ∙ first_later (breaks (length c.args.rows.now) c.args.matched.now c.args.before.now c.args.rows.now) c.loop-i.i
    (length c.args.rows.now) (omega (arith, c.loop-i-test.true)) no
