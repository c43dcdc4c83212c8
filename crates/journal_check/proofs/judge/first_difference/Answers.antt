use Rattle.std.proofs.Common.{◌≡◌, ◌∙◌, false, length, arith}
use Rattle.std.proofs.lemmas.Grind.{common_steps}
use Rattle.journal_check.specs.Lawful.{differs}
use Rattle.journal_check.proofs.Firsts.{first_later}
use Rattle.journal_check.proofs.judge.first_difference.Goals as goal

pub loop-j-preserved : goal.loop-j-preserved
loop-j-preserved c =
    let no : differs c.args.fed.now c.args.matched.now c.loop-j.j ≡ false =
    grind (arith, common_steps, c.fed.ensures.value, c.differs.ensures, c.if-differs.false) in
    c.loop-j.invariant ∙ first_later (differs c.args.fed.now c.args.matched.now) c.loop-j.j (length c.args.matched.now)
    (omega (arith, c.ports-j-end.ensures.value, c.loop-j-test.true)) no
