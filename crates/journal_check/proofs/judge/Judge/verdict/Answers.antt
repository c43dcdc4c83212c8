use Rattle.std.proofs.Common.{refl}
use Rattle.journal_check.proofs.Judged.{no_verdict, yes_verdict}
use Rattle.journal_check.proofs.judge.Judge.verdict.Goals as goal

pub returns-in-Some : goal.returns-in-Some
returns-in-Some c scheduler file count ports judged =
    no_verdict scheduler file c.args.self.now c.in-Some.field-0 c.args.slots count judged (c.in-Some.ensures scheduler file.ports file.rounds)

pub returns-in-None : goal.returns-in-None
returns-in-None c scheduler file count ports judged =
    yes_verdict scheduler file c.args.self.now c.args.slots _ count judged (c.in-None.ensures scheduler file.ports file.rounds)
    (λ noted has. rw (
      ← ports,
      c.longest.ensures noted has,
      c.longest-in-None.ensures noted has,
      c.longest-in-None-2.ensures noted has,
      c.longest-in-None-3.ensures noted has,
    ) refl)
