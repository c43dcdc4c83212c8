use Rattle.journal_check.proofs.Checked.{AreSlotsJudged}
use Rattle.journal_check.proofs.check.judge_slots.Given as goal

abbrev pub invariant-loop-t : goal.invariant-loop-t
invariant-loop-t l = AreSlotsJudged l.initial.judge.scheduler l.header.ports l.header.rounds l.header.slots l.bytes l.t l.at l.judge
