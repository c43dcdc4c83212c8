use Rattle.std.proofs.Common.{take, ap, refl, arith}
use Rattle.named_schedulers.specs.Named.{decision_named}
use Rattle.journal_check.proofs.Judged.{before_first, begin_judged, first_rows_within}
use Rattle.journal_check.proofs.judge.Judge.make.Goals as goal

pub returns-clause-judged : goal.returns-clause-judged
returns-clause-judged c =
    begin_judged (decision_named c.args.scheduler) c.args.ports c.args.rounds _
    (before_first c.args.ports _ c.requires.ports_few (ap (take c.args.ports) c.no_rows-rows.ensures) c.new.ensures.value refl c.new-2.ensures.value)
    refl c.in_ok-make.ensures.1

pub returns-clause-ready : goal.returns-clause-ready
returns-clause-ready c = record {
  ports_some = c.requires.ports_some;
  ports_few = c.requires.ports_few;
  rounds_some = c.requires.rounds_some;
  rounds_few = c.requires.rounds_few;
  rounds_are = refl;
  rows = rw c.no_rows-rows.ensures (first_rows_within c.args.ports c.requires.ports_few);
  matched = c.new.ensures.whole.count;
  pointers = c.new-2.ensures.ports;
  meter = c.in_ok-make.ensures.0;
  count = omega (arith, c.in_ok-make.ensures.1.count);
}
