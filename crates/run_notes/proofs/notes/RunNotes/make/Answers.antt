use Rattle.switch_plan.specs.GoodPlans.{switch_plan_of}
use Rattle.run_notes.proofs.notes.RunNotes.make.Goals as goal

pub returns-clause-noted : goal.returns-clause-noted
returns-clause-noted c = λ scheduler. record {
  good = c.requires.good;
  countable = c.requires.countable;
  burst = c.requires.burst;
  slots = c.lines_for-slots.ensures scheduler (switch_plan_of c.args.plan.now);
  journal = c.in_ok-journal.ensures scheduler;
  reference = c.in_ok-reference.ensures scheduler;
  queues = c.in_ok-queues.ensures scheduler;
  packets = c.in_ok-packets.ensures scheduler;
}
