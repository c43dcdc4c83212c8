use Rattle.switch_jobs.proofs.runs.run_ready.Goals as goal

pub returns-clause-run : goal.returns-clause-run
returns-clause-run g c = c.run_ready_with.ensures.run

pub returns-clause-tried : goal.returns-clause-tried
returns-clause-tried g c = c.run_ready_with.ensures.tried

pub returns-clause-serves : goal.returns-clause-serves
returns-clause-serves g c = c.run_ready_with.ensures.serves

pub returns-clause-waits : goal.returns-clause-waits
returns-clause-waits g c = c.run_ready_with.ensures.waits

pub returns-clause-completes : goal.returns-clause-completes
returns-clause-completes g c = c.run_ready_with.ensures.completes

pub returns-clause-journal : goal.returns-clause-journal
returns-clause-journal g c = c.run_ready_with.ensures.journal
