use Rattle.switch_jobs.proofs.workers.drive_one.Goals as goal

pub returns : goal.returns
returns g c = record { made = c.drive.result; passes = c.drive.ensures.passes }
