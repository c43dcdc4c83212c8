use Rattle.card_worker.proofs.tests.groups.drive_one.Goals as goal

pub returns : goal.returns
returns c = record { made = c.drive.result; passes = c.drive.ensures.passes }
