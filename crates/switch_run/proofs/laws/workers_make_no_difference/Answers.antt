use Rattle.switch_run.proofs.OtherWorkers.{same_long_journal, same_long_packets, same_outcome}
use Rattle.switch_run.proofs.laws.workers_make_no_difference.Goals as goal

pub returns : goal.returns
returns c = record { outcome = same_outcome; long_journal = same_long_journal; long_packets = same_long_packets }
