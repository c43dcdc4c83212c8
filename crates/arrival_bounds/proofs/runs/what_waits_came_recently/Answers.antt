use Rattle.arrival_bounds.proofs.Recent.{queue_recent, all_recent}
use Rattle.arrival_bounds.proofs.runs.what_waits_came_recently.Goals as goal

pub returns : goal.returns
returns c =
    record {
      queue = λ scheduler plan i j l t most run. queue_recent scheduler plan run most i j l t;
      all = λ scheduler plan most run. all_recent scheduler plan run most;
    }
