use Rattle.simulated_runs.specs.Numbers.{batch_numbers}
use Rattle.simulated_runs.proofs.Telling.{list-next}
use Rattle.simulated_runs.proofs.told.batches.Goals as goal

pub loop-batch-preserved : goal.loop-batch-preserved
loop-batch-preserved c = λ job t departed.
    list-next (batch_numbers job t) c.loop-batch.batch c.loop-batch.batches.items c.push.new.self.items c.numbers_of_batch.result c.in_ok-push.ensures.items
    (c.loop-batch.invariant job t departed) (c.numbers_of_batch.ensures job t departed)
