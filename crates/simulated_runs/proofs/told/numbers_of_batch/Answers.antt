use Rattle.simulated_runs.proofs.Telling.{batch-is}
use Rattle.simulated_runs.proofs.told.numbers_of_batch.Goals as goal

pub returns : goal.returns
returns c = λ job t has. batch-is job t c.args.batch c.args.departed.now has (record { departed = c.departed.result; delays = c.delays.result })
    c.requires.delays c.requires.counts c.departed.ensures c.delays.ensures
