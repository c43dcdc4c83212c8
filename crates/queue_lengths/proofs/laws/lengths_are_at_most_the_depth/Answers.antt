use Rattle.queue_lengths.proofs.Lengths.{before_few, in_few}
use Rattle.queue_lengths.proofs.laws.lengths_are_at_most_the_depth.Goals as goal

pub returns-clause-before : goal.returns-clause-before
returns-clause-before c plan q served t good = before_few plan q good served t

pub returns-clause-with_arrival : goal.returns-clause-with_arrival
returns-clause-with_arrival c plan q served t good = in_few plan q good served t
