use Rattle.std.proofs.Common.{◌≡◌, max, take}
use Rattle.std.specs.Prelude.{fold}
use Rattle.queue_measures.specs.Steps.{deepest_in}
use Rattle.queue_measures.proofs.measures.QueueMeasures.deepest.Given as goal

abbrev pub invariant-loop-input : goal.invariant-loop-input
invariant-loop-input l = l.most ≡ fold (λ most input. max most (deepest_in input.numbers)) 0 (take l.input-index l.self)
