use Rattle.std.proofs.Common.{◌≡◌, max, take}
use Rattle.std.specs.Prelude.{fold}
use Rattle.queue_measures.proofs.inputs.Input.deepest.Given as goal

abbrev pub invariant-loop-numbers : goal.invariant-loop-numbers
invariant-loop-numbers l = l.most ≡ fold (λ most queue. max most queue.peak) 0 (take l.numbers-index l.self.numbers)
