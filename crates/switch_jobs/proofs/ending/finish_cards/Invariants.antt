use Rattle.std.proofs.Common.{◌≡◌, ◌≤◌, ◌++◌, length}
use Rattle.std.specs.Prelude.{vec_capacity}
use Rattle.std.specs.Vec.Iter.{into_iter_items, into_iter_len}
use Rattle.switch_jobs.specs.EndingSteps.{AreLeft}
use Rattle.switch_jobs.proofs.ending.finish_cards.Given as goal

abbrev pub invariant-loop-hand : goal.invariant-loop-hand
invariant-loop-hand l = record {
  rest : l.yielded ++ into_iter_items l.hand-iterator ≡ into_iter_items l.initial.hand-iterator;
  left : into_iter_len l.hand-iterator ≡ length (into_iter_items l.hand-iterator);
  outputs : AreLeft l.yielded l.outputs.items;
  room : length l.fn.hands.items ≤ vec_capacity l.outputs;
}
