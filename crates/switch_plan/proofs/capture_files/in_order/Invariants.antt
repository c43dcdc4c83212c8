use Rattle.std.proofs.Common.{◌≡◌, ◌++◌, length}
use Rattle.std.specs.Prelude.{map}
use Rattle.std.specs.Vec.Iter.{into_iter_items, into_iter_len}
use Rattle.switch_plan.proofs.Answered.{read_as}
use Rattle.switch_plan.proofs.capture_files.in_order.Given as goal

abbrev pub invariant-loop-answer : goal.invariant-loop-answer
invariant-loop-answer l = record {
  rest : l.yielded ++ into_iter_items l.answer-iterator ≡ into_iter_items l.initial.answer-iterator;
  left : into_iter_len l.answer-iterator ≡ length (into_iter_items l.answer-iterator);
  read : map read_as l.captures.items ≡ l.yielded;
}
