use Rattle.std.proofs.Common.{◌≡◌, ◌++◌, length}
use Rattle.std.specs.Prelude.{map, Ok}
use Rattle.std.specs.Vec.Iter.{into_iter_items, into_iter_len}
use Rattle.switch_plan.proofs.port_plans.in_order.Given as goal

abbrev pub invariant-loop-answer : goal.invariant-loop-answer
invariant-loop-answer l = record {
  rest : l.yielded ++ into_iter_items l.answer-iterator ≡ into_iter_items l.initial.answer-iterator;
  left : into_iter_len l.answer-iterator ≡ length (into_iter_items l.answer-iterator);
  made : map (λ port. Ok port) l.ports.items ≡ l.yielded;
}
