use Rattle.std.proofs.Common.{◌≡◌, ◌≤◌, ◌++◌, length}
use Rattle.std.specs.Prelude.{vec_capacity}
use Rattle.std.specs.Vec.Iter.{into_iter_items}
use Rattle.slot_board.proofs.close.turn_seats.Given as goal

abbrev pub invariant-loop-next : goal.invariant-loop-next
invariant-loop-next l = record {
  rest : l.yielded ++ into_iter_items l.next-iterator ≡ into_iter_items l.initial.next-iterator;
  list : l.list.items ≡ l.initial.list.items ++ l.yielded;
  room : length l.fn.seats.items ≤ vec_capacity l.list;
}
