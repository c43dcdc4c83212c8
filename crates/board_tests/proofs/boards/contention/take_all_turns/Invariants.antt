use Rattle.turn_lock.specs.Seats.{AreSeats}
use Rattle.board_tests.proofs.boards.contention.take_all_turns.Given as goal

abbrev pub invariant-loop-turns : goal.invariant-loop-turns
invariant-loop-turns g l = AreSeats l.board l.seats.items
