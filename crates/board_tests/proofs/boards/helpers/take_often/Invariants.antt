use Rattle.turn_lock.specs.Seats.{AreSeats}
use Rattle.board_tests.proofs.boards.helpers.take_often.Given as goal

abbrev pub invariant-loop : goal.invariant-loop
invariant-loop l = AreSeats l.board l.seats.items
