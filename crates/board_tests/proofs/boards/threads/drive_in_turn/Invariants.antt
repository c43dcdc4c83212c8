use Rattle.turn_lock.specs.Seats.{AreSeats}
use Rattle.board_tests.proofs.boards.threads.drive_in_turn.Given as goal

abbrev pub invariant-loop : goal.invariant-loop
invariant-loop l = AreSeats l.board l.seats.items

abbrev pub invariant-loop-card : goal.invariant-loop-card
invariant-loop-card l = AreSeats l.board l.seats.items
