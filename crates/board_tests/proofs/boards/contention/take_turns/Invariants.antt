use Rattle.turn_lock.specs.Seats.{AreSeats}
use Rattle.board_tests.proofs.boards.contention.take_turns.Given as goal

abbrev pub invariant-loop-turn : goal.invariant-loop-turn
invariant-loop-turn g l = AreSeats l.board l.seats.items
