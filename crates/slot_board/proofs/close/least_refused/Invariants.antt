use Rattle.std.proofs.Common.{◌≡◌, take}
use Rattle.slot_board.specs.Boards.{least_refused}
use Rattle.slot_board.proofs.close.least_refused.Given as goal

abbrev pub invariant-loop-seat : goal.invariant-loop-seat
invariant-loop-seat l = l.least ≡ least_refused (take l.seat-index l.seats)
