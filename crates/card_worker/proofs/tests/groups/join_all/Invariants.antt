use Rattle.std.proofs.Common.{◌≡◌, ◌+◌, ◌<◌, ℕ, Some, length}
use Rattle.std.specs.Prelude.{slice_get}
use Rattle.slot_histories.specs.declared.events.Event.{Event}
use Rattle.turn_lock.specs.Seats.{SeatValue, new_seat}
use Rattle.card_worker.specs.Groups.{AreGroups}
use Rattle.card_worker.proofs.tests.groups.join_all.Given as goal

abbrev pub invariant-loop-card : goal.invariant-loop-card
invariant-loop-card l = record {
  groups : AreGroups l.board l.card l.groups.items;
  some : 0 < length l.groups.items;
  left : length l.seats.items + l.card ≡ l.board.seats;
  seats : (i : ℕ) (s : SeatValue Event) → slice_get l.seats.items i ≡ Some s → s ≡ new_seat l.board (i + l.card);
}
