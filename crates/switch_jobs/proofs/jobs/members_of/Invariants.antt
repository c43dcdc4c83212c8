use Rattle.std.proofs.Common.{◌≡◌, ◌+◌, ◌≤◌, ◌++◌, ℕ, Some, length, map}
use Rattle.std.specs.Prelude.{slice_get, vec_capacity}
use Rattle.std.specs.Vec.Iter.{into_iter_items, into_iter_len}
use Rattle.slot_histories.specs.declared.events.Event.{Event}
use Rattle.turn_lock.specs.Seats.{SeatValue, new_seat}
use Rattle.slot_board.specs.Seats.{refusals}
use Rattle.card_core.specs.Plans.{plan_of}
use Rattle.card_worker.specs.declared.hands.Member.{Member}
use Rattle.card_worker.specs.Trying.{IsMember}
use Rattle.switch_jobs.specs.ReadinessSteps.{plans_in}
use Rattle.switch_jobs.proofs.jobs.members_of.Given as goal

abbrev pub invariant-loop-card : goal.invariant-loop-card
invariant-loop-card l = record {
  rest : l.yielded ++ into_iter_items l.card-iterator ≡ into_iter_items l.initial.card-iterator;
  left : into_iter_len l.card-iterator ≡ length (into_iter_items l.card-iterator);
  plans : plans_in l.members.items ≡ map plan_of l.yielded;
  each : (i : ℕ) (member : Member) → slice_get l.members.items i ≡ Some member → IsMember l.board member × (member.seat.number ≡ i);
  fresh : (i : ℕ) (member : Member) → slice_get l.members.items i ≡ Some member → refusals member.seat ≡ 0;
  room : l.board.seats ≤ vec_capacity l.members;
  seats_left : length l.seats.items + length l.yielded ≡ l.board.seats;
  seats_new : (i : ℕ) (s : SeatValue Event) → slice_get l.seats.items i ≡ Some s → s ≡ new_seat l.board (i + length l.yielded);
}
