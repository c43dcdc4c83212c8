use Rattle.std.proofs.Common.{◌<◌, ◌≤◌, ℕ}
use Rattle.std.specs.Prelude.{vec_capacity}
use Rattle.card_worker.specs.declared.hands.Member.{Member}
use Rattle.card_worker.specs.Disbanding.{IsAmong, HasCard, AreFrom}
use Rattle.card_worker.proofs.disbandment.disband.Given as goal

abbrev pub invariant-loop-card : goal.invariant-loop-card
invariant-loop-card l = record {
  from : AreFrom l.fn.groups.items l.seats.items l.hands.items l.card;
  left : (m : Member) → IsAmong m l.groups.items → IsAmong m l.fn.groups.items;
  waiting : (i : ℕ) → l.card ≤ i → i < l.count → HasCard l.groups.items i;
  seat_room : l.count ≤ vec_capacity l.seats;
  hand_room : l.count ≤ vec_capacity l.hands;
}
