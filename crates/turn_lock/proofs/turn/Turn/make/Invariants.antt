use Rattle.std.proofs.Common.{◌≡◌, ◌+◌, [], length, ℕ, Some}
use Rattle.std.specs.Prelude.{slice_get}
use Rattle.turn_lock.specs.Openings.{opening}
use Rattle.turn_lock.specs.Seats.{new_seat, turn_value}
use Rattle.turn_lock.specs.Views.{newcomer}
use Rattle.turn_lock.proofs.turn.Turn.make.Given as goal

abbrev pub invariant-loop : goal.invariant-loop
invariant-loop g l =
    let key = l.table.shared.key in
    let o = opening g.K.Kept.entries g.K.Kept.numbers key.value.value key.seats in
    record {
      count : length l.all.items + 1 ≡ l.counter;
      dealer : l.dealer.me ≡ (record (newcomer o) { given = l.counter }, []);
      table : l.dealer.table_id ≡ l.table.shared.table_id;
      others : (i : ℕ) (s : _) → slice_get l.all.items i ≡ Some s → s ≡ new_seat (turn_value l.table.shared.table_id o) (i + 1);
    }
