-- The least of the due cards' refused tries, card after card.
use Rattle.std.proofs.Common.{◌≡◌, ℕ, ◌-◌, ◌^◌, min, cond, Bool, true, false, List, [], ◌∷◌, ◌++◌, map, arith}
use Rattle.std.specs.Prelude.{if◌then◌else◌}
use Rattle.std.specs.List.{filter}
use Rattle.slot_histories.specs.declared.events.Event.{Event}
use Rattle.turn_lock.specs.Seats.{SeatValue}
use Rattle.slot_board.specs.Seats.{refusals, is_due, due_tries}
use Rattle.slot_board.specs.Boards.{least_of, least_refused}

last_one : (due : Bool) (seat : SeatValue Event)
    → least_of (map refusals (cond due (seat ∷ []) [])) ≡ min (2 ^ 64 - 1) (if due then min (refusals seat) (2 ^ 64 - 1) else 2 ^ 64 - 1)
last_one true seat = omega arith
last_one false seat = omega arith

one_before : (due : Bool) (first : SeatValue Event) (fewer more : List (SeatValue Event)) (tries : ℕ)
    → least_of (map refusals more) ≡ min (least_of (map refusals fewer)) tries
    → least_of (map refusals (cond due (first ∷ more) more)) ≡ min (least_of (map refusals (cond due (first ∷ fewer) fewer))) tries
one_before true first fewer more tries is = omega arith
one_before false first fewer more tries is = is

-- one seat more
pub least_refused-snoc : (seats : List (SeatValue Event)) (seat : SeatValue Event)
    → least_refused (seats ++ seat ∷ []) ≡ min (least_refused seats) (due_tries seat)
least_refused-snoc [] seat = last_one (is_due seat) seat
least_refused-snoc (first ∷ seats) seat = one_before (is_due first) first (filter is_due seats) (filter is_due (seats ++ seat ∷ [])) (due_tries seat)
    (least_refused-snoc seats seat)
