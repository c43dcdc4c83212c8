-- What each step makes of a seat's view.
use Rattle.std.specs.Prelude.{◌≡◌, ◌<◌, ◌+◌, ◌++◌, ℕ, false, true, List, [], ◌∷◌, length}
use Rattle.atomic_table.specs.Table.{Me}
use Rattle.atomic_table.specs.Seated.{TableId}
use Rattle.turn_lock.specs.declared.history.TurnOf.{TurnOf}
use Rattle.turn_lock.specs.declared.history.Opening.{Opening}
use Rattle.turn_lock.specs.declared.view.View.{View}
use Rattle.turn_lock.specs.declared.view.JoinedSeat.{JoinedSeat}
use Rattle.turn_lock.specs.declared.view.Phase.{Phase}
use Rattle.turn_lock.specs.declared.view.Phase.TheVariants.{Idle, Begun, Raised}
use Rattle.turn_lock.specs.Histories.{entries_of, turns_of, IsAllowed, IsBelow}
use Rattle.turn_lock.specs.Seats.{SeatValue, turn_value}

module _ {E : Type 0} where
  -- the first view: it has number 0, and gives the other numbers
  abbrev pub newcomer : Opening E → View E
  newcomer o = record { number = 0; seen = []; finds = 0; since = 0; phase = Idle; before = []; opening = o; given = 1; joined = []; spent = false }

  -- held: one more find
  abbrev pub found_held : View E → View E
  found_held v = record v { finds = v.finds + 1; since = v.since + 1; phase = Idle; before = [] }

  -- take: it is in a turn, after the history h
  abbrev pub begun : View E → List (TurnOf E) → View E
  begun v h = record v { phase = Begun; before = h }

  -- raise: it has seen the whole history, its own new turn last
  abbrev pub raised : View E → List E → View E
  raised v entries = record v { seen = v.before ++ record { seat = v.number; entries = entries } ∷ []; since = 0; phase = Raised; before = [] }

  -- free: it is in no turn
  abbrev pub freed : View E → View E
  freed v = record v { phase = Idle; before = [] }

  -- free without a raise is one more find
  abbrev pub freed_at : Phase → View E → View E
  freed_at Raised v = freed v
  freed_at _ v = found_held v

  -- a whole turn
  abbrev pub after_whole_turn : View E → List (TurnOf E) → List E → View E
  after_whole_turn v between entries =
      record v { seen = (v.seen ++ between) ++ record { seat = v.number; entries = entries } ∷ []; since = 0; phase = Idle; before = [] }

  -- split: the first view has given one more number
  abbrev pub dealer_after : View E → View E
  dealer_after v = record v { given = v.given + 1 }

  -- and a new view has it
  abbrev pub dealt : View E → View E
  dealt v = record { number = v.given; seen = []; finds = 0; since = 0; phase = Idle; before = []; opening = v.opening; given = 0; joined = []; spent = false }

  -- join: the first keeps what the second had seen, with its finds since its last turn, and those that were joined into it
  abbrev pub joined_with : View E → View E → View E
  joined_with v w = record v { joined = v.joined ++ record { number = w.number; seen = w.seen; since = w.since } ∷ w.joined }

  -- what is kept of a joined seat
  abbrev pub joined_seat : SeatValue E → JoinedSeat E
  joined_seat s = record { number = s.number; seen = s.seen; since = s.since }

  -- join with one seat
  abbrev pub with_joined : View E → JoinedSeat E → View E
  with_joined v m = record v { joined = v.joined ++ m ∷ [] }

  -- and the second is spent
  abbrev pub spent_view : View E
  spent_view = record {
    number = 0;
    seen = [];
    finds = 0;
    since = 0;
    phase = Idle;
    before = [];
    opening = record { first = []; numbers = []; seats = 0 };
    given = 0;
    joined = [];
    spent = true;
  }

  -- the numbers of the joined seats
  abbrev pub joined_numbers : List (JoinedSeat E) → List ℕ
  joined_numbers [] = []
  joined_numbers (m ∷ ms) = m.number ∷ joined_numbers ms

  -- its own number, and those of the seats that were joined into it
  abbrev pub numbers_of : View E → List ℕ
  numbers_of v = v.number ∷ joined_numbers v.joined

  -- what callers see of a view
  abbrev pub seat_value : TableId → View E → SeatValue E
  seat_value table v = record { turn = turn_value table v.opening; number = v.number; seen = v.seen; finds = v.finds; since = v.since }

  -- Between its calls a seat has no slot, is in no turn, and was neither joined nor spent. Seat 0 has given all numbers.
  pub record IsBetweenCalls {S : Type 0} (me : Me S (View E)) (front : ℕ) : Type 0 where
    pub slots : me.1 ≡ []
    pub phase : me.0.phase ≡ Idle
    pub joined : me.0.joined ≡ []
    pub live : me.0.spent ≡ false
    pub front_is : front ≡ length me.0.seen
    pub number : me.0.number < me.0.opening.seats
    pub dealer : me.0.number ≡ 0 → me.0.given ≡ me.0.opening.seats

  -- Ok: one whole turn, after what the view had seen and some turns of others
  pub record HasWholeTurn {S : Type 0} (may : ℕ → List E → Type 0) (adds : List ℕ → List E → List E) (answered : List ℕ → List E → Type 0) (v : View E)
      (after : Me S (View E)) (turns : ℕ) : Type 0 where
    pub between : List (TurnOf E)
    pub others : turns_of v.number between ≡ []
    pub after_is : after ≡ (after_whole_turn v between (adds v.opening.numbers (v.opening.first ++ entries_of (v.seen ++ between))), [])
    pub answer : answered v.opening.numbers (v.opening.first ++ entries_of (v.seen ++ between))
    pub allowed : IsAllowed may after.0.seen
    pub in_range : IsBelow v.opening.seats after.0.seen
    pub turns_are : turns ≡ length after.0.seen
