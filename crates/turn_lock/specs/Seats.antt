-- A turn lock and its seats as callers see them.
use Rattle.std.specs.Prelude.{◌≡◌, ◌<◌, ◌≤◌, ◌+◌, ◌^◌, ◌++◌, ◌⊎◌, ℕ, List, [], ◌∷◌, Some, length, slice_get}
use Rattle.atomic_table.specs.Seated.{TableId}
use Rattle.turn_lock.specs.declared.history.TurnOf.{TurnOf}
use Rattle.turn_lock.specs.declared.history.Opening.{Opening}
use Rattle.turn_lock.specs.Histories.{IsPrefixOf, entries_of, turns_of, IsAllowed, IsBelow}

-- A turn lock: which it is (no two have the same `table`), the entries and the fixed numbers of its first value, and how many seats it has.
pub record TurnValue (E : Type 0) : Type 0 where
  pub table : TableId
  pub first : List E
  pub numbers : List ℕ
  pub seats : ℕ

-- A seat: its turn lock, its number, the prefix of the history that it has seen, and its finds: how many of its tries
-- found the turn word held or the history at its last length.
-- `since` counts those after its last own turn, which are all where it had none.
pub record SeatValue (E : Type 0) : Type 0 where
  pub turn : TurnValue E
  pub number : ℕ
  pub seen : List (TurnOf E)
  pub finds : ℕ
  pub since : ℕ

module _ {E : Type 0} where
  -- the turn lock with this table, made with these
  abbrev pub turn_value : TableId → Opening E → TurnValue E
  turn_value table opening = record { table = table; first = opening.first; numbers = opening.numbers; seats = opening.seats }

  -- seat i as `make` gives it
  abbrev pub new_seat : TurnValue E → ℕ → SeatValue E
  new_seat turn i = record { turn = turn; number = i; seen = []; finds = 0; since = 0 }

  -- a seat after Busy: one more find, also since its last turn, and all else as before
  abbrev pub busy : SeatValue E → SeatValue E
  busy s = record s { finds = s.finds + 1; since = s.since + 1 }

  -- the entries at a seat's turn, of the first value and of all turns before
  abbrev pub entries_before : SeatValue E → List (TurnOf E) → List E
  entries_before s between = s.turn.first ++ entries_of (s.seen ++ between)

  -- a seat after a turn of its own, with these entries: that turn ends all that it has then seen, and no find is since
  abbrev pub after_turn : SeatValue E → List (TurnOf E) → List E → SeatValue E
  after_turn s between entries = record s { seen = (s.seen ++ between) ++ record { seat = s.number; entries = entries } ∷ []; since = 0 }

  -- Ok: the seat had one turn, after what it had seen and some turns of other seats.
  -- `adds` and `answered` are of the fixed numbers and of the entries before.
  pub record HasTurn (may : ℕ → List E → Type 0) (adds : List ℕ → List E → List E) (answered : List ℕ → List E → Type 0) (old new : SeatValue E) : Type 0 where
    pub between : List (TurnOf E)
    pub others : turns_of old.number between ≡ []
    pub turn : new ≡ after_turn old between (adds old.turn.numbers (entries_before old between))
    pub answer : answered old.turn.numbers (entries_before old between)
    pub allowed : IsAllowed may new.seen
    pub in_range : IsBelow old.turn.seats new.seen

  -- all seats of a turn lock, by number, as `make` gives them
  pub record AreNewSeats (turn : TurnValue E) (seats : List (SeatValue E)) : Type 0 where
    pub count : length seats ≡ turn.seats
    pub each : (i : ℕ) (s : SeatValue E) → slice_get seats i ≡ Some s → s ≡ new_seat turn i

  -- all seats of a turn lock, by number
  pub record AreSeats (turn : TurnValue E) (seats : List (SeatValue E)) : Type 0 where
    pub count : length seats ≡ turn.seats
    pub turns : (i : ℕ) (s : SeatValue E) → slice_get seats i ≡ Some s → s.turn ≡ turn
    pub numbers : (i : ℕ) (s : SeatValue E) → slice_get seats i ≡ Some s → s.number ≡ i

  -- The value stands for the first value's entries and those of one history. Each seat's seen turns begin that history,
  -- and no further turn of it is the seat's.
  pub record IsWhole {V : Type 0} (entries : V → List E) (numbers : V → List ℕ) (may : ℕ → List E → Type 0) (turn : TurnValue E) (seats : List (SeatValue E))
      (value : V) : Type 0 where
    pub history : List (TurnOf E)
    pub entries_are : entries value ≡ turn.first ++ entries_of history
    pub numbers_are : numbers value ≡ turn.numbers
    pub allowed : IsAllowed may history
    pub in_range : IsBelow turn.seats history
    pub seen : (i : ℕ) (s : SeatValue E) → slice_get seats i ≡ Some s → IsPrefixOf s.seen history
    pub own : (i : ℕ) (s : SeatValue E) → slice_get seats i ≡ Some s → turns_of i history ≡ turns_of i s.seen
    -- a seat that was busy since its last turn was overtaken: the history goes on beyond what it had seen, or is at its last length
    pub overtaken : (i : ℕ) (s : SeatValue E) → slice_get seats i ≡ Some s → 0 < s.since → (length s.seen < length history) ⊎ (2 ^ 64 ≤ length history + 1)
