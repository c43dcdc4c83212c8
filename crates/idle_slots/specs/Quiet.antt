-- What a scheduler decides where no input asks for anything.
use Rattle.std.specs.Prelude.{◌≡◌, ℕ, List, replicate}
use Rattle.slot_match.specs.declared.rows.Row.{Row}
use Rattle.slot_match.specs.Rows.{empty_row}
use Rattle.slot_match.specs.Matches.{unmatched}
use Rattle.pointer_state.specs.Places.{Places, AreAtPorts}
use Rattle.islip_rounds.specs.declared.numbers.RoundsUsed.{RoundsUsed}
use Rattle.eslip_rounds.specs.Slots.{Decision}
use Rattle.eslip_rounds.specs.Schedulers.{Scheduler}

-- the rows of n inputs of which none asks for an output
abbrev pub empty_rows : ℕ → List Row
empty_rows n = replicate n empty_row

-- the numbers of a slot of which no round added a pair
abbrev pub no_rounds : RoundsUsed
no_rounds = record { used = 0; first = 0; last_added = 0 }

-- nothing is matched, and the pointers stay
abbrev pub nothing_decided : ℕ → Places → Decision
nothing_decided n places = record { matched = unmatched n; numbers = no_rounds; places = places }

-- Where no input asks the scheduler matches nothing and moves no pointer, whatever the slot's number and its rounds.
abbrev pub IsQuiet : Scheduler → Type 0
IsQuiet scheduler = (n rounds t : ℕ) (places : Places) → AreAtPorts places → places.ports ≡ n
    → scheduler n rounds t (empty_rows n) places ≡ nothing_decided n places
