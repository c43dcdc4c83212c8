-- Pointers as tables that a caller holds from slot to slot.
use Rattle.std.specs.Prelude.{ℕ, ◌<◌, ◌≤◌}
use Rattle.rotating_pick.specs.declared.limits.TheConstants.{LEVELS, MAX_PORTS}
use Rattle.pointer_state.specs.Places.{Places, ArePointing}
use Rattle.pointer_state.specs.declared.caller_tables.PointerTables.{PointerTables}

-- where the tables put the pointers of n ports
abbrev pub places_from : ℕ → PointerTables → Places
places_from n tables = record { ports = n; grant = tables.grant; accept = tables.accept; shared = tables.shared }

-- the tables of pointers
abbrev pub tables_of : Places → PointerTables
tables_of places = record { grant = places.grant; accept = places.accept; shared = places.shared }

-- at each level the tables put the pointers of the n ports at one of them
abbrev pub ArePlacedBelow : ℕ → PointerTables → Type 0
ArePlacedBelow n tables = (level : ℕ) → level < LEVELS → ArePointing n level (places_from n tables)

-- the tables are those of a switch of n ports, from 1 to 64
pub record AreInRange (n : ℕ) (tables : PointerTables) : Type 0 where
  pub some : 0 < n
  pub size : n ≤ MAX_PORTS
  pub placed : ArePlacedBelow n tables
