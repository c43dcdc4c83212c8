-- The places of a scheduler's pointers: one for each output and level to grant from, one for each
-- input and level to accept from, and one for each level that all outputs share for multicast.
use Rattle.std.specs.Prelude.{◌≡◌, ℕ, ◌+◌, ◌%◌, ◌<◌, ◌≤◌, List, [], length, replicate, slice_index, slice_index_or, slice_set}
use Rattle.rotating_pick.specs.declared.limits.TheConstants.{LEVELS, MAX_PORTS}

-- a table for each level, with a place for each port
pub record Places : Type 0 where
  pub ports : ℕ
  pub grant : List (List ℕ)
  pub accept : List (List ℕ)
  pub shared : List ℕ

-- what a table has at the level and port
abbrev pub place_of : List (List ℕ) → ℕ → ℕ → ℕ
place_of table level port = slice_index (slice_index_or table level []) port

-- from where output j picks among unicast requests of the level
abbrev pub grant_of : Places → ℕ → ℕ → ℕ
grant_of places j level = place_of places.grant level j

-- from where input i picks among unicast grants of the level
abbrev pub accept_of : Places → ℕ → ℕ → ℕ
accept_of places i level = place_of places.accept level i

-- from where every output picks among multicast requests of the level
abbrev pub shared_of : Places → ℕ → ℕ
shared_of places level = slice_index places.shared level

-- the table has a row for each level, and in it a place for each port that a switch can have
pub record IsTable (table : List (List ℕ)) : Type 0 where
  pub levels : length table ≡ LEVELS
  pub ports : (level : ℕ) → level < LEVELS → length (slice_index_or table level []) ≡ MAX_PORTS

-- each pointer of the level is at one of the n ports
pub record ArePointing (n level : ℕ) (places : Places) : Type 0 where
  pub grant : (j : ℕ) → j < n → grant_of places j level < n
  pub accept : (i : ℕ) → i < n → accept_of places i level < n
  pub shared : shared_of places level < n

-- the pointers of a switch of 1 to 64 ports, of which each is at a port
pub record AreAtPorts (places : Places) : Type 0 where
  pub some : 0 < places.ports
  pub size : places.ports ≤ MAX_PORTS
  pub grant_table : IsTable places.grant
  pub accept_table : IsTable places.accept
  pub shared_levels : length places.shared ≡ LEVELS
  pub pointing : (level : ℕ) → level < LEVELS → ArePointing places.ports level places

-- the table with another place at the level and port
abbrev pub with_place : List (List ℕ) → ℕ → ℕ → ℕ → List (List ℕ)
with_place table level port place = slice_set table level (slice_set (slice_index_or table level []) port place)

-- the pointers of a switch of n ports before its first slot: all at port 0
unfoldable pub places_at_first : ℕ → Places
places_at_first n = record {
  ports = n;
  grant = replicate LEVELS (replicate MAX_PORTS 0);
  accept = replicate LEVELS (replicate MAX_PORTS 0);
  shared = replicate LEVELS 0;
}

-- the grant pointer of the output is one beyond the input, and the accept pointer of the input one
-- beyond the output
unfoldable pub places_met : Places → ℕ → ℕ → ℕ → Places
places_met places input output level = record places {
  grant = with_place places.grant level output ((input + 1) % places.ports);
  accept = with_place places.accept level input ((output + 1) % places.ports);
}

-- the shared pointer of the level is one beyond the input
unfoldable pub places_passed : Places → ℕ → ℕ → Places
places_passed places level input = record places { shared = slice_set places.shared level ((input + 1) % places.ports) }

-- the grant pointer of the output is at the input
unfoldable pub places_held : Places → ℕ → ℕ → ℕ → Places
places_held places input output level = record places { grant = with_place places.grant level output input }
