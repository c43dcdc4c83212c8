-- Full load of one level: every input asks every output at it, and every output is served.
use Rattle.std.specs.Prelude.{◌≡◌, ℕ, ◌<◌, List, Option, All}
use Rattle.rotating_pick.specs.declared.kinds.Kind.TheVariants.{Uni}
use Rattle.slot_match.specs.declared.rows.Row.{Row}
use Rattle.slot_match.specs.declared.matching.Fed.{Fed}
use Rattle.slot_match.specs.Rows.{Names, row_of, AreWithin}
use Rattle.slot_match.specs.Matches.{Serves}
use Rattle.pointer_state.specs.Places.{Places, ArePointing, grant_of}
use Rattle.islip_rounds.specs.Numbers.{matched_count}
use Rattle.eslip_rounds.specs.Slots.{Moving, AreMoved}
use Rattle.eslip_rounds.specs.Schedules.{DecidedSlot, IsScheduleBy}
use Rattle.service_bound.specs.Windows.{IsClean, IsWithoutMulticast}
use Rattle.rrm_rounds.specs.Slots.{AreMovedByRrm}

-- every row names every output as unicast of the level, none as multicast of it, and none at a better level
pub record IsFullLoad (n level : ℕ) (rows : List Row) : Type 0 where
  pub full : (i j : ℕ) → i < n → j < n → Names (row_of rows i) level Uni j
  pub alone : IsWithoutMulticast n level rows
  pub clean : IsClean n level rows

-- Slots from slot t on, decided from these pointers, of which those of the level are at ports, each of full load, where
-- `Moves` says how pointers move.
pub record IsFullyLoadedBy (Moves : Moving) (n rounds t level : ℕ) (places : Places) (slots : List DecidedSlot) : Type 0 where
  pub pointing : ArePointing n level places
  pub schedule : IsScheduleBy Moves n rounds t places slots
  pub within : All (λ slot. AreWithin n slot.rows) slots
  pub load : All (λ slot. IsFullLoad n level slot.rows) slots

-- the same where pointers move as those of iSLIP do
abbrev pub IsFullyLoaded : ℕ → ℕ → ℕ → ℕ → Places → List DecidedSlot → Type 0
IsFullyLoaded = IsFullyLoadedBy AreMoved

-- the same where they move as those of round-robin matching do
abbrev pub IsFullyLoadedByRrm : ℕ → ℕ → ℕ → ℕ → Places → List DecidedSlot → Type 0
IsFullyLoadedByRrm = IsFullyLoadedBy AreMovedByRrm

-- the grant pointers of all outputs are at one port
abbrev pub AreTogether : ℕ → ℕ → Places → Type 0
AreTogether n level places = (j k : ℕ) → j < n → k < n → grant_of places j level ≡ grant_of places k level

-- every output has an input, and every input has an output, as unicast of the level
pub record IsFullMatch (n level : ℕ) (matched : List (Option Fed)) : Type 0 where
  pub outputs : (j : ℕ) → j < n → (i : ℕ) × (i < n) × Serves matched i j level Uni
  pub inputs : (i : ℕ) → i < n → (j : ℕ) × (j < n) × Serves matched i j level Uni

-- the slot serves every output, and n pairs, all of them in its first round
pub record IsFullSlot (n level : ℕ) (slot : DecidedSlot) : Type 0 where
  pub full : IsFullMatch n level slot.decision.matched
  pub count : matched_count slot.decision.matched ≡ n
  pub first : slot.decision.numbers.first ≡ n
