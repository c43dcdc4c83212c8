-- Windows: slots one after the other in which the laws speak of one level.
use Rattle.std.specs.Prelude.{◌≡◌, ℕ, ◌<◌, ◌⊎◌, List, [], ◌∷◌, All}
use Rattle.rotating_pick.specs.declared.kinds.Kind.{Kind}
use Rattle.rotating_pick.specs.declared.kinds.Kind.TheVariants.{Uni, Multi}
use Rattle.slot_match.specs.declared.rows.Row.{Row}
use Rattle.slot_match.specs.Rows.{Names, row_of, AreWithin}
use Rattle.slot_match.specs.Keeping.{Keeps}
use Rattle.pointer_state.specs.Places.{Places, ArePointing}
use Rattle.eslip_rounds.specs.Slots.{Moving, AreMoved}
use Rattle.eslip_rounds.specs.Schedules.{DecidedSlot, IsScheduleBy}

-- no row names an output at a level better than this one
abbrev pub IsClean : ℕ → ℕ → List Row → Type 0
IsClean n level rows = (i better j : ℕ) (kind : Kind) → i < n → better < level → Names (row_of rows i) better kind j → ⊥

-- no row names an output as multicast of the level
abbrev pub IsWithoutMulticast : ℕ → ℕ → List Row → Type 0
IsWithoutMulticast n level rows = (i j : ℕ) → i < n → Names (row_of rows i) level Multi j → ⊥

-- the row names the output at a level better than this one, or as multicast of this one
pub record NamesBetter (row : Row) (level j : ℕ) : Type 0 where
  pub at : ℕ
  pub kind : Kind
  pub better : (at < level) ⊎ ((at ≡ level) × (kind ≡ Multi))
  pub named : Names row at kind j

-- Output j is asked as unicast of the level alone: no row names it at a better level or as multicast of the level, and the
-- rows that name it as unicast of the level name no output so.
pub record IsQuietFor (n level j : ℕ) (rows : List Row) : Type 0 where
  pub output : (i : ℕ) → i < n → NamesBetter (row_of rows i) level j → ⊥
  pub inputs : (i other : ℕ) → i < n → Names (row_of rows i) level Uni j → NamesBetter (row_of rows i) level other → ⊥

-- the rows of the first slot, if there is one, are so
abbrev pub InFirst : (List Row → Type 0) → List DecidedSlot → Type 0
InFirst P [] = Unit {0}
InFirst P (slot ∷ slots) = P slot.rows

-- requests stay until they are served: the row that each input posts next keeps the one before
abbrev pub AreKept : ℕ → List DecidedSlot → Type 0
AreKept n [] = Unit {0}
AreKept n (slot ∷ slots) = InFirst (λ rows. (i : ℕ) → i < n → Keeps slot.decision.matched i (row_of slot.rows i) (row_of rows i)) slots × AreKept n slots

-- the next row gains at most one unicast output of the level: two that it names and the old row did not are one
abbrev pub GainsAtMostOne : ℕ → Row → Row → Type 0
GainsAtMostOne level old new = (j k : ℕ) → Names new level Uni j → Names new level Uni k → (Names old level Uni j → ⊥) → (Names old level Uni k → ⊥) → j ≡ k

-- so does the next row of each of the n inputs
abbrev pub GainAtMostOne : ℕ → ℕ → List Row → List Row → Type 0
GainAtMostOne n level old new = (i : ℕ) → i < n → GainsAtMostOne level (row_of old i) (row_of new i)

-- the rows of each slot but the first are so to those of the slot before
abbrev pub AreFollowing : (List Row → List Row → Type 0) → List DecidedSlot → Type 0
AreFollowing Follows [] = Unit {0}
AreFollowing Follows (slot ∷ slots) = InFirst (Follows slot.rows) slots × AreFollowing Follows slots

-- Slots at line rate: from one slot to the next at most one unicast queue of each input begins to ask, as where at
-- most one packet arrives at each port in a slot.
abbrev pub AreAtLineRate : ℕ → ℕ → List DecidedSlot → Type 0
AreAtLineRate n level = AreFollowing (GainAtMostOne n level)

-- Slots from slot t on, decided from these pointers, of rows that are kept, where `Moves` says how pointers move. The
-- level's pointers are at ports.
pub record IsKeptScheduleBy (Moves : Moving) (n rounds t level : ℕ) (places : Places) (slots : List DecidedSlot) : Type 0 where
  pub pointing : ArePointing n level places
  pub schedule : IsScheduleBy Moves n rounds t places slots
  pub within : All (λ slot. AreWithin n slot.rows) slots
  pub kept : AreKept n slots

-- the same, where besides none of the rows names an output at a better level
pub record IsWindowBy (Moves : Moving) (n rounds t level : ℕ) (places : Places) (slots : List DecidedSlot) : Type 0 where
  pub pointing : ArePointing n level places
  pub schedule : IsScheduleBy Moves n rounds t places slots
  pub within : All (λ slot. AreWithin n slot.rows) slots
  pub kept : AreKept n slots
  pub clean : All (λ slot. IsClean n level slot.rows) slots

-- the same where pointers move as those of iSLIP do
abbrev pub IsWindow : ℕ → ℕ → ℕ → ℕ → Places → List DecidedSlot → Type 0
IsWindow = IsWindowBy AreMoved

-- the pointers after some slots
abbrev pub places_after : Places → List DecidedSlot → Places
places_after places [] = places
places_after places (slot ∷ slots) = places_after slot.decision.places slots
