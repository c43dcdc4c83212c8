-- Latest: windows in which a request is served as late as can be.
use Rattle.std.specs.Prelude.{◌≡◌, ℕ, List, [], ◌∷◌, All, take, drop}
use Rattle.rotating_pick.specs.declared.kinds.Kind.TheVariants.{Uni}
use Rattle.slot_match.specs.Rows.{Names, row_of, AreWithin}
use Rattle.slot_match.specs.Matches.{Serves}
use Rattle.pointer_state.specs.Places.{Places, AreAtPorts, places_at_first}
use Rattle.eslip_rounds.specs.Schedules.{DecidedSlot, IsSchedule}
use Rattle.service_bound.specs.Windows.{IsWindow, IsWithoutMulticast, AreKept, places_after}

-- queue (i, j, level) is served in the last of these slots, and in no other
abbrev pub ServeLast : ℕ → ℕ → ℕ → List DecidedSlot → Type 0
ServeLast i j level [] = ⊥
ServeLast i j level (slot ∷ []) = Serves slot.decision.matched i j level Uni
ServeLast i j level (slot ∷ next ∷ slots) = (Serves slot.decision.matched i j level Uni → ⊥) × ServeLast i j level (next ∷ slots)

-- A window from pointers as a switch of n ports has them, without multicast at the level: queue (i, j, level)
-- is posted in every slot, and served in the last one alone.
pub record IsServedLast (n rounds t i j level : ℕ) (places : Places) (slots : List DecidedSlot) : Type 0 where
  pub at_ports : AreAtPorts places
  pub ports : places.ports ≡ n
  pub window : IsWindow n rounds t level places slots
  pub alone : All (λ slot. IsWithoutMulticast n level slot.rows) slots
  pub posted : All (λ slot. Names (row_of slot.rows i) level Uni j) slots
  pub last : ServeLast i j level slots

-- A schedule of a switch of n ports, from slot 0 and all pointers at port 0 on, of rows that are kept: its slots from
-- slot `first` on are a window in which queue (i, j, level) is posted in every slot and served in the last one alone.
pub record ComesLast (n rounds first i j level : ℕ) (slots : List DecidedSlot) : Type 0 where
  pub schedule : IsSchedule n rounds 0 (places_at_first n) slots
  pub within : All (λ slot. AreWithin n slot.rows) slots
  pub kept : AreKept n slots
  pub last : IsServedLast n rounds first i j level (places_after (places_at_first n) (take first slots)) (drop first slots)
