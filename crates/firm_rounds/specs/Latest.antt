-- Latest: windows under FIRM in which a request is served as late as can be.
use Rattle.std.specs.Prelude.{◌≡◌, ℕ, List, All}
use Rattle.rotating_pick.specs.declared.kinds.Kind.TheVariants.{Uni}
use Rattle.slot_match.specs.Rows.{Names, row_of}
use Rattle.pointer_state.specs.Places.{Places, AreAtPorts}
use Rattle.eslip_rounds.specs.Schedules.{DecidedSlot}
use Rattle.service_bound.specs.Windows.{IsWindowBy, IsWithoutMulticast}
use Rattle.service_bound.specs.Latest.{ServeLast}
use Rattle.firm_rounds.specs.Slots.{AreMovedByFirm}

-- A window from pointers as a switch of n ports has them, without multicast at the level: queue (i, j, level)
-- is posted in every slot, and served in the last one alone.
pub record IsServedLastByFirm (n rounds t i j level : ℕ) (places : Places) (slots : List DecidedSlot) : Type 0 where
  pub at_ports : AreAtPorts places
  pub ports : places.ports ≡ n
  pub window : IsWindowBy AreMovedByFirm n rounds t level places slots
  pub alone : All (λ slot. IsWithoutMulticast n level slot.rows) slots
  pub posted : All (λ slot. Names (row_of slot.rows i) level Uni j) slots
  pub last : ServeLast i j level slots
