-- Starving: slots under round-robin matching in which a queue asks all the time and is never served.
use Rattle.std.specs.Prelude.{ℕ, List, All}
use Rattle.rotating_pick.specs.declared.kinds.Kind.TheVariants.{Uni}
use Rattle.slot_match.specs.Rows.{Names, row_of}
use Rattle.slot_match.specs.Matches.{Serves}
use Rattle.pointer_state.specs.Places.{Places}
use Rattle.eslip_rounds.specs.Schedules.{DecidedSlot}
use Rattle.service_bound.specs.Windows.{IsWindowBy, IsWithoutMulticast, AreAtLineRate}
use Rattle.rrm_rounds.specs.Slots.{AreMovedByRrm}

-- A window from these pointers, without multicast at the level and at line rate: queue (i, j, level) is posted in every
-- slot, and served in none.
pub record IsStarved (n rounds t i j level : ℕ) (places : Places) (slots : List DecidedSlot) : Type 0 where
  pub window : IsWindowBy AreMovedByRrm n rounds t level places slots
  pub alone : All (λ slot. IsWithoutMulticast n level slot.rows) slots
  pub paced : AreAtLineRate n level slots
  pub posted : All (λ slot. Names (row_of slot.rows i) level Uni j) slots
  pub never : All (λ slot. Serves slot.decision.matched i j level Uni → ⊥) slots
