-- What a slot tells of the grants that its first round refused.
use Rattle.std.specs.Prelude.{◌≡◌, ℕ, ◌<◌, ◌↔◌, List, slice_index}
use Rattle.rotating_pick.specs.PortSets.{Has}
use Rattle.rotating_pick.specs.declared.limits.TheConstants.{LEVELS}
use Rattle.slot_match.specs.declared.rows.Row.{Row}
use Rattle.pointer_state.specs.Places.{Places}
use Rattle.eslip_rounds.specs.declared.refusals.Refused.{Refused}
use Rattle.eslip_rounds.specs.Slots.{IsRefused}

-- output j is told to have granted input i as unicast of the level, and to be refused
abbrev pub Tells : Refused → ℕ → ℕ → ℕ → Type 0
Tells refused i j level = Has refused.outputs j × (slice_index refused.inputs j ≡ i) × (slice_index refused.levels j ≡ level)

-- the refused unicast grants of the first round of slot t are told, and no others
abbrev pub AreRefused : ℕ → ℕ → List Row → Places → Refused → Type 0
AreRefused n t rows places refused = (i j level : ℕ) → Tells refused i j level ↔ IsRefused n t rows places i j level

-- the outputs that are told are of a switch of n ports, and so is what they granted
pub record AreToldWithin (n : ℕ) (refused : Refused) : Type 0 where
  pub outputs : (j : ℕ) → Has refused.outputs j → j < n
  pub inputs : (j : ℕ) → Has refused.outputs j → slice_index refused.inputs j < n
  pub levels : (j : ℕ) → Has refused.outputs j → slice_index refused.levels j < LEVELS
