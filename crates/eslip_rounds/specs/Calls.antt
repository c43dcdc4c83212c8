-- Calls: what is asked of whoever decides a slot, and what is promised of its decision.
use Rattle.std.specs.Prelude.{◌≡◌, ℕ, ◌<◌, ◌≤◌, List, Option, length}
use Rattle.rotating_pick.specs.declared.limits.TheConstants.{MAX_PORTS, MAX_ROUNDS}
use Rattle.slot_match.specs.declared.rows.Row.{Row}
use Rattle.slot_match.specs.declared.matching.Fed.{Fed}
use Rattle.slot_match.specs.Rows.{AreWithin}
use Rattle.slot_match.specs.Matches.{IsMatch, IsMaximal}
use Rattle.pointer_state.specs.Places.{Places, AreAtPorts}
use Rattle.eslip_rounds.specs.Slots.{Decision, Moving, IsSlotBy}
use Rattle.eslip_rounds.specs.Schedulers.{Scheduler}

-- a slot of n ports can be decided in so many rounds from these rows and pointers, with its match set in `out`
pub record CanDecide (n rounds : ℕ) (rows : List Row) (places : Places) (out : List (Option Fed)) : Type 0 where
  pub some : 0 < n
  pub size : n ≤ MAX_PORTS
  pub rounds_some : 0 < rounds
  pub rounds_few : rounds ≤ MAX_ROUNDS
  pub within : AreWithin n rows
  pub pointers : places.ports ≡ n
  pub matched : length out ≡ n

-- Slot t decides this by the scheduler, where `Moves` says how its pointers move. As one value it is what the scheduler,
-- a function of rows and pointers, gives: a slot leaves no choice. The match is maximal where the last round of all added
-- nothing, and where there are n rounds.
pub record IsDecidedBy (Moves : Moving) (scheduler : Scheduler) (n rounds t : ℕ) (rows : List Row) (before : Places) (made : Decision) : Type 0 where
  pub slot : IsSlotBy Moves n rounds t rows before made
  pub decision : made ≡ scheduler n rounds t rows before
  pub whole : IsMatch n made.matched
  pub at_ports : AreAtPorts made.places
  pub unused : made.numbers.last_added ≡ 0 → IsMaximal n rows made.matched
  pub enough : n ≤ rounds → IsMaximal n rows made.matched
