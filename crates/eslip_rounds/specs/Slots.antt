-- One slot: its rounds, its match, its numbers, and the pointers after it.
use Rattle.std.specs.Prelude.{◌≡◌, ℕ, ◌+◌, ◌%◌, List, Option, length, slice_index_or}
use Rattle.rotating_pick.specs.Rotation.{IsFirstFrom}
use Rattle.rotating_pick.specs.declared.kinds.Kind.TheVariants.{Uni}
use Rattle.slot_match.specs.declared.rows.Row.{Row}
use Rattle.slot_match.specs.declared.matching.Fed.{Fed}
use Rattle.slot_match.specs.Rows.{HasHead}
use Rattle.slot_match.specs.Matches.{unmatched, Serves, Completes}
use Rattle.pointer_state.specs.Places.{Places, grant_of, accept_of, shared_of}
use Rattle.islip_rounds.specs.declared.numbers.RoundsUsed.{RoundsUsed}
use Rattle.islip_rounds.specs.Numbers.{last_of, slot_numbers}
use Rattle.eslip_rounds.specs.Rounds.{Grants, Accepts, AreRounds}

-- what a slot decides
pub record Decision : Type 0 where
  pub matched : List (Option Fed)
  pub numbers : RoundsUsed
  pub places : Places

-- How pointers move: of a switch of these ports, the number of the slot, the rows posted in it, the match after its first
-- round, the whole match, and the pointers before the slot, which pointers there may be after it.
abbrev pub Moving : Type 1
Moving = (ports slot : ℕ) (rows : List Row) (first_match matched : List (Option Fed)) (before after : Places) → Type 0

-- The pointers after a slot, of which `first_match` is the match after the first round. The unicast pairs of
-- the first round move their pointers one beyond each other. The shared pointer of a level moves one
-- beyond the first input from it on that posted a multicast head, where that head completes. All other
-- pointers stay.
pub record AreMoved (n t : ℕ) (rows : List Row) (first_match matched : List (Option Fed)) (before after : Places) : Type 0 where
  pub ports : after.ports ≡ before.ports
  pub granted : (i j level : ℕ) → Serves first_match i j level Uni → grant_of after j level ≡ (i + 1) % n
  pub accepted : (i j level : ℕ) → Serves first_match i j level Uni → accept_of after i level ≡ (j + 1) % n
  pub grant_stays : (j level : ℕ) → ((i : ℕ) → Serves first_match i j level Uni → ⊥) → grant_of after j level ≡ grant_of before j level
  pub accept_stays : (i level : ℕ) → ((j : ℕ) → Serves first_match i j level Uni → ⊥) → accept_of after i level ≡ accept_of before i level
  pub passed : (i level : ℕ) → IsFirstFrom n (shared_of before level) (HasHead rows level) i → Completes rows matched level i
      → shared_of after level ≡ (i + 1) % n
  pub shared_stays : (level : ℕ) → ((i : ℕ) → IsFirstFrom n (shared_of before level) (HasHead rows level) i → Completes rows matched level i → ⊥)
      → shared_of after level ≡ shared_of before level

-- Slot t, of `rounds` rounds, decides this, where `Moves` says how its pointers move. All of its rounds
-- use the pointers from before it, and the first begins with nothing matched.
pub record IsSlotBy (Moves : Moving) (n rounds t : ℕ) (rows : List Row) (before : Places) (decision : Decision) : Type 0 where
  pub steps : List (List (Option Fed))
  pub count : length steps ≡ rounds
  pub chain : AreRounds n t rows before (unmatched n) steps
  pub result : decision.matched ≡ last_of (unmatched n) steps
  pub numbered : decision.numbers ≡ slot_numbers steps
  pub moved : Moves n t rows (slice_index_or steps 0 (unmatched n)) decision.matched before decision.places

-- slot t decides this
abbrev pub IsSlot : ℕ → ℕ → ℕ → List Row → Places → Decision → Type 0
IsSlot = IsSlotBy AreMoved

-- in the first round of slot t output j grants input i as unicast of the level, and the input does not accept
abbrev pub IsRefused : ℕ → ℕ → List Row → Places → ℕ → ℕ → ℕ → Type 0
IsRefused n t rows places i j level = Grants n t rows places (unmatched n) i j level Uni × (Accepts n t rows places (unmatched n) i j level Uni → ⊥)
