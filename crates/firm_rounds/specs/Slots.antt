-- One slot under FIRM: a slot as iSLIP makes it, except for where the
-- grant pointers of refused grants go.
use Rattle.std.specs.Prelude.{◌≡◌, ℕ, ◌+◌, ◌%◌, List, Option}
use Rattle.rotating_pick.specs.Rotation.{IsFirstFrom}
use Rattle.rotating_pick.specs.declared.kinds.Kind.TheVariants.{Uni}
use Rattle.slot_match.specs.declared.rows.Row.{Row}
use Rattle.slot_match.specs.declared.matching.Fed.{Fed}
use Rattle.slot_match.specs.Rows.{HasHead}
use Rattle.slot_match.specs.Matches.{Serves, Completes}
use Rattle.pointer_state.specs.Places.{Places, grant_of, accept_of, shared_of}
use Rattle.eslip_rounds.specs.Slots.{Decision, IsSlotBy, IsRefused}

-- The pointers after a slot, of which `first_match` is the match after the first round. A unicast grant of the first
-- round moves the output's grant pointer: one beyond the input where it was accepted, to the input where it was refused.
-- All else is as in iSLIP: the unicast pairs of the first round move the inputs' accept pointers one beyond
-- the outputs, and the shared pointer of a level moves one beyond the first input from it on that posted a multicast
-- head, where that head completes. All other pointers stay.
pub record AreMovedByFirm (n t : ℕ) (rows : List Row) (first_match matched : List (Option Fed)) (before after : Places) : Type 0 where
  pub ports : after.ports ≡ before.ports
  pub granted : (i j level : ℕ) → Serves first_match i j level Uni → grant_of after j level ≡ (i + 1) % n
  pub held : (i j level : ℕ) → IsRefused n t rows before i j level → grant_of after j level ≡ i
  pub grant_stays : (j level : ℕ) → ((i : ℕ) → Serves first_match i j level Uni → ⊥) → ((i : ℕ) → IsRefused n t rows before i j level → ⊥)
      → grant_of after j level ≡ grant_of before j level
  pub accepted : (i j level : ℕ) → Serves first_match i j level Uni → accept_of after i level ≡ (j + 1) % n
  pub accept_stays : (i level : ℕ) → ((j : ℕ) → Serves first_match i j level Uni → ⊥) → accept_of after i level ≡ accept_of before i level
  pub passed : (i level : ℕ) → IsFirstFrom n (shared_of before level) (HasHead rows level) i → Completes rows matched level i
      → shared_of after level ≡ (i + 1) % n
  pub shared_stays : (level : ℕ) → ((i : ℕ) → IsFirstFrom n (shared_of before level) (HasHead rows level) i → Completes rows matched level i → ⊥)
      → shared_of after level ≡ shared_of before level

-- slot t decides this
abbrev pub IsFirmSlot : ℕ → ℕ → ℕ → List Row → Places → Decision → Type 0
IsFirmSlot = IsSlotBy AreMovedByFirm
