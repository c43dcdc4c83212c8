-- A step of the slot's code: outputs that were refused, after iSLIP has moved its pointers.
use Rattle.std.specs.Prelude.{◌≡◌, ℕ, List, Option}
use Rattle.slot_match.specs.declared.rows.Row.{Row}
use Rattle.slot_match.specs.declared.matching.Fed.{Fed}
use Rattle.pointer_state.specs.Places.{Places, grant_of, accept_of, shared_of}
use Rattle.eslip_rounds.specs.Slots.{AreMoved, IsRefused}

-- the grant pointer of each output that was refused points to the input that refused it, and all other pointers stay
pub record AreHeld (Refused : ℕ → ℕ → ℕ → Type 0) (before after : Places) : Type 0 where
  pub ports : after.ports ≡ before.ports
  pub held : (i j level : ℕ) → Refused i j level → grant_of after j level ≡ i
  pub stays : (j level : ℕ) → ((i : ℕ) → Refused i j level → ⊥) → grant_of after j level ≡ grant_of before j level
  pub accepts : (i level : ℕ) → accept_of after i level ≡ accept_of before i level
  pub shared : (level : ℕ) → shared_of after level ≡ shared_of before level

-- the pointers are moved as those of iSLIP are, and then each output whose unicast grant of the first round
-- was refused points to that input
pub record AreMovedThenHeld (n t : ℕ) (rows : List Row) (first_match matched : List (Option Fed)) (before after : Places) : Type 0 where
  pub moved : Places
  pub as_first : AreMoved n t rows first_match matched before moved
  pub held : AreHeld (IsRefused n t rows before) moved after
