-- A step of the slot's code: outputs that were refused, after iSLIP has moved its pointers.
use Rattle.std.specs.Prelude.{◌≡◌, ℕ, ◌+◌, ◌%◌}
use Rattle.pointer_state.specs.Places.{Places, grant_of, accept_of, shared_of}

-- the grant pointer of each output that was refused is one beyond the input that refused it, and all other pointers stay
pub record AreBeyond (n : ℕ) (Refused : ℕ → ℕ → ℕ → Type 0) (before after : Places) : Type 0 where
  pub ports : after.ports ≡ before.ports
  pub passed : (i j level : ℕ) → Refused i j level → grant_of after j level ≡ (i + 1) % n
  pub stays : (j level : ℕ) → ((i : ℕ) → Refused i j level → ⊥) → grant_of after j level ≡ grant_of before j level
  pub accepts : (i level : ℕ) → accept_of after i level ≡ accept_of before i level
  pub shared : (level : ℕ) → shared_of after level ≡ shared_of before level
