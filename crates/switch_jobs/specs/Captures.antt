-- An output that is written as a capture.
use Rattle.std.specs.Prelude.{◌≡◌, ℕ, ◌≤◌, List, All, sum, length}
use Rattle.cell_cutter.specs.declared.sizes.TheConstants.{MESSAGE_HEADER_BYTES, MAX_MESSAGE_BYTES}
use Rattle.card_core.specs.declared.outcome.CardOut.{CardOut}

-- these are the lengths of messages, and that many bytes are all of them
pub record AreLengths (lens : List ℕ) (bytes : ℕ) : Type 0 where
  pub longer : All (λ len. MESSAGE_HEADER_BYTES ≤ len) lens
  pub shorter : All (λ len. len ≤ MAX_MESSAGE_BYTES) lens
  pub whole : sum lens ≡ bytes

-- the body of what a card leaves is messages of its lengths
abbrev pub IsCut : CardOut → Type 0
IsCut out = AreLengths out.lens.items (length out.body.items)
