-- When a card can post, and how it stands after it was given a part.
use Rattle.std.specs.Prelude.{◌≡◌, ◌<◌, true, false, List, [], ◌∷◌, ◌++◌, Option, None, Some}
use Rattle.crossbar.specs.declared.cards.Post.{Post}
use Rattle.crossbar.specs.declared.cards.Taken.{Taken}
use Rattle.card_core.specs.declared.limits.TheConstants.{MAX_SLOTS}
use Rattle.card_core.specs.Cards.{CardState, IsAfter}
use Rattle.card_worker.specs.Agreeing.{IsFitted}

-- a card that has no post kept may make one
abbrev pub CanPost : Option Post → CardState → Type 0
CanPost None card = (card.sends.posted ≡ false) × (card.done ≡ false) × (card.sends.slot < MAX_SLOTS)
CanPost (Some post) card = Unit {0}

-- the card took of the taking what it could
pub record AfterGiving (taken : Taken) (old new : CardState) : Type 0 where
  pub given : Taken
  pub fitted : IsFitted old.receives taken given
  pub plan : new.sends.plan ≡ old.sends.plan
  pub after : (before : List Taken) → IsAfter old before true → IsAfter new (before ++ given ∷ []) false
