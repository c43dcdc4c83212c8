-- A slot that all cards have posted is decided at once.
use Rattle.std.proofs.Common.{◌≡◌, ℕ, ◌+◌, ◌<◌, List, [], ◌∷◌, ◌++◌, length, ap, arith}
use Rattle.slot_histories.specs.declared.events.Event.{Event}
use Rattle.slot_histories.specs.declared.events.Event.TheVariants.{Decide, Take}
use Rattle.slot_histories.specs.Events.{Setup, posts_of, decides}
use Rattle.slot_histories.specs.Legal.{MayDecide}
use Rattle.slot_histories.proofs.Appending.{posts_of-decide, posts_of-take, decides-decide, decides-take}

-- after a decision no slot is full
pub settled-decide : (s : Setup) (events : List Event) → 0 < s.ports → MayDecide s events → MayDecide s (events ++ Decide ∷ []) → ⊥
settled-decide s events some may again =
    let once : length (posts_of 0 events) ≡ decides events + 1 = may 0 some in
    let twice : length (posts_of 0 (events ++ Decide ∷ [])) ≡ decides (events ++ Decide ∷ []) + 1 = again 0 some in
    absurd (omega (arith, ap length (posts_of-decide events 0), decides-decide events))

-- a take fills none
pub settled-take : (s : Setup) (events : List Event) (card : ℕ) → (MayDecide s events → ⊥) → MayDecide s (events ++ Take card ∷ []) → ⊥
settled-take s events card settled may =
    settled (λ i below.
    let after : length (posts_of i (events ++ Take card ∷ [])) ≡ decides (events ++ Take card ∷ []) + 1 = may i below in
    omega (arith, ap length (posts_of-take events card i), decides-take events card))
