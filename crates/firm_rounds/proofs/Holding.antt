-- Outputs held one after another.
use Rattle.std.proofs.Common.{ℕ, ◌↔◌, ◌⊎◌, ◌∙◌, refl, inl, inr}
use Rattle.pointer_state.specs.Places.{Places}
use Rattle.firm_rounds.specs.SlotSteps.{AreHeld}

-- nothing is held
pub AreHeld-none : (P : ℕ → ℕ → ℕ → Type 0) (places : Places) → ((i j level : ℕ) → P i j level → ⊥) → AreHeld P places places
AreHeld-none P places nobody =
    record {
      ports = refl;
      held = λ i j level p. absurd (nobody i j level p);
      stays = λ j level none. refl;
      accepts = λ i level. refl;
      shared = λ level. refl;
    }

-- the same is held
pub AreHeld-along : (P Q : ℕ → ℕ → ℕ → Type 0) (before after : Places) → ((i j level : ℕ) → P i j level ↔ Q i j level) → AreHeld P before after
    → AreHeld Q before after
AreHeld-along P Q before after same held =
    record {
      ports = held.ports;
      held = λ i j level q. held.held i j level ((same i j level).1 q);
      stays = λ j level none. held.stays j level (λ i p. none i ((same i j level).0 p));
      accepts = held.accepts;
      shared = held.shared;
    }

-- after some outputs were held, others are
pub AreHeld-then : (P Q : ℕ → ℕ → ℕ → Type 0) (first before after : Places) → ((i x j level : ℕ) → P i j level → Q x j level → ⊥)
    → AreHeld P first before → AreHeld Q before after → AreHeld (λ i j level. P i j level ⊎ Q i j level) first after
AreHeld-then P Q first before after apart one other =
    record {
      ports = other.ports ∙ one.ports;
      held = λ i j level s. elim s [
        | inl p ↦ other.stays j level (λ x q. apart i x j level p q) ∙ one.held i j level p
        | inr q ↦ other.held i j level q
      ];
      stays = λ j level none. other.stays j level (λ i q. none i (inr q)) ∙ one.stays j level (λ i p. none i (inl p));
      accepts = λ i level. other.accepts i level ∙ one.accepts i level;
      shared = λ level. other.shared level ∙ one.shared level;
    }
