-- Outputs that were refused pass their inputs one after another.
use Rattle.std.proofs.Common.{ℕ, ◌↔◌, ◌⊎◌, ◌∙◌, refl, inl, inr}
use Rattle.pointer_state.specs.Places.{Places}
use Rattle.rrm_rounds.specs.SlotSteps.{AreBeyond}

-- nothing is passed
pub AreBeyond-none : (n : ℕ) (P : ℕ → ℕ → ℕ → Type 0) (places : Places) → ((i j level : ℕ) → P i j level → ⊥) → AreBeyond n P places places
AreBeyond-none n P places nobody =
    record {
      ports = refl;
      passed = λ i j level p. absurd (nobody i j level p);
      stays = λ j level none. refl;
      accepts = λ i level. refl;
      shared = λ level. refl;
    }

-- the same is passed
pub AreBeyond-along : (n : ℕ) (P Q : ℕ → ℕ → ℕ → Type 0) (before after : Places) → ((i j level : ℕ) → P i j level ↔ Q i j level)
    → AreBeyond n P before after → AreBeyond n Q before after
AreBeyond-along n P Q before after same beyond =
    record {
      ports = beyond.ports;
      passed = λ i j level q. beyond.passed i j level ((same i j level).1 q);
      stays = λ j level none. beyond.stays j level (λ i p. none i ((same i j level).0 p));
      accepts = beyond.accepts;
      shared = beyond.shared;
    }

-- after some outputs passed their inputs, others do
pub AreBeyond-then : (n : ℕ) (P Q : ℕ → ℕ → ℕ → Type 0) (first before after : Places) → ((i x j level : ℕ) → P i j level → Q x j level → ⊥)
    → AreBeyond n P first before → AreBeyond n Q before after → AreBeyond n (λ i j level. P i j level ⊎ Q i j level) first after
AreBeyond-then n P Q first before after apart one other =
    record {
      ports = other.ports ∙ one.ports;
      passed = λ i j level s. elim s [
        | inl p ↦ other.stays j level (λ x q. apart i x j level p q) ∙ one.passed i j level p
        | inr q ↦ other.passed i j level q
      ];
      stays = λ j level none. other.stays j level (λ i q. none i (inr q)) ∙ one.stays j level (λ i p. none i (inl p));
      accepts = λ i level. other.accepts i level ∙ one.accepts i level;
      shared = λ level. other.shared level ∙ one.shared level;
    }
