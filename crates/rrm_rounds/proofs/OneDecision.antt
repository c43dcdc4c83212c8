-- A slot leaves no choice: one place for each pointer.
use Rattle.std.proofs.Common.{◌≡◌, ℕ, ◌∙◌, List, Option, length, sym, inl, inr}
use Rattle.std.proofs.lemmas.Bool.{cases_eq}
use Rattle.slot_match.specs.declared.rows.Row.{Row}
use Rattle.slot_match.specs.declared.matching.Fed.{Fed}
use Rattle.slot_match.specs.Rows.{AreWithin}
use Rattle.pointer_state.specs.Places.{Places, AreAtPorts, grant_of, accept_of, shared_of}
use Rattle.pointer_state.proofs.Same.{AreAlike, Places-same}
use Rattle.eslip_rounds.specs.Slots.{Decision}
use Rattle.eslip_rounds.proofs.Unique.{IsSlotBy-only}
use Rattle.rrm_rounds.specs.Slots.{AreMovedByRrm, IsRrmSlot}

module _ (n t : ℕ) (rows : List Row) (before : Places) (within : AreWithin n rows) (at_ports : AreAtPorts before) (ports : before.ports ≡ n) where
  -- a pointer that differs was moved by nothing, and so it stayed
  AreAlike-moved : (first_match matched : List (Option Fed)) (a b : Places) → AreMovedByRrm n t rows first_match matched before a
      → AreMovedByRrm n t rows first_match matched before b → AreAlike a b
  AreAlike-moved first_match matched a b r s =
      record {
        ports = r.ports ∙ sym s.ports;
        grant = λ j level. elim (cases_eq (grant_of a j level) (grant_of b j level)) [
          | inl same ↦ same
          | inr differ ↦
              r.grant_stays j level (λ i granted. differ (r.granted i j level granted ∙ sym (s.granted i j level granted)))
              ∙ sym (s.grant_stays j level (λ i granted. differ (r.granted i j level granted ∙ sym (s.granted i j level granted))))
        ];
        accept = λ i level. elim (cases_eq (accept_of a i level) (accept_of b i level)) [
          | inl same ↦ same
          | inr differ ↦
              r.accept_stays i level (λ j served. differ (r.accepted i j level served ∙ sym (s.accepted i j level served)))
              ∙ sym (s.accept_stays i level (λ j served. differ (r.accepted i j level served ∙ sym (s.accepted i j level served))))
        ];
        shared = λ level. elim (cases_eq (shared_of a level) (shared_of b level)) [
          | inl same ↦ same
          | inr differ ↦
              r.shared_stays level (λ i head done. differ (r.passed i level head done ∙ sym (s.passed i level head done)))
              ∙ sym (s.shared_stays level (λ i head done. differ (r.passed i level head done ∙ sym (s.passed i level head done))))
        ];
      }

  pub AreMovedByRrm-only : (first_match matched : List (Option Fed)) → length first_match ≡ n → (a b : Places) → AreAtPorts a → AreAtPorts b
      → AreMovedByRrm n t rows first_match matched before a → AreMovedByRrm n t rows first_match matched before b → a ≡ b
  AreMovedByRrm-only first_match matched size a b x y r s = Places-same a b x y (AreAlike-moved first_match matched a b r s)

  pub IsRrmSlot-only : (rounds : ℕ) (a b : Decision) → AreAtPorts a.places → AreAtPorts b.places → IsRrmSlot n rounds t rows before a
      → IsRrmSlot n rounds t rows before b → a ≡ b
  IsRrmSlot-only rounds = IsSlotBy-only n rounds t rows before within at_ports ports AreMovedByRrm AreMovedByRrm-only
