-- A slot leaves no choice: one place for each pointer.
use Rattle.std.proofs.Common.{◌≡◌, ℕ, ◌∙◌, List, Option, length, sym, inl, inr}
use Rattle.std.proofs.lemmas.Bool.{cases_eq}
use Rattle.rotating_pick.specs.Rotation.{IsFirstFrom}
use Rattle.rotating_pick.specs.declared.kinds.Kind.TheVariants.{Uni}
use Rattle.slot_match.specs.declared.rows.Row.{Row}
use Rattle.slot_match.specs.declared.matching.Fed.{Fed}
use Rattle.slot_match.specs.Rows.{HasHead, AreWithin}
use Rattle.slot_match.specs.Matches.{Serves, Completes}
use Rattle.pointer_state.specs.Places.{Places, AreAtPorts, grant_of, accept_of, shared_of}
use Rattle.pointer_state.proofs.Same.{AreAlike, Places-same}
use Rattle.eslip_rounds.specs.Slots.{Decision, IsRefused}
use Rattle.eslip_rounds.proofs.Unique.{IsSlotBy-only}
use Rattle.firm_rounds.specs.Slots.{AreMovedByFirm, IsFirmSlot}

module _ (n t : ℕ) (rows : List Row) (before : Places) (within : AreWithin n rows) (at_ports : AreAtPorts before) (ports : before.ports ≡ n) where
  -- a pointer that differs was moved by nothing, and so it stayed
  AreAlike-moved : (first_match matched : List (Option Fed)) (a b : Places) → AreMovedByFirm n t rows first_match matched before a
      → AreMovedByFirm n t rows first_match matched before b → AreAlike a b
  AreAlike-moved first_match matched a b r s =
      record {
        ports = r.ports ∙ sym s.ports;
        grant = λ j level. elim (cases_eq (grant_of a j level) (grant_of b j level)) [
          | inl same ↦ same
          | inr differ ↦
              let unserved : (i : ℕ) → Serves first_match i j level Uni → ⊥ = λ i served.
              differ (r.granted i j level served ∙ sym (s.granted i j level served)) in
              let unrefused : (i : ℕ) → IsRefused n t rows before i j level → ⊥ = λ i refused.
              differ (r.held i j level refused ∙ sym (s.held i j level refused)) in
              r.grant_stays j level unserved unrefused ∙ sym (s.grant_stays j level unserved unrefused)
        ];
        accept = λ i level. elim (cases_eq (accept_of a i level) (accept_of b i level)) [
          | inl same ↦ same
          | inr differ ↦
              let none : (j : ℕ) → Serves first_match i j level Uni → ⊥ = λ j served.
              differ (r.accepted i j level served ∙ sym (s.accepted i j level served)) in
              r.accept_stays i level none ∙ sym (s.accept_stays i level none)
        ];
        shared = λ level. elim (cases_eq (shared_of a level) (shared_of b level)) [
          | inl same ↦ same
          | inr differ ↦
              let none : (i : ℕ) → IsFirstFrom n (shared_of before level) (HasHead rows level) i → Completes rows matched level i → ⊥ = λ i head done.
              differ (r.passed i level head done ∙ sym (s.passed i level head done)) in
              r.shared_stays level none ∙ sym (s.shared_stays level none)
        ];
      }

  -- so the pointers after the slot are one
  pub AreMovedByFirm-only : (first_match matched : List (Option Fed)) → length first_match ≡ n → (a b : Places) → AreAtPorts a → AreAtPorts b
      → AreMovedByFirm n t rows first_match matched before a → AreMovedByFirm n t rows first_match matched before b → a ≡ b
  AreMovedByFirm-only first_match matched size a b x y r s = Places-same a b x y (AreAlike-moved first_match matched a b r s)

  -- and so is all that it decides
  pub IsFirmSlot-only : (rounds : ℕ) (a b : Decision) → AreAtPorts a.places → AreAtPorts b.places → IsFirmSlot n rounds t rows before a
      → IsFirmSlot n rounds t rows before b → a ≡ b
  IsFirmSlot-only rounds = IsSlotBy-only n rounds t rows before within at_ports ports AreMovedByFirm AreMovedByFirm-only
