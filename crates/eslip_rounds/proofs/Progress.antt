-- A slot with something to do matches a pair.
use Rattle.std.proofs.Common.{◌≡◌, ℕ, ◌<◌, ◌⊎◌, ◌∙◌, List, [], ◌∷◌, Option, None, Some, length, refl, sym, subst, inl, inr, arith}
use Rattle.std.proofs.lemmas.List.{ext_get_or}
use Rattle.std.proofs.lemmas.Option.{none-some}
use Rattle.rotating_pick.specs.declared.kinds.Kind.{Kind}
use Rattle.rotating_pick.proofs.Picking.{Decides, least}
use Rattle.slot_match.specs.declared.rows.Row.{Row}
use Rattle.slot_match.specs.declared.matching.Fed.{Fed}
use Rattle.slot_match.specs.Rows.{Names, row_of, AreWithin}
use Rattle.slot_match.specs.Matches.{unmatched, fed_of, Serves}
use Rattle.slot_match.proofs.Pairs.{Serves-from}
use Rattle.slot_match.proofs.Kept.{IsMatch-unmatched, nobody_at_first, fed_of-unmatched}
use Rattle.pointer_state.specs.Places.{Places, AreAtPorts}
use Rattle.islip_rounds.specs.Numbers.{last_of}
use Rattle.eslip_rounds.specs.Rounds.{IsRound, AreRounds}
use Rattle.eslip_rounds.specs.Slots.{Decision, Moving, AreMoved, IsSlotBy, IsSlot}
use Rattle.eslip_rounds.proofs.Running.{AreRounds-keep}
use Rattle.eslip_rounds.proofs.Enough.{IsMaximal-from_round}

is_fed : (o : Option Fed) → ((f : Fed) × (o ≡ Some f)) ⊎ (o ≡ None)
is_fed None = inr refl
is_fed (Some f) = inl (f, refl)

module _ (n t : ℕ) (rows : List Row) (places : Places) (within : AreWithin n rows) (at_ports : AreAtPorts places) (ports : places.ports ≡ n) where
  -- some output is fed, or none is
  some_fed : (matched : List (Option Fed)) → ((x y level : ℕ) × (kind : Kind) × Serves matched x y level kind) ⊎ ((j : ℕ) → j < n → fed_of matched j ≡ None)
  some_fed matched =
      let P : ℕ → Type 0 = λ j. (f : Fed) × (fed_of matched j ≡ Some f) in
      let dec : (j : ℕ) → Decides (P j) =
      λ j. elim (is_fed (fed_of matched j)) [ inl found ↦ inl found | inr none ↦ inr (λ p. none-some p.0 (sym none ∙ p.1)) ] in
      elim (least P dec n) [
        | inl found ↦ let f = found.2.0 in inl (f.input, found.0, f.level, f.kind, Serves-from matched found.0 f found.2.1)
        | inr none ↦ inr (λ j below. elim (is_fed (fed_of matched j)) [ inl fed ↦ absurd (none j below fed) | inr free ↦ free ])
      ]

  -- a first round that matches nothing began with empty rows
  nothing_named : (step : List (Option Fed)) → IsRound n t rows places (unmatched n) step → ((j : ℕ) → j < n → fed_of step j ≡ None)
      → (i j level : ℕ) (kind : Kind) → i < n → Names (row_of rows i) level kind j → ⊥
  nothing_named step round none i j level kind i_in named =
      let same : unmatched n ≡ step =
      ext_get_or None (unmatched n) step ((IsMatch-unmatched n).count ∙ sym round.count)
      (λ k below. fed_of-unmatched n k ∙ sym (none k (let size = (IsMatch-unmatched n).count in omega arith))) in
      let maximal = IsMaximal-from_round n t rows places at_ports ports (unmatched n) (IsMatch-unmatched n)
      (subst (IsRound n t rows places (unmatched n)) (sym same) round) within in
      maximal.free i j level kind i_in (within.ports i i_in level j kind named) (nobody_at_first n i) (fed_of-unmatched n j) named

  some_matched : (steps : List (List (Option Fed))) → 0 < length steps → AreRounds n t rows places (unmatched n) steps → (i j level : ℕ) (kind : Kind) → i < n
      → Names (row_of rows i) level kind j → (x y l : ℕ) × (k : Kind) × Serves (last_of (unmatched n) steps) x y l k
  some_matched [] some chain i j level kind i_in named = absurd (omega arith)
  some_matched (step ∷ steps) some chain i j level kind i_in named =
      elim (some_fed step) [
        | inl found ↦ (found.0, found.1, found.2, found.3, AreRounds-keep n t rows places step steps chain.1 found.0 found.1 found.2 found.3 found.4)
        | inr none ↦ absurd (nothing_named step chain.0 none i j level kind i_in named)
      ]

  pub some_pair_by : (Moves : Moving) (rounds : ℕ) (a : Decision) → 0 < rounds
      → IsSlotBy Moves n rounds t rows places a → (i j level : ℕ) (kind : Kind) → i < n → Names (row_of rows i) level kind j → (x y l : ℕ) × (k : Kind)
      × Serves a.matched x y l k
  some_pair_by Moves rounds a some r i j level kind i_in named =
      let count = r.count in
      let P : List (Option Fed) → Type 0 = λ m. (x y l : ℕ) × (k : Kind) × Serves m x y l k in
      subst P (sym r.result) (some_matched r.steps (omega arith) r.chain i j level kind i_in named)

  pub some_pair : (rounds : ℕ) (a : Decision) → 0 < rounds → IsSlot n rounds t rows places a → (i j level : ℕ) (kind : Kind) → i < n
      → Names (row_of rows i) level kind j → (x y l : ℕ) × (k : Kind) × Serves a.matched x y l k
  some_pair = some_pair_by AreMoved
