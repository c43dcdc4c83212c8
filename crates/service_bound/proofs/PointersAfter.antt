-- After a slot the pointers of the level are at ports again; which head the shared pointer passes.
use Rattle.std.proofs.Common.{◌≡◌, ℕ, ◌+◌, ◌%◌, ◌<◌, ◌⊎◌, List, Option, length, sym, subst, inl, inr, arith}
use Rattle.std.proofs.lemmas.Bool.{cases_lt}
use Rattle.std.proofs.lemmas.Nat.{mod_below}
use Rattle.std_lemmas.proofs.Numbers.{below_by}
use Rattle.rotating_pick.specs.Rotation.{IsFirstFrom}
use Rattle.rotating_pick.specs.declared.kinds.Kind.TheVariants.{Uni}
use Rattle.rotating_pick.proofs.First.{IsFirstFrom-only}
use Rattle.rotating_pick.proofs.Picking.{Decides, IsFirstFrom-some}
use Rattle.slot_match.specs.declared.rows.Row.{Row}
use Rattle.slot_match.specs.declared.matching.Fed.{Fed}
use Rattle.slot_match.specs.Rows.{HasHead, AreWithin}
use Rattle.slot_match.specs.Matches.{Serves, Completes}
use Rattle.slot_match.proofs.Pairs.{Serves-decides, fed_of-lt}
use Rattle.pointer_state.specs.Places.{Places, ArePointing, grant_of, accept_of, shared_of}
use Rattle.eslip_rounds.specs.Slots.{AreMoved}
use Rattle.eslip_rounds.proofs.Deciding.{some_below, Completes-or, HasHead-decides}
use Rattle.eslip_rounds.proofs.Unique.{fed_by}

module _ (n level : ℕ) (rows : List Row) (before : Places) (within : AreWithin n rows) (pointing : ArePointing n level before) where
  -- whether there is an input i, and it has a head
  head : (i : ℕ) → Decides ((i < n) × HasHead rows level i)
  head i = elim (cases_lt i n) [
    | inl i_in ↦ elim (HasHead-decides n rows level i within i_in) [ inl has ↦ inl (i_in, has) | inr none ↦ inr (λ p. none p.1) ]
    | inr out ↦ inr (λ p. absurd (let i_in = p.0 in omega arith))
  ]

  -- where some input has a head, one is first from the shared pointer on
  pub first_head : (i : ℕ) → i < n → HasHead rows level i → (p : ℕ) × IsFirstFrom n (shared_of before level) (HasHead rows level) p
  first_head i i_in has =
      let first = IsFirstFrom-some n (shared_of before level) (λ x. (x < n) × HasHead rows level x) head pointing.shared i i_in (i_in, has) in
      (first.0, record { below = first.1.below; member = first.1.member.1; least = λ y y_in there. first.1.least y y_in (y_in, there) })

  -- the head that the shared pointer passes, if it passes one
  pub passed_head : (matched : List (Option Fed)) → ((p : ℕ) × IsFirstFrom n (shared_of before level) (HasHead rows level) p × Completes rows matched level p)
      ⊎ ((p : ℕ) → IsFirstFrom n (shared_of before level) (HasHead rows level) p → Completes rows matched level p → ⊥)
  passed_head matched =
      elim (some_below (λ x. (x < n) × HasHead rows level x) head n) [
        | inr none ↦ inr (λ p first done. none (p, first.below, (first.below, first.member)))
        | inl found ↦
            let first = first_head found.0 found.1 found.2.1 in
            elim (Completes-or n rows matched level first.0 within first.1.below) [
              | inl done ↦ inl (first.0, first.1, done)
              | inr left ↦ inr (λ p also done.
                  let same : first.0 ≡ p = IsFirstFrom-only n (shared_of before level) (HasHead rows level) first.0 p pointing.shared first.1 also in
                  left.2 (subst (Completes rows matched level) (sym same) done left.0 left.1))
            ]
      ]

  module _ (t : ℕ) (some : 0 < n) (first matched : List (Option Fed)) (size : length first ≡ n) (after : Places)
      (moved : AreMoved n t rows first matched before after) where
    grant_after : (j : ℕ) → j < n → grant_of after j level < n
    grant_after j j_in = elim (fed_by first j level) [
      | inl met ↦ below_by n (grant_of after j level) ((met.0 + 1) % n) (moved.granted met.0 j level met.1) (mod_below (met.0 + 1) n some)
      | inr none ↦ below_by n (grant_of after j level) (grant_of before j level) (moved.grant_stays j level none) (pointing.grant j j_in)
    ]

    accept_after : (i : ℕ) → i < n → accept_of after i level < n
    accept_after i i_in = elim (some_below (λ j. Serves first i j level Uni) (λ j. Serves-decides first i j level Uni) n) [
      | inl met ↦ below_by n (accept_of after i level) ((met.0 + 1) % n) (moved.accepted i met.0 level met.2) (mod_below (met.0 + 1) n some)
      | inr none ↦
          let nobody = λ (j : ℕ) (s : Serves first i j level Uni). let below = fed_of-lt first j (record { input = i; level = level; kind = Uni }) s in
          none (j, omega arith, s) in
          below_by n (accept_of after i level) (accept_of before i level) (moved.accept_stays i level nobody) (pointing.accept i i_in)
    ]

    shared_after : shared_of after level < n
    shared_after = elim (passed_head matched) [
      | inl passed ↦ below_by n (shared_of after level) ((passed.0 + 1) % n) (moved.passed passed.0 level passed.1 passed.2) (mod_below (passed.0 + 1) n some)
      | inr none ↦ below_by n (shared_of after level) (shared_of before level) (moved.shared_stays level none) pointing.shared
    ]

    pub ArePointing-after : ArePointing n level after
    ArePointing-after = record { grant = grant_after; accept = accept_after; shared = shared_after }
