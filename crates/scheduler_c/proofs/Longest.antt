-- The longest wait of a level, place by place.
use Rattle.std.proofs.Common.{◌≡◌, ℕ, ◌+◌, ◌%◌, ◌<◌, ◌≤◌, ◌⊎◌, ◌∙◌, List, max, refl, sym, subst, inl, inr, arith}
use Rattle.std.proofs.lemmas.Bool.{cases_eq, cases_lt}
use Rattle.rotating_pick.specs.declared.limits.TheConstants.{LEVELS, MAX_PORTS}
use Rattle.scheduler_c.specs.Waits.{IsLongest, word_at}

-- the waits at the first places are as before, and those of one place more are noted
module _ (level places : ℕ) (old new : List ℕ) (before mid : ℕ)
    (kept : (k j : ℕ) → k < places → j < MAX_PORTS → word_at new k j ≡ word_at old k j) (was : IsLongest level places old before mid) where
  -- what was reached at an earlier place stands there
  reached_still : (after : ℕ) → after ≡ mid
      → (after ≡ before) ⊎ ((k : ℕ) × (j : ℕ) × (k < places + 1) × (k % LEVELS ≡ level) × (j < MAX_PORTS) × (after ≡ word_at new k j))
  reached_still after same =
      elim was.reached [
        | inl e ↦ inl (same ∙ e)
        | inr f ↦ inr (f.0, f.1, omega (arith, f.2), f.3, f.4, same ∙ (f.5 ∙ sym (kept f.0 f.1 f.2 f.4)))
      ]

  -- a place of another level
  pub IsLongest-other : (places % LEVELS ≡ level → ⊥) → IsLongest level (places + 1) new before mid
  IsLongest-other other =
      record {
        grown = was.grown;
        bound = λ k j k_in at j_in. elim (cases_eq k places) [
          | inl same ↦ absurd (other (subst (λ p. p % LEVELS ≡ level) same at))
          | inr apart ↦ let here = kept k j (omega arith) j_in in let below = was.bound k j (omega arith) at j_in in omega arith
        ];
        reached = reached_still mid refl;
      }

  -- a place of the level, whose longest wait is `most`
  pub IsLongest-here : (most after : ℕ) → places % LEVELS ≡ level → ((j : ℕ) → j < MAX_PORTS → word_at new places j ≤ most)
      → (most ≡ 0) ⊎ ((j : ℕ) × (j < MAX_PORTS) × (most ≡ word_at new places j)) → after ≡ max mid most → IsLongest level (places + 1) new before after
  IsLongest-here most after here bound reached longer =
      record {
        grown = let grown = was.grown in omega arith;
        bound = λ k j k_in at j_in. elim (cases_eq k places) [
          | inl same ↦ let below = bound j j_in in subst (λ p. word_at new p j ≤ after) (sym same) (omega arith)
          | inr apart ↦ let as_before = kept k j (omega arith) j_in in let below = was.bound k j (omega arith) at j_in in omega arith
        ];
        reached = elim (cases_lt mid most) [
          | inl less ↦ elim reached [
            | inl none ↦ absurd (omega arith)
            | inr f ↦ inr (places, f.0, omega arith, here, f.1, (let same : after ≡ most = omega arith in same ∙ f.2))
          ]
          | inr more ↦ reached_still after (omega arith)
        ];
      }
