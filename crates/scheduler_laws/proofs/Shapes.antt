-- Shapes: the plans that the families are made of, and the pointers that suit them.
use Rattle.std.proofs.Common.{◌≡◌, ℕ, ◌+◌, ◌<◌, ◌≤◌, ◌⊎◌, ◌∙◌, [], ◌∷◌, refl, ap, sym, inl, inr, arith}
use Rattle.rotating_pick.specs.Rotation.{distance}
use Rattle.pointer_state.specs.Places.{Places, grant_of, accept_of}
use Rattle.service_bound.proofs.Distances.{distance-below, distance-own}
use Rattle.scheduler_laws.proofs.Plans.{pair, In, Plan, asked}
use Rattle.scheduler_laws.proofs.PlannedSlots.{Suits, IsPassed}

-- before all slots: nothing is left
abbrev pub nothing : Plan
nothing = record { asks = []; serves = pair 0 0 ∷ []; twice = [] }

-- input x asks outputs 0 and y, and takes y
abbrev pub takes : ℕ → ℕ → Plan
takes x y = record { asks = pair x 0 ∷ pair x y ∷ []; serves = pair x y ∷ []; twice = [] }

-- input x asks output 0 alone, and takes it
abbrev pub ends : ℕ → Plan
ends x = record { asks = pair x 0 ∷ []; serves = pair x 0 ∷ []; twice = [] }

-- input 0 takes output 0, for which two cells wait
abbrev pub again : Plan
again = record { asks = pair 0 0 ∷ []; serves = pair 0 0 ∷ []; twice = pair 0 0 ∷ [] }

-- input x takes output 0, and input 0 takes output 1
abbrev pub passes : ℕ → Plan
passes x = record { asks = pair x 0 ∷ pair 0 1 ∷ []; serves = pair x 0 ∷ pair 0 1 ∷ []; twice = [] }

-- input 0 takes output y and input 1 output 1, while one more request stands
abbrev pub crosses : ℕ → ℕ → ℕ → Plan
crosses y u v = record { asks = pair 0 y ∷ pair 1 1 ∷ pair u v ∷ []; serves = pair 0 y ∷ pair 1 1 ∷ []; twice = [] }

-- input 0 takes output y, which input w asks too
abbrev pub wins : ℕ → ℕ → Plan
wins y w = record { asks = pair 0 y ∷ pair w y ∷ []; serves = pair 0 y ∷ []; twice = [] }

-- input 0 takes output y, and input w output 2, for which two cells wait
abbrev pub both : ℕ → ℕ → Plan
both y w = record { asks = pair 0 y ∷ pair w 2 ∷ []; serves = pair 0 y ∷ pair w 2 ∷ []; twice = pair w 2 ∷ [] }

-- from where a pointer stands it is no step
no_step : (n from x : ℕ) → x < n → from ≡ x → distance n from x ≡ 0
no_step n from x x_in at = ap (λ f. distance n f x) at ∙ distance-own n x x_in

-- and so it is no farther than any other port
pub at_first : (n from x v : ℕ) → x < n → from ≡ x → distance n from x ≤ distance n from v
at_first n from x v x_in at = let none = no_step n from x x_in at in omega arith

-- where output 0 points at another input that asks it, input 0 is passed
pub zero_passed : (n : ℕ) (places : Places) (p : Plan) (x : ℕ) → 0 < x → x < n → grant_of places 0 0 ≡ x → In x 0 (asked p) → IsPassed n places p 0 0
zero_passed n places p x some x_in at is =
    let near = no_step n (grant_of places 0 0) x x_in at in
    let far : distance n (grant_of places 0 0) 0 + x ≡ 0 + n = ap (λ f. distance n f 0 + x) at ∙ distance-below n x 0 x_in (omega arith) some in
    (x, x_in, is, omega arith)

-- input x points at output y, and output 0 at the input if it is not input 0
pub suits_takes : (n : ℕ) (places : Places) (x y : ℕ) → x < n → 0 < y → y < n → (x ≡ 0) ⊎ ((0 < x) × (grant_of places 0 0 ≡ x))
    → accept_of places x 0 ≡ y → Suits n places (takes x y)
suits_takes n places x y x_in some y_in front at = record {
  placed = ((x_in, y_in, inr (inr (inl (refl, refl)))), tt);
  near = ((λ e. absurd (omega arith), (λ e. absurd (omega arith), (λ e. omega arith, tt))), tt);
  taken = (
    (
      λ e. inl (at_first n (accept_of places x 0) y 0 y_in at),
      (λ e. inl (at_first n (accept_of places x 0) y 0 y_in at), (λ e. inl (omega arith), tt)),
    ),
    tt,
  );
  done = (
    elim front [
      | inl zero ↦ inl (y, inl (sym zero, refl))
      | inr other ↦ inr (inr (zero_passed n places (takes x y) x other.0 x_in other.1 (inr (inl (refl, refl)))))
    ],
    (inl (y, inl (refl, refl)), (inl (y, inl (refl, refl)), tt)),
  );
}

-- output 0 points at the input
pub suits_ends : (n : ℕ) (places : Places) (x : ℕ) → x < n → grant_of places 0 0 ≡ x → Suits n places (ends x)
suits_ends n places x x_in at = record {
  placed = ((x_in, omega arith, inr (inl (refl, refl))), tt);
  near = ((λ e. at_first n (grant_of places 0 0) x 0 x_in at, (λ e. omega arith, tt)), tt);
  taken = ((λ e. inl (omega arith), (λ e. inl (omega arith), tt)), tt);
  done = (inr (inl (x, inl (refl, refl))), (inl (0, inl (refl, refl)), tt));
}

-- the same of input 0
pub suits_again : (n : ℕ) (places : Places) → 0 < n → grant_of places 0 0 ≡ 0 → Suits n places again
suits_again n places some at = record {
  placed = ((some, some, inr (inl (refl, refl))), tt);
  near = ((λ e. omega arith, (λ e. omega arith, tt)), tt);
  taken = ((λ e. inl (omega arith), (λ e. inl (omega arith), tt)), tt);
  done = (inl (0, inl (refl, refl)), (inl (0, inl (refl, refl)), tt));
}

-- output 0 points at the input
pub suits_passes : (n : ℕ) (places : Places) (x : ℕ) → 0 < x → x < n → grant_of places 0 0 ≡ x → Suits n places (passes x)
suits_passes n places x some x_in at = record {
  placed = ((x_in, omega arith, inr (inl (refl, refl))), ((omega arith, omega arith, inr (inr (inl (refl, refl)))), tt));
  near = (
    (λ e. at_first n (grant_of places 0 0) x 0 x_in at, (λ e. omega arith, (λ e. absurd (omega arith), tt))),
    ((λ e. absurd (omega arith), (λ e. absurd (omega arith), (λ e. omega arith, tt))), tt),
  );
  taken = (
    (λ e. absurd (omega arith), (λ e. inl (omega arith), (λ e. absurd (omega arith), tt))),
    ((λ e. inr (zero_passed n places (passes x) x some x_in at (inr (inl (refl, refl)))), (λ e. absurd (omega arith), (λ e. inl (omega arith), tt))), tt),
  );
  done = (inl (1, inr (inl (refl, refl))), (inl (0, inl (refl, refl)), (inl (1, inr (inl (refl, refl))), tt)));
}

-- Input 0 points at output y, and input u asks output v: output 1, which points at input 1, or it is input 1, whose pointer is
-- nearer to output 1.
pub record IsCrossing (n y u v : ℕ) (places : Places) : Type 0 where
  pub at : accept_of places 0 0 ≡ y
  pub some : 0 < u
  pub other : v ≡ y → ⊥
  pub how : ((v ≡ 1) × (grant_of places 1 0 ≡ 1)) ⊎ ((u ≡ 1) × (distance n (accept_of places 1 0) 1 ≤ distance n (accept_of places 1 0) v))

-- so the pointers suit the plan
pub suits_crosses : (n : ℕ) (places : Places) (y u v : ℕ) → 1 < y → y < n → IsCrossing n y u v places → Suits n places (crosses y u v)
suits_crosses n places y u v more y_in crossing = record {
  placed = ((omega arith, y_in, inr (inl (refl, refl))), ((omega arith, omega arith, inr (inr (inl (refl, refl)))), tt));
  near = (
    (λ e. absurd (omega arith), (λ e. omega arith, (λ e. absurd (omega arith), (λ e. absurd (crossing.other e), tt)))),
    ((λ e. absurd (omega arith), (λ e. absurd (omega arith), (λ e. omega arith, (λ e. granting, tt)))), tt),
  );
  taken = (
    (
      λ e. inl (at_first n (accept_of places 0 0) y 0 y_in crossing.at),
      (λ e. inl (omega arith), (λ e. absurd (omega arith), (λ e. let some = crossing.some in absurd (omega arith), tt))),
    ),
    ((λ e. absurd (omega arith), (λ e. absurd (omega arith), (λ e. inl (omega arith), (λ e. inl accepting, tt)))), tt),
  );
  done = (
    inl (y, inl (refl, refl)),
    (
      inl (y, inl (refl, refl)),
      (
        inl (1, inr (inl (refl, refl))),
        (
          elim crossing.how [
            | inl output ↦ inr (inl (1, inr (inl (refl, output.0))))
            | inr input ↦ inl (1, inr (inl (input.0, refl)))
          ],
          tt,
        ),
      ),
    ),
  );
} where
  granting : distance n (grant_of places 1 0) 1 ≤ distance n (grant_of places 1 0) u
  granting = elim crossing.how [
    | inl output ↦ at_first n (grant_of places 1 0) 1 u (omega arith) output.1
    | inr input ↦ let same = ap (distance n (grant_of places 1 0)) input.0 in omega arith
  ]

  accepting : distance n (accept_of places 1 0) 1 ≤ distance n (accept_of places 1 0) v
  accepting = elim crossing.how [
    | inl output ↦ let same = ap (distance n (accept_of places 1 0)) output.0 in omega arith
    | inr input ↦ input.1
  ]

-- input 0 points at output y
pub suits_both : (n : ℕ) (places : Places) (y w : ℕ) → 2 < y → y < n → 0 < w → w < n → accept_of places 0 0 ≡ y → Suits n places (both y w)
suits_both n places y w high y_in some_w w_in at = record {
  placed = ((omega arith, y_in, inr (inl (refl, refl))), ((w_in, omega arith, inr (inr (inl (refl, refl)))), tt));
  near = (
    (λ e. absurd (omega arith), (λ e. omega arith, (λ e. absurd (omega arith), tt))),
    ((λ e. absurd (omega arith), (λ e. absurd (omega arith), (λ e. omega arith, tt))), tt),
  );
  taken = (
    (λ e. inl (at_first n (accept_of places 0 0) y 0 y_in at), (λ e. inl (omega arith), (λ e. absurd (omega arith), tt))),
    ((λ e. absurd (omega arith), (λ e. absurd (omega arith), (λ e. inl (omega arith), tt))), tt),
  );
  done = (inl (y, inl (refl, refl)), (inl (y, inl (refl, refl)), (inl (2, inr (inl (refl, refl))), tt)));
}

-- input 0 points at output y, which points at input 0
pub suits_wins : (n : ℕ) (places : Places) (y w : ℕ) → 0 < y → y < n → 0 < w → accept_of places 0 0 ≡ y → grant_of places y 0 ≡ 0
    → Suits n places (wins y w)
suits_wins n places y w some y_in some_w at granting = record {
  placed = ((omega arith, y_in, inr (inl (refl, refl))), tt);
  near = ((λ e. absurd (omega arith), (λ e. omega arith, (λ e. at_first n (grant_of places y 0) 0 w (omega arith) granting, tt))), tt);
  taken = ((λ e. inl (at_first n (accept_of places 0 0) y 0 y_in at), (λ e. inl (omega arith), (λ e. absurd (omega arith), tt))), tt);
  done = (inl (y, inl (refl, refl)), (inl (y, inl (refl, refl)), (inr (inl (0, inl (refl, refl))), tt)));
}
