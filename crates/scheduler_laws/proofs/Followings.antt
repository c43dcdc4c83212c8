-- Followings: which plans follow on which, where requests stay, and at most one cell comes to each input.
use Rattle.std.proofs.Common.{◌≡◌, ℕ, ◌+◌, ◌<◌, [], ◌∷◌, refl, inl, inr, arith}
use Rattle.scheduler_laws.proofs.Plans.{pair}
use Rattle.scheduler_laws.proofs.NextPlans.{Follows}
use Rattle.scheduler_laws.proofs.Shapes.{nothing, takes, ends, again, passes, crosses, wins, both}

-- ---- while an input goes down
-- the next output
pub takes_takes : (x a : ℕ) → 0 < a → Follows (takes x a) (takes x (a + 1))
takes_takes x a some = record {
  asking = (inr (inr (inl (refl, refl))), tt);
  kept = (inr (inl (refl, refl)), (inr (inr (inl (refl, refl))), (inl (inl (refl, refl)), tt)));
  gains = pair x (a + 1) ∷ [];
  gained = (
    inl (inl (refl, refl), inl (λ e f. omega arith, tt)),
    (inl (inr (inl (refl, refl)), inl (λ e f. omega arith, tt)), (inr (inl (refl, refl)), tt)),
  );
  apart = ((λ e. refl, tt), tt);
  held = tt;
  doubled = tt;
}

-- after the last output
pub takes_passes : (x a : ℕ) → 0 < a → Follows (takes x a) (passes x)
takes_passes x a some = record {
  asking = (inr (inr (inl (refl, refl))), tt);
  kept = (inr (inl (refl, refl)), (inr (inr (inl (refl, refl))), (inl (inl (refl, refl)), tt)));
  gains = pair 0 1 ∷ [];
  gained = (
    inl (inl (refl, refl), inl (λ e f. omega arith, tt)),
    (inl (inr (inl (refl, refl)), inl (λ e f. omega arith, tt)), (inr (inl (refl, refl)), tt)),
  );
  apart = ((λ e. refl, tt), tt);
  held = tt;
  doubled = tt;
}

-- before output 2
pub passes_takes : (x : ℕ) → 0 < x → Follows (passes x) (takes 0 2)
passes_takes x some = record {
  asking = (inr (inl (refl, refl)), (inr (inr (inl (refl, refl))), tt));
  kept = (inr (inl (refl, refl)), (inl (inl (refl, refl)), (inl (inr (inl (refl, refl))), tt)));
  gains = pair 0 2 ∷ [];
  gained = (
    inl (inl (refl, refl), inl (λ e f. omega arith, (λ e f. omega arith, tt))),
    (inl (inl (refl, refl), inl (λ e f. omega arith, (λ e f. omega arith, tt))), (inr (inl (refl, refl)), tt)),
  );
  apart = ((λ e. refl, tt), tt);
  held = tt;
  doubled = tt;
}

-- before the last slot
pub takes_ends : (a : ℕ) → 0 < a → Follows (takes 0 a) (ends 0)
takes_ends a some = record {
  asking = (inr (inr (inl (refl, refl))), tt);
  kept = (inr (inl (refl, refl)), (inr (inl (refl, refl)), (inl (inl (refl, refl)), tt)));
  gains = [];
  gained = (
    inl (inl (refl, refl), inl (λ e f. omega arith, tt)),
    (inl (inl (refl, refl), inl (λ e f. omega arith, tt)), tt),
  );
  apart = tt;
  held = tt;
  doubled = tt;
}

-- ---- before an input goes down
-- input 0 takes one output alone
pub passes_crosses : (x y : ℕ) → 0 < x → Follows (passes x) (crosses y (x + 1) 1)
passes_crosses x y some = record {
  asking = (inr (inl (refl, refl)), (inr (inr (inl (refl, refl))), tt));
  kept = (inr (inl (refl, refl)), (inl (inl (refl, refl)), (inl (inr (inl (refl, refl))), tt)));
  gains = pair 0 y ∷ pair 1 1 ∷ pair (x + 1) 1 ∷ [];
  gained = (
    inl (inl (refl, refl), inl (λ e f. omega arith, (λ e f. omega arith, tt))),
    (inr (inl (refl, refl)), (inr (inr (inl (refl, refl))), (inr (inr (inr (inl (refl, refl)))), tt))),
  );
  apart = (
    (λ e. refl, (λ e. absurd (omega arith), (λ e. absurd (omega arith), tt))),
    (
      (λ e. absurd (omega arith), (λ e. refl, (λ e. refl, tt))),
      ((λ e. absurd (omega arith), (λ e. refl, (λ e. refl, tt))), tt),
    ),
  );
  held = tt;
  doubled = tt;
}

-- in the last slot of input 0 the next input begins to ask output 1
pub takes_crosses : (a x y : ℕ) → 0 < x → 0 < a → Follows (takes 0 a) (crosses y (x + 1) 1)
takes_crosses a x y some more = record {
  asking = (inr (inr (inl (refl, refl))), tt);
  kept = (inr (inl (refl, refl)), (inr (inl (refl, refl)), (inl (inl (refl, refl)), tt)));
  gains = pair 0 y ∷ pair 1 1 ∷ pair (x + 1) 1 ∷ [];
  gained = (
    inl (inl (refl, refl), inl (λ e f. omega arith, tt)),
    (inr (inl (refl, refl)), (inr (inr (inl (refl, refl))), (inr (inr (inr (inl (refl, refl)))), tt))),
  );
  apart = (
    (λ e. refl, (λ e. absurd (omega arith), (λ e. absurd (omega arith), tt))),
    (
      (λ e. absurd (omega arith), (λ e. refl, (λ e. refl, tt))),
      ((λ e. absurd (omega arith), (λ e. refl, (λ e. refl, tt))), tt),
    ),
  );
  held = tt;
  doubled = tt;
}

-- and then output 0
pub crosses_takes : (y x v : ℕ) → 0 < y → 0 < x → (x ≡ 1 → v ≡ 1 → ⊥) → Follows (crosses y x v) (takes x v)
crosses_takes y x v more some other = record {
  asking = (inr (inl (refl, refl)), (inr (inr (inl (refl, refl))), tt));
  kept = (
    inr (inl (refl, refl)),
    (inl (inl (refl, refl)), (inl (inr (inl (refl, refl))), (inr (inr (inr (inl (refl, refl)))), tt))),
  );
  gains = pair x 0 ∷ [];
  gained = (
    inl (inl (refl, refl), inl (λ e f. omega arith, (λ e f. omega arith, tt))),
    (inr (inl (refl, refl)), (inl (inr (inr (inr (inl (refl, refl)))), inl (λ e f. omega arith, (other, tt))), tt)),
  );
  apart = ((λ e. refl, tt), tt);
  held = tt;
  doubled = tt;
}

-- ---- as the window begins
-- before the first slot nothing was asked
pub nothing_ends : Follows nothing (ends 0)
nothing_ends = record {
  asking = (inl (refl, refl), tt);
  kept = (inl (inl (refl, refl)), tt);
  gains = pair 0 0 ∷ [];
  gained = (inr (inl (refl, refl)), (inr (inl (refl, refl)), tt));
  apart = ((λ e. refl, tt), tt);
  held = tt;
  doubled = tt;
}

-- input 0 asks output 0 again
pub ends_first : Follows (ends 0) (ends 1)
ends_first = record {
  asking = (inl (refl, refl), tt);
  kept = (inl (inl (refl, refl)), (inl (inl (refl, refl)), tt));
  gains = pair 0 0 ∷ pair 1 0 ∷ [];
  gained = (inr (inl (refl, refl)), (inr (inr (inl (refl, refl))), tt));
  apart = ((λ e. refl, (λ e. refl, tt)), ((λ e. refl, (λ e. refl, tt)), tt));
  held = tt;
  doubled = tt;
}

-- one input after the other
pub ends_ends : (x : ℕ) → 0 < x → Follows (ends x) (ends (x + 1))
ends_ends x some = record {
  asking = (inr (inl (refl, refl)), tt);
  kept = (inr (inl (refl, refl)), (inl (inl (refl, refl)), tt));
  gains = pair (x + 1) 0 ∷ [];
  gained = (inl (inl (refl, refl), inl (λ e f. omega arith, tt)), (inr (inl (refl, refl)), tt));
  apart = ((λ e. refl, tt), tt);
  held = tt;
  doubled = tt;
}

-- input 0 takes output 0 once more
pub ends_again : (x : ℕ) → 0 < x → Follows (ends x) again
ends_again x some = record {
  asking = (inr (inl (refl, refl)), tt);
  kept = (inr (inl (refl, refl)), (inl (inl (refl, refl)), tt));
  gains = pair 0 0 ∷ [];
  gained = (
    inl (inl (refl, refl), inl (λ e f. omega arith, tt)),
    (inl (inl (refl, refl), inl (λ e f. omega arith, tt)), tt),
  );
  apart = ((λ e. refl, tt), tt);
  held = tt;
  doubled = ((inl (refl, refl), inl (refl, refl), (inl (refl, refl), inl (λ e f. omega arith, tt))), tt);
}

-- the window begins
pub again_takes : Follows again (takes 0 1)
again_takes = record {
  asking = (inl (refl, refl), tt);
  kept = (inl (inl (refl, refl)), (inl (inl (refl, refl)), tt));
  gains = pair 0 1 ∷ [];
  gained = (
    inl (inl (refl, refl), inr (inl (refl, refl))),
    (inl (inl (refl, refl), inr (inl (refl, refl))), (inr (inl (refl, refl)), tt)),
  );
  apart = ((λ e. refl, tt), tt);
  held = ((inl (refl, refl), inl (refl, refl), inl (inl (refl, refl))), tt);
  doubled = tt;
}

-- of three ports
pub again_wins : (y w : ℕ) → 0 < w → Follows again (wins y w)
again_wins y w some = record {
  asking = (inl (refl, refl), tt);
  kept = (inl (inl (refl, refl)), (inl (inl (refl, refl)), tt));
  gains = pair 0 y ∷ pair w y ∷ [];
  gained = (
    inl (inl (refl, refl), inr (inl (refl, refl))),
    (inr (inl (refl, refl)), (inr (inr (inl (refl, refl))), tt)),
  );
  apart = ((λ e. refl, (λ e. refl, tt)), ((λ e. refl, (λ e. refl, tt)), tt));
  held = ((inl (refl, refl), inl (refl, refl), inl (inl (refl, refl))), tt);
  doubled = tt;
}

-- of more
pub takes_wins : (a y w : ℕ) → 0 < a → 0 < w → Follows (takes 0 a) (wins y w)
takes_wins a y w more some = record {
  asking = (inr (inr (inl (refl, refl))), tt);
  kept = (inr (inl (refl, refl)), (inr (inl (refl, refl)), (inl (inl (refl, refl)), tt)));
  gains = pair 0 y ∷ pair w y ∷ [];
  gained = (
    inl (inl (refl, refl), inl (λ e f. omega arith, tt)),
    (inr (inl (refl, refl)), (inr (inr (inl (refl, refl))), tt)),
  );
  apart = ((λ e. refl, (λ e. refl, tt)), ((λ e. refl, (λ e. refl, tt)), tt));
  held = tt;
  doubled = tt;
}

-- a second cell comes for the request that stands
pub wins_both : (y w : ℕ) → 0 < w → Follows (wins 2 w) (both y w)
wins_both y w some = record {
  asking = (inr (inl (refl, refl)), tt);
  kept = (inr (inl (refl, refl)), (inl (inl (refl, refl)), (inr (inr (inr (inl (refl, refl)))), tt)));
  gains = pair 0 y ∷ pair w 2 ∷ [];
  gained = (
    inl (inl (refl, refl), inl (λ e f. omega arith, tt)),
    (inr (inl (refl, refl)), (inl (inr (inr (inl (refl, refl))), inl (λ e f. omega arith, tt)), tt)),
  );
  apart = ((λ e. refl, (λ e. absurd (omega arith), tt)), ((λ e. absurd (omega arith), (λ e. refl, tt)), tt));
  held = tt;
  doubled = (
    (
      inr (inr (inl (refl, refl))),
      inr (inl (refl, refl)),
      (inr (inr (inl (refl, refl))), inl (λ e f. omega arith, tt)),
    ),
    tt,
  );
}

-- and one more for the one that is served
pub both_both : (y w : ℕ) → 0 < y → 0 < w → Follows (both y w) (both (y + 1) w)
both_both y w more some = record {
  asking = (inr (inl (refl, refl)), (inr (inr (inl (refl, refl))), tt));
  kept = (inr (inl (refl, refl)), (inl (inl (refl, refl)), (inl (inr (inl (refl, refl))), tt)));
  gains = pair 0 (y + 1) ∷ pair w 2 ∷ [];
  gained = (
    inl (inl (refl, refl), inl (λ e f. omega arith, (λ e f. omega arith, tt))),
    (inr (inl (refl, refl)), (inl (inr (inr (inl (refl, refl))), inr (inl (refl, refl))), tt)),
  );
  apart = ((λ e. refl, (λ e. absurd (omega arith), tt)), ((λ e. absurd (omega arith), (λ e. refl, tt)), tt));
  held = ((inr (inr (inl (refl, refl))), inr (inr (inl (refl, refl))), inl (inr (inl (refl, refl)))), tt);
  doubled = (
    (inr (inr (inl (refl, refl))), inr (inl (refl, refl)), (inr (inr (inl (refl, refl))), inr (inl (refl, refl)))),
    tt,
  );
}

-- the request of input 1 for output 2 stands on
pub both_crosses : (y : ℕ) → 0 < y → Follows (both y 1) (crosses (y + 1) 1 2)
both_crosses y more = record {
  asking = (inr (inl (refl, refl)), (inr (inr (inl (refl, refl))), tt));
  kept = (inr (inl (refl, refl)), (inl (inl (refl, refl)), (inl (inr (inl (refl, refl))), tt)));
  gains = pair 0 (y + 1) ∷ pair 1 1 ∷ [];
  gained = (
    inl (inl (refl, refl), inl (λ e f. omega arith, (λ e f. omega arith, tt))),
    (
      inr (inl (refl, refl)),
      (inr (inr (inl (refl, refl))), (inl (inr (inr (inl (refl, refl))), inr (inl (refl, refl))), tt)),
    ),
  );
  apart = ((λ e. refl, (λ e. absurd (omega arith), tt)), ((λ e. absurd (omega arith), (λ e. refl, tt)), tt));
  held = ((inr (inr (inl (refl, refl))), inr (inr (inr (inl (refl, refl)))), inl (inr (inl (refl, refl)))), tt);
  doubled = tt;
}

-- so it does with four ports
pub wins_crosses : (y : ℕ) → Follows (wins 2 1) (crosses y 1 2)
wins_crosses y = record {
  asking = (inr (inl (refl, refl)), tt);
  kept = (inr (inl (refl, refl)), (inl (inl (refl, refl)), (inr (inr (inr (inr (inl (refl, refl))))), tt)));
  gains = pair 0 y ∷ pair 1 1 ∷ [];
  gained = (
    inl (inl (refl, refl), inl (λ e f. omega arith, tt)),
    (
      inr (inl (refl, refl)),
      (inr (inr (inl (refl, refl))), (inl (inr (inr (inl (refl, refl))), inl (λ e f. omega arith, tt)), tt)),
    ),
  );
  apart = ((λ e. refl, (λ e. absurd (omega arith), tt)), ((λ e. absurd (omega arith), (λ e. refl, tt)), tt));
  held = tt;
  doubled = tt;
}

-- the request of input 1 for output 1 stands on, and it begins to ask output 0
pub wins_crosses_zero : (y : ℕ) → Follows (wins 1 1) (crosses y 1 0)
wins_crosses_zero y = record {
  asking = (inr (inl (refl, refl)), tt);
  kept = (inr (inl (refl, refl)), (inl (inl (refl, refl)), (inr (inr (inr (inl (refl, refl)))), tt)));
  gains = pair 0 y ∷ pair 1 0 ∷ [];
  gained = (
    inl (inl (refl, refl), inl (λ e f. omega arith, tt)),
    (
      inr (inl (refl, refl)),
      (inl (inr (inr (inl (refl, refl))), inl (λ e f. omega arith, tt)), (inr (inr (inl (refl, refl))), tt)),
    ),
  );
  apart = ((λ e. refl, (λ e. absurd (omega arith), tt)), ((λ e. absurd (omega arith), (λ e. refl, tt)), tt));
  held = tt;
  doubled = tt;
}

-- and then output 2
pub crosses_zero_takes : (y : ℕ) → 0 < y → Follows (crosses y 1 0) (takes 1 2)
crosses_zero_takes y more = record {
  asking = (inr (inl (refl, refl)), (inr (inr (inl (refl, refl))), tt));
  kept = (
    inr (inl (refl, refl)),
    (inl (inl (refl, refl)), (inl (inr (inl (refl, refl))), (inr (inr (inl (refl, refl))), tt))),
  );
  gains = pair 1 2 ∷ [];
  gained = (
    inl (inl (refl, refl), inl (λ e f. omega arith, (λ e f. omega arith, tt))),
    (
      inl (inr (inr (inr (inl (refl, refl)))), inl (λ e f. omega arith, (λ e f. omega arith, tt))),
      (inr (inl (refl, refl)), tt),
    ),
  );
  apart = ((λ e. refl, tt), tt);
  held = tt;
  doubled = tt;
}
