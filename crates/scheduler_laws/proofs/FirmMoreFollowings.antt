-- Followings of more rounds under FIRM, before the last input goes down, and all those of few ports: which
-- plans of its family follow on which, where requests stay, and at most one cell comes to each input.
use Rattle.std.proofs.Common.{◌≡◌, ℕ, ◌+◌, ◌<◌, [], ◌∷◌, refl, sym, inl, inr, arith}
use Rattle.scheduler_laws.proofs.Plans.{pair, Each}
use Rattle.scheduler_laws.proofs.NextPlans.{AreApart, Follows}
use Rattle.scheduler_laws.proofs.Shapes.{takes, ends}
use Rattle.scheduler_laws.proofs.MoreShapes.{shares}
use Rattle.scheduler_laws.proofs.FirmTurns.{hands}
use Rattle.scheduler_laws.proofs.FirmMoreShapes.{joining, prepares}

-- the requests of two inputs
inputs_apart : (i j z y : ℕ) → (i ≡ z → ⊥) → Each (AreApart (pair i j ∷ pair z y ∷ [])) (pair i j ∷ pair z y ∷ [])
inputs_apart i j z y other = ((λ e. refl, (λ e. absurd (other e), tt)), ((λ e. absurd (other (sym e)), (λ e. refl, tt)), tt))

-- those of input l, input 2 and a smaller one
pub last_apart : (l a b u v : ℕ) → 2 < l → u < 2
    → Each (AreApart (pair l a ∷ pair 2 b ∷ pair u v ∷ [])) (pair l a ∷ pair 2 b ∷ pair u v ∷ [])
last_apart l a b u v high small = (
  (λ e. refl, (λ e. absurd (omega arith), (λ e. absurd (omega arith), tt))),
  (
    (λ e. absurd (omega arith), (λ e. refl, (λ e. absurd (omega arith), tt))),
    ((λ e. absurd (omega arith), (λ e. absurd (omega arith), (λ e. refl, tt))), tt),
  ),
)

-- ---- while an input goes down
-- the next output
pub joining_joining : (x a : ℕ) → 0 < a → Follows (joining x a) (joining x (a + 1))
joining_joining x a some = record {
  asking = (inr (inr (inr (inl (refl, refl)))), (inr (inr (inl (refl, refl))), tt));
  kept = (
    inr (inl (refl, refl)),
    (inr (inr (inl (refl, refl))), (inl (inr (inl (refl, refl))), (inl (inl (refl, refl)), tt))),
  );
  gains = pair x (a + 1) ∷ pair (x + 1) 0 ∷ [];
  gained = (
    inl (inl (refl, refl), inl (λ e f. omega arith, (λ e f. omega arith, tt))),
    (
      inl (inr (inl (refl, refl)), inl (λ e f. omega arith, (λ e f. omega arith, tt))),
      (inr (inl (refl, refl)), (inr (inr (inl (refl, refl))), tt)),
    ),
  );
  apart = inputs_apart x (a + 1) (x + 1) 0 (λ e. omega arith);
  held = tt;
  doubled = tt;
}

-- after its last output
pub joining_hands : (x a : ℕ) → 0 < x → 0 < a → Follows (joining x a) (hands x (x + 1))
joining_hands x a some_x some = record {
  asking = (inr (inr (inr (inl (refl, refl)))), (inr (inr (inl (refl, refl))), tt));
  kept = (
    inr (inl (refl, refl)),
    (inr (inr (inl (refl, refl))), (inl (inr (inl (refl, refl))), (inl (inl (refl, refl)), tt))),
  );
  gains = pair (x + 1) 0 ∷ [];
  gained = (
    inl (inl (refl, refl), inl (λ e f. omega arith, (λ e f. omega arith, tt))),
    (
      inl (inr (inl (refl, refl)), inl (λ e f. omega arith, (λ e f. omega arith, tt))),
      (inr (inl (refl, refl)), tt),
    ),
  );
  apart = ((λ e. refl, tt), tt);
  held = tt;
  doubled = tt;
}

-- the next input begins
pub hands_joining : (x w : ℕ) → 0 < x → (w ≡ x → ⊥) → Follows (hands x w) (joining w 1)
hands_joining x w some other = record {
  asking = (inr (inl (refl, refl)), tt);
  kept = (inr (inl (refl, refl)), (inl (inl (refl, refl)), (inr (inr (inl (refl, refl))), tt)));
  gains = pair w 1 ∷ pair (w + 1) 0 ∷ [];
  gained = (
    inl (inl (refl, refl), inl (λ e f. omega arith, tt)),
    (
      inl (inr (inr (inl (refl, refl))), inl (λ e f. other e, tt)),
      (inr (inl (refl, refl)), (inr (inr (inl (refl, refl))), tt)),
    ),
  );
  apart = inputs_apart w 1 (w + 1) 0 (λ e. omega arith);
  held = tt;
  doubled = tt;
}

-- and so does the first of all
pub hands_joining_first : (w : ℕ) → 0 < w → Follows (hands 0 w) (joining w 1)
hands_joining_first w some = record {
  asking = (inl (refl, refl), tt);
  kept = (inl (inl (refl, refl)), (inl (inl (refl, refl)), (inr (inr (inl (refl, refl))), tt)));
  gains = pair 0 0 ∷ pair w 1 ∷ pair (w + 1) 0 ∷ [];
  gained = (
    inr (inl (refl, refl)),
    (
      inl (inr (inr (inl (refl, refl))), inl (λ e f. omega arith, tt)),
      (inr (inr (inl (refl, refl))), (inr (inr (inr (inl (refl, refl)))), tt)),
    ),
  );
  apart = (
    (λ e. refl, (λ e. absurd (omega arith), (λ e. absurd (omega arith), tt))),
    (
      (λ e. absurd (omega arith), (λ e. refl, (λ e. absurd (omega arith), tt))),
      ((λ e. absurd (omega arith), (λ e. absurd (omega arith), (λ e. refl, tt))), tt),
    ),
  );
  held = tt;
  doubled = tt;
}

-- ---- before the last input goes down
-- outputs prepare
pub joining_prepares : (l x a : ℕ) → 2 < x → 0 < a → Follows (joining x a) (prepares l x)
joining_prepares l x a high some = record {
  asking = (inr (inr (inr (inl (refl, refl)))), (inr (inr (inl (refl, refl))), tt));
  kept = (
    inr (inl (refl, refl)),
    (inr (inr (inl (refl, refl))), (inl (inr (inl (refl, refl))), (inl (inl (refl, refl)), tt))),
  );
  gains = pair (x + 1) 0 ∷ pair 2 l ∷ pair 1 l ∷ [];
  gained = (
    inl (inl (refl, refl), inl (λ e f. omega arith, (λ e f. omega arith, tt))),
    (
      inl (inr (inl (refl, refl)), inl (λ e f. omega arith, (λ e f. omega arith, tt))),
      (inr (inl (refl, refl)), (inr (inr (inr (inl (refl, refl)))), (inr (inr (inl (refl, refl))), tt))),
    ),
  );
  apart = last_apart (x + 1) 0 l 1 l (omega arith) (omega arith);
  held = tt;
  doubled = tt;
}

-- ---- before input 0 goes down
-- after another input's slot
pub ends_lowers : (x y : ℕ) → 0 < x → Follows (ends x) (takes 0 y)
ends_lowers x y some = record {
  asking = (inr (inl (refl, refl)), tt);
  kept = (inr (inl (refl, refl)), (inl (inl (refl, refl)), tt));
  gains = pair 0 y ∷ [];
  gained = (
    inl (inl (refl, refl), inl (λ e f. omega arith, tt)),
    (inl (inl (refl, refl), inl (λ e f. omega arith, tt)), (inr (inl (refl, refl)), tt)),
  );
  apart = ((λ e. refl, tt), tt);
  held = tt;
  doubled = tt;
}

-- ---- of two, three and four ports
-- input w takes output 0
pub hands_ends : (w : ℕ) → 0 < w → Follows (hands 0 w) (ends w)
hands_ends w some = record {
  asking = (inl (refl, refl), tt);
  kept = (inl (inl (refl, refl)), (inl (inl (refl, refl)), (inr (inr (inl (refl, refl))), tt)));
  gains = pair 0 0 ∷ [];
  gained = (inr (inl (refl, refl)), (inl (inr (inr (inl (refl, refl))), inl (λ e f. omega arith, tt)), tt));
  apart = ((λ e. refl, tt), tt);
  held = tt;
  doubled = tt;
}

-- the last input begins, and input 0 takes output l
pub hands_shares : (x w l y : ℕ) → 0 < x → x < w → Follows (hands x w) (shares l w y)
hands_shares x w l y some after = record {
  asking = (inr (inl (refl, refl)), tt);
  kept = (inr (inl (refl, refl)), (inl (inl (refl, refl)), (inr (inr (inl (refl, refl))), tt)));
  gains = pair w y ∷ pair 0 l ∷ [];
  gained = (
    inl (inl (refl, refl), inl (λ e f. omega arith, tt)),
    (
      inl (inr (inr (inl (refl, refl))), inl (λ e f. omega arith, tt)),
      (inr (inl (refl, refl)), (inr (inr (inl (refl, refl))), tt)),
    ),
  );
  apart = inputs_apart w y 0 l (λ e. omega arith);
  held = tt;
  doubled = tt;
}

-- and then another
pub shares_other : (k l x y z : ℕ) → 0 < k → 0 < x → 0 < y → Follows (shares k x y) (shares l x z)
shares_other k l x y z more some some_y = record {
  asking = (inr (inr (inl (refl, refl))), (inr (inr (inr (inl (refl, refl)))), tt));
  kept = (
    inr (inl (refl, refl)),
    (inr (inr (inl (refl, refl))), (inl (inl (refl, refl)), (inl (inr (inl (refl, refl))), tt))),
  );
  gains = pair x z ∷ pair 0 l ∷ [];
  gained = (
    inl (inl (refl, refl), inl (λ e f. omega arith, (λ e f. omega arith, tt))),
    (
      inl (inr (inl (refl, refl)), inl (λ e f. omega arith, (λ e f. omega arith, tt))),
      (inr (inl (refl, refl)), (inr (inr (inl (refl, refl))), tt)),
    ),
  );
  apart = inputs_apart x z 0 l (λ e. omega arith);
  held = tt;
  doubled = tt;
}

-- the last input takes output 0
pub shares_ends : (l x y : ℕ) → 0 < l → 0 < x → 0 < y → Follows (shares l x y) (ends x)
shares_ends l x y more some some_y = record {
  asking = (inr (inr (inl (refl, refl))), (inr (inr (inr (inl (refl, refl)))), tt));
  kept = (
    inr (inl (refl, refl)),
    (inr (inr (inl (refl, refl))), (inl (inl (refl, refl)), (inl (inr (inl (refl, refl))), tt))),
  );
  gains = [];
  gained = (
    inl (inl (refl, refl), inl (λ e f. omega arith, (λ e f. omega arith, tt))),
    (inl (inr (inl (refl, refl)), inl (λ e f. omega arith, (λ e f. omega arith, tt))), tt),
  );
  apart = tt;
  held = tt;
  doubled = tt;
}
