-- More followings: which plans of the family of more rounds follow on which, where at most one cell comes to each input.
use Rattle.std.proofs.Common.{◌≡◌, ℕ, ◌+◌, ◌<◌, [], ◌∷◌, refl, sym, inl, inr, arith}
use Rattle.scheduler_laws.proofs.Plans.{pair}
use Rattle.scheduler_laws.proofs.NextPlans.{Follows}
use Rattle.scheduler_laws.proofs.Shapes.{takes, passes, wins, both}
use Rattle.scheduler_laws.proofs.MoreShapes.{shares, closes, joins, resets, readies, readies_too, crosses_by}

-- ---- as the window begins
-- the request of input w for output 2 stands on
pub both_crosses_by : (y w : ℕ) → 0 < y → 0 < w → Follows (both y w) (crosses_by (y + 1) w)
both_crosses_by y w more some = record {
  asking = (inr (inl (refl, refl)), (inr (inr (inl (refl, refl))), tt));
  kept = (inr (inl (refl, refl)), (inl (inl (refl, refl)), (inl (inr (inl (refl, refl))), tt)));
  gains = pair 0 (y + 1) ∷ pair w 1 ∷ [];
  gained = (
    inl (inl (refl, refl), inl (λ e f. omega arith, (λ e f. omega arith, tt))),
    (
      inr (inl (refl, refl)),
      (inr (inr (inl (refl, refl))), (inl (inr (inr (inl (refl, refl))), inr (inl (refl, refl))), tt)),
    ),
  );
  apart = ((λ e. refl, (λ e. absurd (omega arith), tt)), ((λ e. absurd (omega arith), (λ e. refl, tt)), tt));
  held = ((inr (inr (inl (refl, refl))), inr (inr (inr (inl (refl, refl)))), inl (inr (inl (refl, refl)))), tt);
  doubled = tt;
}

-- so it does with four ports
pub wins_crosses_by : (y w : ℕ) → 0 < w → Follows (wins 2 w) (crosses_by y w)
wins_crosses_by y w some = record {
  asking = (inr (inl (refl, refl)), tt);
  kept = (inr (inl (refl, refl)), (inl (inl (refl, refl)), (inr (inr (inr (inr (inl (refl, refl))))), tt)));
  gains = pair 0 y ∷ pair w 1 ∷ [];
  gained = (
    inl (inl (refl, refl), inl (λ e f. omega arith, tt)),
    (
      inr (inl (refl, refl)),
      (inr (inr (inl (refl, refl))), (inl (inr (inr (inl (refl, refl))), inl (λ e f. omega arith, tt)), tt)),
    ),
  );
  apart = ((λ e. refl, (λ e. absurd (omega arith), tt)), ((λ e. absurd (omega arith), (λ e. refl, tt)), tt));
  held = tt;
  doubled = tt;
}

-- the last input begins to ask output 0
pub crosses_by_shares : (l w : ℕ) → 0 < l → 0 < w → Follows (crosses_by l w) (shares l w 2)
crosses_by_shares l w more some = record {
  asking = (inr (inl (refl, refl)), (inr (inr (inl (refl, refl))), tt));
  kept = (
    inr (inl (refl, refl)),
    (inl (inl (refl, refl)), (inl (inr (inl (refl, refl))), (inr (inr (inr (inl (refl, refl)))), tt))),
  );
  gains = pair w 0 ∷ pair 0 l ∷ [];
  gained = (
    inl (inl (refl, refl), inl (λ e f. omega arith, (λ e f. omega arith, tt))),
    (
      inr (inl (refl, refl)),
      (
        inl (inr (inr (inr (inl (refl, refl)))), inl (λ e f. omega arith, (λ e f. omega arith, tt))),
        (inr (inr (inl (refl, refl))), tt),
      ),
    ),
  );
  apart = ((λ e. refl, (λ e. absurd (omega arith), tt)), ((λ e. absurd (omega arith), (λ e. refl, tt)), tt));
  held = tt;
  doubled = tt;
}

-- ---- while the inputs of a level go down
-- the next output
pub shares_shares : (l x y : ℕ) → 0 < l → 0 < x → 0 < y → Follows (shares l x y) (shares l x (y + 1))
shares_shares l x y more some some_y = record {
  asking = (inr (inr (inl (refl, refl))), (inr (inr (inr (inl (refl, refl)))), tt));
  kept = (
    inr (inl (refl, refl)),
    (inr (inr (inl (refl, refl))), (inl (inl (refl, refl)), (inl (inr (inl (refl, refl))), tt))),
  );
  gains = pair x (y + 1) ∷ pair 0 l ∷ [];
  gained = (
    inl (inl (refl, refl), inl (λ e f. omega arith, (λ e f. omega arith, tt))),
    (
      inl (inr (inl (refl, refl)), inl (λ e f. omega arith, (λ e f. omega arith, tt))),
      (inr (inl (refl, refl)), (inr (inr (inl (refl, refl))), tt)),
    ),
  );
  apart = ((λ e. refl, (λ e. absurd (omega arith), tt)), ((λ e. absurd (omega arith), (λ e. refl, tt)), tt));
  held = tt;
  doubled = tt;
}

-- in the last slot the next input begins to ask
pub shares_closes : (l x y f u : ℕ) → 0 < l → 0 < x → 0 < y → (u ≡ x → ⊥) → Follows (shares l x y) (closes l x f u)
shares_closes l x y f u more some some_y other = record {
  asking = (inr (inr (inl (refl, refl))), (inr (inr (inr (inl (refl, refl)))), tt));
  kept = (
    inr (inl (refl, refl)),
    (inr (inr (inl (refl, refl))), (inl (inl (refl, refl)), (inl (inr (inl (refl, refl))), tt))),
  );
  gains = pair x l ∷ pair 0 f ∷ pair u f ∷ [];
  gained = (
    inl (inl (refl, refl), inl (λ e f. omega arith, (λ e f. omega arith, tt))),
    (
      inl (inr (inl (refl, refl)), inl (λ e f. omega arith, (λ e f. omega arith, tt))),
      (inr (inl (refl, refl)), (inr (inr (inl (refl, refl))), (inr (inr (inr (inl (refl, refl)))), tt))),
    ),
  );
  apart = (
    (λ e. refl, (λ e. absurd (omega arith), (λ e. absurd (other (sym e)), tt))),
    (
      (λ e. absurd (omega arith), (λ e. refl, (λ e. refl, tt))),
      ((λ e. absurd (other e), (λ e. refl, (λ e. refl, tt))), tt),
    ),
  );
  held = tt;
  doubled = tt;
}

-- after its first output
pub joins_shares : (l x f : ℕ) → 0 < x → 0 < f → Follows (joins x f) (shares l x (f + 1))
joins_shares l x f some some_f = record {
  asking = (inr (inr (inl (refl, refl))), (inr (inr (inr (inl (refl, refl)))), tt));
  kept = (
    inr (inl (refl, refl)),
    (inr (inr (inl (refl, refl))), (inl (inl (refl, refl)), (inl (inr (inl (refl, refl))), tt))),
  );
  gains = pair x (f + 1) ∷ pair 0 l ∷ [];
  gained = (
    inl (inl (refl, refl), inl (λ e f. omega arith, (λ e f. omega arith, tt))),
    (
      inl (inr (inl (refl, refl)), inl (λ e f. omega arith, (λ e f. omega arith, tt))),
      (inr (inl (refl, refl)), (inr (inr (inl (refl, refl))), tt)),
    ),
  );
  apart = ((λ e. refl, (λ e. absurd (omega arith), tt)), ((λ e. absurd (omega arith), (λ e. refl, tt)), tt));
  held = tt;
  doubled = tt;
}

-- which may be the last but one
pub joins_closes : (l x f u : ℕ) → 0 < x → 0 < f → (u ≡ x → ⊥) → Follows (joins x f) (closes l x f u)
joins_closes l x f u some some_f other = record {
  asking = (inr (inr (inl (refl, refl))), (inr (inr (inr (inl (refl, refl)))), tt));
  kept = (
    inr (inl (refl, refl)),
    (inr (inr (inl (refl, refl))), (inl (inl (refl, refl)), (inl (inr (inl (refl, refl))), tt))),
  );
  gains = pair x l ∷ pair 0 f ∷ pair u f ∷ [];
  gained = (
    inl (inl (refl, refl), inl (λ e f. omega arith, (λ e f. omega arith, tt))),
    (
      inl (inr (inl (refl, refl)), inl (λ e f. omega arith, (λ e f. omega arith, tt))),
      (inr (inl (refl, refl)), (inr (inr (inl (refl, refl))), (inr (inr (inr (inl (refl, refl)))), tt))),
    ),
  );
  apart = (
    (λ e. refl, (λ e. absurd (omega arith), (λ e. absurd (other (sym e)), tt))),
    (
      (λ e. absurd (omega arith), (λ e. refl, (λ e. refl, tt))),
      ((λ e. absurd (other e), (λ e. refl, (λ e. refl, tt))), tt),
    ),
  );
  held = tt;
  doubled = tt;
}

-- the next input begins to ask output 0
pub closes_joins : (l x f u : ℕ) → 0 < l → 0 < f → 0 < u → x ≡ u + 1 → Follows (closes l x f u) (joins u f)
closes_joins l x f u more some_f some next = record {
  asking = (inr (inr (inl (refl, refl))), (inr (inr (inr (inl (refl, refl)))), tt));
  kept = (
    inr (inl (refl, refl)),
    (
      inr (inr (inr (inr (inl (next, refl))))),
      (inl (inl (refl, refl)), (inl (inr (inl (refl, refl))), (inr (inr (inr (inl (refl, refl)))), tt))),
    ),
  );
  gains = pair u 0 ∷ [];
  gained = (
    inl (inl (refl, refl), inl (λ e f. omega arith, (λ e f. omega arith, tt))),
    (
      inr (inl (refl, refl)),
      (
        inl (inr (inr (inr (inr (inl (refl, refl))))), inl (λ e f. omega arith, (λ e f. omega arith, tt))),
        (inl (inr (inl (sym next, refl)), inl (λ e f. omega arith, (λ e f. omega arith, tt))), tt),
      ),
    ),
  );
  apart = ((λ e. refl, tt), tt);
  held = tt;
  doubled = tt;
}

-- there is no next input
pub closes_passes : (l x f : ℕ) → 0 < l → 0 < f → Follows (closes l x f 0) (passes x)
closes_passes l x f more some_f = record {
  asking = (inr (inr (inl (refl, refl))), (inr (inr (inr (inl (refl, refl)))), tt));
  kept = (
    inr (inl (refl, refl)),
    (
      inr (inr (inl (refl, refl))),
      (inl (inl (refl, refl)), (inl (inr (inl (refl, refl))), (inl (inr (inl (refl, refl))), tt))),
    ),
  );
  gains = pair 0 1 ∷ [];
  gained = (
    inl (inl (refl, refl), inl (λ e f. omega arith, (λ e f. omega arith, tt))),
    (inl (inr (inl (refl, refl)), inl (λ e f. omega arith, (λ e f. omega arith, tt))), (inr (inl (refl, refl)), tt)),
  );
  apart = ((λ e. refl, tt), tt);
  held = tt;
  doubled = tt;
}

-- ---- between two levels
-- the first of them
pub passes_resets : (x y w : ℕ) → 0 < x → 0 < w → Follows (passes x) (resets y w)
passes_resets x y w some_x some = record {
  asking = (inr (inl (refl, refl)), (inr (inr (inl (refl, refl))), tt));
  kept = (inr (inl (refl, refl)), (inl (inl (refl, refl)), (inl (inr (inl (refl, refl))), tt)));
  gains = pair 0 y ∷ pair w 1 ∷ [];
  gained = (
    inl (inl (refl, refl), inl (λ e f. omega arith, (λ e f. omega arith, tt))),
    (inr (inl (refl, refl)), (inr (inr (inl (refl, refl))), tt)),
  );
  apart = ((λ e. refl, (λ e. absurd (omega arith), tt)), ((λ e. absurd (omega arith), (λ e. refl, tt)), tt));
  held = tt;
  doubled = tt;
}

-- one input after the other
pub resets_resets : (y w z v : ℕ) → 0 < y → 0 < v → Follows (resets y w) (resets z v)
resets_resets y w z v more some = record {
  asking = (inr (inl (refl, refl)), (inr (inr (inl (refl, refl))), tt));
  kept = (inr (inl (refl, refl)), (inl (inl (refl, refl)), (inl (inr (inl (refl, refl))), tt)));
  gains = pair 0 z ∷ pair v 1 ∷ [];
  gained = (
    inl (inl (refl, refl), inl (λ e f. omega arith, (λ e f. omega arith, tt))),
    (inr (inl (refl, refl)), (inr (inr (inl (refl, refl))), tt)),
  );
  apart = ((λ e. refl, (λ e. absurd (omega arith), tt)), ((λ e. absurd (omega arith), (λ e. refl, tt)), tt));
  held = tt;
  doubled = tt;
}

-- after the last of them
pub resets_takes : (y w z : ℕ) → 0 < y → Follows (resets y w) (takes 0 z)
resets_takes y w z more = record {
  asking = (inr (inl (refl, refl)), (inr (inr (inl (refl, refl))), tt));
  kept = (inr (inl (refl, refl)), (inl (inl (refl, refl)), (inl (inr (inl (refl, refl))), tt)));
  gains = pair 0 z ∷ [];
  gained = (
    inl (inl (refl, refl), inl (λ e f. omega arith, (λ e f. omega arith, tt))),
    (inl (inl (refl, refl), inl (λ e f. omega arith, (λ e f. omega arith, tt))), (inr (inl (refl, refl)), tt)),
  );
  apart = ((λ e. refl, tt), tt);
  held = tt;
  doubled = tt;
}

-- the last input begins to ask output 2
pub resets_readies : (y w l : ℕ) → 0 < y → 1 < l → Follows (resets y w) (readies l)
resets_readies y w l more some = record {
  asking = (inr (inl (refl, refl)), (inr (inr (inl (refl, refl))), tt));
  kept = (inr (inl (refl, refl)), (inl (inl (refl, refl)), (inl (inr (inl (refl, refl))), tt)));
  gains = pair 0 l ∷ pair 1 2 ∷ pair l 2 ∷ [];
  gained = (
    inl (inl (refl, refl), inl (λ e f. omega arith, (λ e f. omega arith, tt))),
    (inr (inl (refl, refl)), (inr (inr (inl (refl, refl))), (inr (inr (inr (inl (refl, refl)))), tt))),
  );
  apart = (
    (λ e. refl, (λ e. absurd (omega arith), (λ e. absurd (omega arith), tt))),
    (
      (λ e. absurd (omega arith), (λ e. refl, (λ e. refl, tt))),
      ((λ e. absurd (omega arith), (λ e. refl, (λ e. refl, tt))), tt),
    ),
  );
  held = tt;
  doubled = tt;
}

-- and so where none of them is before
pub takes_readies : (a l : ℕ) → 0 < a → 1 < l → Follows (takes 0 a) (readies l)
takes_readies a l more some = record {
  asking = (inr (inr (inl (refl, refl))), tt);
  kept = (inr (inl (refl, refl)), (inr (inl (refl, refl)), (inl (inl (refl, refl)), tt)));
  gains = pair 0 l ∷ pair 1 2 ∷ pair l 2 ∷ [];
  gained = (
    inl (inl (refl, refl), inl (λ e f. omega arith, tt)),
    (inr (inl (refl, refl)), (inr (inr (inl (refl, refl))), (inr (inr (inr (inl (refl, refl)))), tt))),
  );
  apart = (
    (λ e. refl, (λ e. absurd (omega arith), (λ e. absurd (omega arith), tt))),
    (
      (λ e. absurd (omega arith), (λ e. refl, (λ e. refl, tt))),
      ((λ e. absurd (omega arith), (λ e. refl, (λ e. refl, tt))), tt),
    ),
  );
  held = tt;
  doubled = tt;
}

-- and so while input v takes output 1
pub resets_readies_too : (y w l v : ℕ) → 0 < y → 1 < v → v < l → Follows (resets y w) (readies_too l v)
resets_readies_too y w l v more some less = record {
  asking = (inr (inl (refl, refl)), (inr (inr (inl (refl, refl))), tt));
  kept = (inr (inl (refl, refl)), (inl (inl (refl, refl)), (inl (inr (inl (refl, refl))), tt)));
  gains = pair 0 l ∷ pair 1 2 ∷ pair l 2 ∷ pair v 1 ∷ [];
  gained = (
    inl (inl (refl, refl), inl (λ e f. omega arith, (λ e f. omega arith, tt))),
    (
      inr (inl (refl, refl)),
      (
        inr (inr (inl (refl, refl))),
        (inr (inr (inr (inl (refl, refl)))), (inr (inr (inr (inr (inl (refl, refl))))), tt)),
      ),
    ),
  );
  apart = (
    (λ e. refl, (λ e. absurd (omega arith), (λ e. absurd (omega arith), (λ e. absurd (omega arith), tt)))),
    (
      (λ e. absurd (omega arith), (λ e. refl, (λ e. refl, (λ e. absurd (omega arith), tt)))),
      (
        (λ e. absurd (omega arith), (λ e. refl, (λ e. refl, (λ e. absurd (omega arith), tt)))),
        ((λ e. absurd (omega arith), (λ e. absurd (omega arith), (λ e. absurd (omega arith), (λ e. refl, tt)))), tt),
      ),
    ),
  );
  held = tt;
  doubled = tt;
}

-- and then output 0
pub readies_shares : (l : ℕ) → 1 < l → Follows (readies l) (shares l l 2)
readies_shares l some = record {
  asking = (inr (inl (refl, refl)), (inr (inr (inl (refl, refl))), tt));
  kept = (
    inr (inl (refl, refl)),
    (inl (inl (refl, refl)), (inl (inr (inl (refl, refl))), (inr (inr (inr (inl (refl, refl)))), tt))),
  );
  gains = pair l 0 ∷ pair 0 l ∷ [];
  gained = (
    inl (inl (refl, refl), inl (λ e f. omega arith, (λ e f. omega arith, tt))),
    (
      inr (inl (refl, refl)),
      (
        inl (inr (inr (inr (inl (refl, refl)))), inl (λ e f. omega arith, (λ e f. omega arith, tt))),
        (inr (inr (inl (refl, refl))), tt),
      ),
    ),
  );
  apart = ((λ e. refl, (λ e. absurd (omega arith), tt)), ((λ e. absurd (omega arith), (λ e. refl, tt)), tt));
  held = tt;
  doubled = tt;
}

-- in both cases
pub readies_too_shares : (l w : ℕ) → 1 < l → Follows (readies_too l w) (shares l l 2)
readies_too_shares l w some = record {
  asking = (inr (inl (refl, refl)), (inr (inr (inl (refl, refl))), (inr (inr (inr (inr (inl (refl, refl))))), tt)));
  kept = (
    inr (inl (refl, refl)),
    (
      inl (inl (refl, refl)),
      (inl (inr (inl (refl, refl))), (inr (inr (inr (inl (refl, refl)))), (inl (inr (inr (inl (refl, refl)))), tt))),
    ),
  );
  gains = pair l 0 ∷ pair 0 l ∷ [];
  gained = (
    inl (inl (refl, refl), inl (λ e f. omega arith, (λ e f. omega arith, (λ e f. omega arith, tt)))),
    (
      inr (inl (refl, refl)),
      (
        inl (
          inr (inr (inr (inl (refl, refl)))),
          inl (λ e f. omega arith, (λ e f. omega arith, (λ e f. omega arith, tt))),
        ),
        (inr (inr (inl (refl, refl))), tt),
      ),
    ),
  );
  apart = ((λ e. refl, (λ e. absurd (omega arith), tt)), ((λ e. absurd (omega arith), (λ e. refl, tt)), tt));
  held = tt;
  doubled = tt;
}
