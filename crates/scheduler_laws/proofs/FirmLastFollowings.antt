-- Followings of more rounds under FIRM, while the last input goes down: which plans of its family follow on
-- which, where requests stay, and at most one cell comes to each input.
use Rattle.std.proofs.Common.{◌≡◌, ℕ, ◌+◌, ◌<◌, [], ◌∷◌, refl, sym, inl, inr, arith}
use Rattle.scheduler_laws.proofs.Plans.{pair, In, Each, asked}
use Rattle.scheduler_laws.proofs.NextPlans.{IsLeft, AreApart, Follows}
use Rattle.scheduler_laws.proofs.Shapes.{takes}
use Rattle.scheduler_laws.proofs.FirmMoreShapes.{prepares, blocking, leaves_both, AreApartHere}
use Rattle.scheduler_laws.proofs.FirmMoreFollowings.{last_apart}

-- those of all four
four_apart : (l a b c v : ℕ) → 2 < l
    → Each (AreApart (pair l a ∷ pair 2 b ∷ pair 0 c ∷ pair 1 v ∷ [])) (pair l a ∷ pair 2 b ∷ pair 0 c ∷ pair 1 v ∷ [])
four_apart l a b c v high = (
  (λ e. refl, (λ e. absurd (omega arith), (λ e. absurd (omega arith), (λ e. absurd (omega arith), tt)))),
  (
    (λ e. absurd (omega arith), (λ e. refl, (λ e. absurd (omega arith), (λ e. absurd (omega arith), tt)))),
    (
      (λ e. absurd (omega arith), (λ e. absurd (omega arith), (λ e. refl, (λ e. absurd (omega arith), tt)))),
      ((λ e. absurd (omega arith), (λ e. absurd (omega arith), (λ e. absurd (omega arith), (λ e. refl, tt)))), tt),
    ),
  ),
)

-- the last input begins
pub prepares_blocking : (l x a b : ℕ) → x + 1 ≡ l → 2 < l → Follows (prepares l x) (blocking l a b l 2 b)
prepares_blocking l x a b next high = record {
  asking = (inr (inl (refl, refl)), (inr (inr (inr (inl (refl, refl)))), tt));
  kept = (
    inr (inl (refl, refl)),
    (
      inl (inl (refl, refl)),
      (
        inr (inr (inl (next, refl))),
        (inl (inr (inl (refl, refl))), (inr (inr (inr (inr (inr (inl (refl, refl)))))), tt)),
      ),
    ),
  );
  gains = pair l a ∷ pair 2 b ∷ pair 0 l ∷ [];
  gained = (
    inl (inl (refl, refl), inl (λ e f. omega arith, (λ e f. omega arith, tt))),
    (
      inl (inr (inr (inl (sym next, refl))), inl (λ e f. omega arith, (λ e f. omega arith, tt))),
      (
        inr (inl (refl, refl)),
        (
          inr (inr (inl (refl, refl))),
          (
            inl (inr (inr (inr (inr (inl (refl, refl))))), inl (λ e f. omega arith, (λ e f. omega arith, tt))),
            (inr (inr (inr (inl (refl, refl)))), (inr (inr (inl (refl, refl))), tt)),
          ),
        ),
      ),
    ),
  );
  apart = last_apart l a b 0 l high (omega arith);
  held = tt;
  doubled = tt;
}

-- ---- while the last input goes down
-- a slot serves what is asked
blocking_asks : (l a b c u v : ℕ) → Each (λ i j. In i j (asked (blocking l a b c u v))) (blocking l a b c u v).serves
blocking_asks l a b c u v = (
  inr (inr (inr (inr (inr (inl (refl, refl)))))),
  (
    inr (inr (inl (refl, refl))),
    (inr (inr (inr (inl (refl, refl)))), (inr (inr (inr (inr (inr (inr (inl (refl, refl))))))), tt)),
  ),
)

module _ (n l a b c u v : ℕ) (apart : AreApartHere n l a b c u v) where
  -- the cells that it leaves: of queue (0, 0)
  left_zero : IsLeft (blocking l a b c u v) 0 0
  left_zero = (
    inl (refl, refl),
    inl (
      λ e f. let some = apart.some_c in omega arith,
      (λ e f. let high = apart.high in omega arith, (λ e f. omega arith, (λ e f. let some = apart.some_u in omega arith, tt))),
    ),
  )

  -- of the last input for output 0
  left_last : IsLeft (blocking l a b c u v) l 0
  left_last = (
    inr (inl (refl, refl)),
    inl (
      λ e f. let high = apart.high in omega arith,
      (
        λ e f. let some = apart.some_a in omega arith,
        (λ e f. let high = apart.high in omega arith, (λ e f. let less = apart.u_in in omega arith, tt)),
      ),
    ),
  )

  -- and of input 2 for the output that it refuses
  left_refused : IsLeft (blocking l a b c u v) 2 c
  left_refused = (
    inr (inr (inr (inr (inl (refl, refl))))),
    inl (
      λ e f. omega arith,
      (λ e f. let high = apart.high in omega arith, (λ e f. apart.b_c (sym f), (λ e f. apart.c_v f, tt))),
    ),
  )

-- the next outputs
pub blocking_blocking : (n l a b y z : ℕ) → AreApartHere n l a b l 2 b → Follows (blocking l a b l 2 b) (blocking l y z l 2 z)
blocking_blocking n l a b y z apart = record {
  asking = blocking_asks l a b l 2 b;
  kept = (
    inr (inl (refl, refl)),
    (
      inr (inr (inl (refl, refl))),
      (
        inl (inr (inl (refl, refl))),
        (
          inl (inr (inr (inl (refl, refl)))),
          (
            inr (inr (inr (inr (inr (inl (refl, refl)))))),
            (inl (inl (refl, refl)), (inl (inr (inr (inl (refl, refl)))), tt)),
          ),
        ),
      ),
    ),
  );
  gains = pair l y ∷ pair 2 z ∷ pair 0 l ∷ [];
  gained = (
    inl (left_zero n l a b l 2 b apart),
    (
      inl (left_last n l a b l 2 b apart),
      (
        inr (inl (refl, refl)),
        (
          inr (inr (inl (refl, refl))),
          (
            inl (left_refused n l a b l 2 b apart),
            (inr (inr (inr (inl (refl, refl)))), (inr (inr (inl (refl, refl))), tt)),
          ),
        ),
      ),
    ),
  );
  apart = last_apart l y z 0 l apart.high (omega arith);
  held = tt;
  doubled = tt;
}

-- input 1 asks an output
pub blocking_one : (n l a b y z v : ℕ) → AreApartHere n l a b l 2 b → Follows (blocking l a b l 2 b) (blocking l y z l 1 v)
blocking_one n l a b y z v apart = record {
  asking = blocking_asks l a b l 2 b;
  kept = (
    inr (inl (refl, refl)),
    (
      inr (inr (inl (refl, refl))),
      (
        inl (inr (inl (refl, refl))),
        (
          inl (inr (inr (inl (refl, refl)))),
          (
            inr (inr (inr (inr (inr (inl (refl, refl)))))),
            (inl (inl (refl, refl)), (inl (inr (inr (inl (refl, refl)))), tt)),
          ),
        ),
      ),
    ),
  );
  gains = pair l y ∷ pair 2 z ∷ pair 0 l ∷ pair 1 v ∷ [];
  gained = (
    inl (left_zero n l a b l 2 b apart),
    (
      inl (left_last n l a b l 2 b apart),
      (
        inr (inl (refl, refl)),
        (
          inr (inr (inl (refl, refl))),
          (
            inl (left_refused n l a b l 2 b apart),
            (inr (inr (inr (inl (refl, refl)))), (inr (inr (inr (inr (inl (refl, refl))))), tt)),
          ),
        ),
      ),
    ),
  );
  apart = four_apart l y z l v apart.high;
  held = tt;
  doubled = tt;
}

-- input 2 takes the output that it refused, and input 1 asks output 2
pub blocking_turns : (n l a b y : ℕ) → AreApartHere n l a b l 1 1 → Follows (blocking l a b l 1 1) (blocking l y l 1 1 2)
blocking_turns n l a b y apart = record {
  asking = blocking_asks l a b l 1 1;
  kept = (
    inr (inl (refl, refl)),
    (
      inr (inr (inl (refl, refl))),
      (
        inl (inr (inl (refl, refl))),
        (
          inl (inr (inr (inl (refl, refl)))),
          (
            inr (inr (inr (inr (inl (refl, refl))))),
            (inl (inl (refl, refl)), (inl (inr (inr (inr (inl (refl, refl))))), tt)),
          ),
        ),
      ),
    ),
  );
  gains = pair l y ∷ pair 2 1 ∷ pair 0 1 ∷ pair 1 2 ∷ [];
  gained = (
    inl (left_zero n l a b l 1 1 apart),
    (
      inl (left_last n l a b l 1 1 apart),
      (
        inr (inl (refl, refl)),
        (
          inl (left_refused n l a b l 1 1 apart),
          (
            inr (inr (inl (refl, refl))),
            (inr (inr (inr (inl (refl, refl)))), (inr (inr (inr (inr (inl (refl, refl))))), tt)),
          ),
        ),
      ),
    ),
  );
  apart = four_apart l y 1 1 2 apart.high;
  held = tt;
  doubled = tt;
}

-- and once more
pub blocking_turns_on : (n l a b y : ℕ) → AreApartHere n l a b 1 1 2 → Follows (blocking l a b 1 1 2) (blocking l y 1 2 2 1)
blocking_turns_on n l a b y apart = record {
  asking = blocking_asks l a b 1 1 2;
  kept = (
    inr (inl (refl, refl)),
    (
      inr (inr (inl (refl, refl))),
      (
        inl (inr (inl (refl, refl))),
        (
          inl (inr (inr (inl (refl, refl)))),
          (
            inr (inr (inr (inr (inl (refl, refl))))),
            (inl (inl (refl, refl)), (inl (inr (inr (inr (inl (refl, refl))))), tt)),
          ),
        ),
      ),
    ),
  );
  gains = pair l y ∷ pair 2 2 ∷ pair 0 2 ∷ [];
  gained = (
    inl (left_zero n l a b 1 1 2 apart),
    (
      inl (left_last n l a b 1 1 2 apart),
      (
        inr (inl (refl, refl)),
        (
          inl (left_refused n l a b 1 1 2 apart),
          (
            inr (inr (inl (refl, refl))),
            (inr (inr (inr (inl (refl, refl)))), (inl (left_refused n l a b 1 1 2 apart), tt)),
          ),
        ),
      ),
    ),
  );
  apart = last_apart l y 2 0 2 apart.high (omega arith);
  held = tt;
  doubled = tt;
}

-- the last input takes output 0, and input 2 the output that it refused
pub blocking_leaves : (n l a b u v : ℕ) → AreApartHere n l a b 2 u v → Follows (blocking l a b 2 u v) (leaves_both l)
blocking_leaves n l a b u v apart = record {
  asking = blocking_asks l a b 2 u v;
  kept = (
    inr (inl (refl, refl)),
    (
      inr (inr (inl (refl, refl))),
      (
        inl (inr (inl (refl, refl))),
        (
          inl (inr (inr (inl (refl, refl)))),
          (
            inr (inr (inr (inl (refl, refl)))),
            (inl (inl (refl, refl)), (inl (inr (inr (inr (inl (refl, refl))))), tt)),
          ),
        ),
      ),
    ),
  );
  gains = [];
  gained = (
    inl (left_zero n l a b 2 u v apart),
    (inl (left_last n l a b 2 u v apart), (inl (left_refused n l a b 2 u v apart), tt)),
  );
  apart = tt;
  held = tt;
  doubled = tt;
}

-- ---- before input 0 goes down
-- the last turn
pub leaves_takes : (l y : ℕ) → 0 < l → Follows (leaves_both l) (takes 0 y)
leaves_takes l y some = record {
  asking = (inr (inl (refl, refl)), (inr (inr (inl (refl, refl))), tt));
  kept = (inr (inl (refl, refl)), (inl (inl (refl, refl)), (inl (inr (inl (refl, refl))), tt)));
  gains = pair 0 y ∷ [];
  gained = (
    inl (inl (refl, refl), inl (λ e f. omega arith, (λ e f. omega arith, tt))),
    (inl (inl (refl, refl), inl (λ e f. omega arith, (λ e f. omega arith, tt))), (inr (inl (refl, refl)), tt)),
  );
  apart = ((λ e. refl, tt), tt);
  held = tt;
  doubled = tt;
}
