-- Three shapes: the plans that three ports alone have, the pointers that suit them, and which follow on which.
use Rattle.std.proofs.Common.{◌≡◌, ◌≤◌, [], ◌∷◌, refl, sym, subst, inl, inr, arith}
use Rattle.rotating_pick.specs.Rotation.{distance}
use Rattle.pointer_state.specs.Places.{Places, grant_of, accept_of}
use Rattle.scheduler_laws.proofs.Plans.{pair, Each, Plan, asked}
use Rattle.scheduler_laws.proofs.PlannedSlots.{Suits}
use Rattle.scheduler_laws.proofs.NextPlans.{Follows}
use Rattle.scheduler_laws.proofs.SecondRounds.{IsSettled}
use Rattle.scheduler_laws.proofs.Shapes.{wins, at_first, zero_passed}
use Rattle.scheduler_laws.proofs.MoreShapes.{closes, joins}

-- input 0 takes output 2, and input 2 output 1 and not output 0
abbrev pub meets : Plan
meets = record { asks = pair 0 2 ∷ pair 2 0 ∷ pair 2 1 ∷ []; serves = pair 0 2 ∷ pair 2 1 ∷ []; twice = [] }

-- input 1 takes output 2, which input 2 asks too, and input 0 output 1
abbrev pub waits : Plan
waits = record { asks = pair 1 0 ∷ pair 1 2 ∷ pair 0 1 ∷ pair 2 2 ∷ []; serves = pair 1 2 ∷ pair 0 1 ∷ []; twice = [] }

-- input 1 takes output 0, input 0 output 1 and input 2 output 2, for which two cells wait
abbrev pub leaves : Plan
leaves = record { asks = pair 1 0 ∷ pair 0 1 ∷ pair 2 2 ∷ []; serves = pair 1 0 ∷ pair 0 1 ∷ pair 2 2 ∷ []; twice = pair 2 2 ∷ [] }

-- input 0 takes output 2, which input 2 asks too, and that one takes output 1
abbrev pub returns_to : Plan
returns_to = record { asks = pair 0 2 ∷ pair 2 1 ∷ pair 2 2 ∷ []; serves = pair 0 2 ∷ pair 2 1 ∷ []; twice = [] }

-- input 0 points at output 2, and input 2 at output 1
pub suits_meets : (places : Places) → accept_of places 0 0 ≡ 2 → accept_of places 2 0 ≡ 1 → Suits 3 places meets
suits_meets places at other = record {
  placed = ((omega arith, omega arith, inr (inl (refl, refl))), ((omega arith, omega arith, inr (inr (inr (inl (refl, refl))))), tt));
  near = (
    (λ e. absurd (omega arith), (λ e. omega arith, (λ e. absurd (omega arith), (λ e. absurd (omega arith), tt)))),
    ((λ e. absurd (omega arith), (λ e. absurd (omega arith), (λ e. absurd (omega arith), (λ e. omega arith, tt)))), tt),
  );
  taken = (
    (λ e. inl (at_first 3 (accept_of places 0 0) 2 0 (omega arith) at), (λ e. inl (omega arith), (λ e. absurd (omega arith), (λ e. absurd (omega arith), tt)))),
    (
      (
        λ e. absurd (omega arith),
        (λ e. absurd (omega arith), (λ e. inl (at_first 3 (accept_of places 2 0) 1 0 (omega arith) other), (λ e. inl (omega arith), tt))),
      ),
      tt,
    ),
  );
  done = (inl (2, inl (refl, refl)), (inl (2, inl (refl, refl)), (inl (1, inr (inl (refl, refl))), (inl (1, inr (inl (refl, refl))), tt))));
}

-- output 0 points at input 1, and that at output 2, which points at input 0
pub suits_waits : (places : Places) → grant_of places 0 0 ≡ 1 → accept_of places 1 0 ≡ 2 → grant_of places 2 0 ≡ 0 → Suits 3 places waits
suits_waits places granting at held = record {
  placed = ((omega arith, omega arith, inr (inr (inl (refl, refl)))), ((omega arith, omega arith, inr (inr (inr (inl (refl, refl))))), tt));
  near = (
    (
      λ e. absurd (omega arith),
      (
        λ e. absurd (omega arith),
        (λ e. omega arith, (λ e. absurd (omega arith), (λ e. subst (λ f. distance 3 f 1 ≤ distance 3 f 2) (sym held) (omega arith), tt))),
      ),
    ),
    (
      (λ e. absurd (omega arith), (λ e. absurd (omega arith), (λ e. absurd (omega arith), (λ e. omega arith, (λ e. absurd (omega arith), tt))))),
      tt,
    ),
  );
  taken = (
    (
      λ e. absurd (omega arith),
      (
        λ e. inl (at_first 3 (accept_of places 1 0) 2 0 (omega arith) at),
        (λ e. inl (omega arith), (λ e. absurd (omega arith), (λ e. absurd (omega arith), tt))),
      ),
    ),
    (
      (
        λ e. inr (zero_passed 3 places waits 1 (omega arith) (omega arith) granting (inr (inl (refl, refl)))),
        (λ e. absurd (omega arith), (λ e. absurd (omega arith), (λ e. inl (omega arith), (λ e. absurd (omega arith), tt)))),
      ),
      tt,
    ),
  );
  done = (
    inl (1, inr (inl (refl, refl))),
    (inl (2, inl (refl, refl)), (inl (2, inl (refl, refl)), (inl (1, inr (inl (refl, refl))), (inr (inl (1, inl (refl, refl))), tt)))),
  );
}

-- output 0 points at input 1
pub suits_leaves : (places : Places) → grant_of places 0 0 ≡ 1 → Suits 3 places leaves
suits_leaves places granting = record {
  placed = (
    (omega arith, omega arith, inr (inl (refl, refl))),
    ((omega arith, omega arith, inr (inr (inl (refl, refl)))), ((omega arith, omega arith, inr (inr (inr (inl (refl, refl))))), tt)),
  );
  near = (
    (λ e. at_first 3 (grant_of places 0 0) 1 0 (omega arith) granting, (λ e. omega arith, (λ e. absurd (omega arith), (λ e. absurd (omega arith), tt)))),
    (
      (λ e. absurd (omega arith), (λ e. absurd (omega arith), (λ e. omega arith, (λ e. absurd (omega arith), tt)))),
      ((λ e. absurd (omega arith), (λ e. absurd (omega arith), (λ e. absurd (omega arith), (λ e. omega arith, tt)))), tt),
    ),
  );
  taken = (
    (λ e. absurd (omega arith), (λ e. inl (omega arith), (λ e. absurd (omega arith), (λ e. absurd (omega arith), tt)))),
    (
      (
        λ e. inr (zero_passed 3 places leaves 1 (omega arith) (omega arith) granting (inr (inl (refl, refl)))),
        (λ e. absurd (omega arith), (λ e. inl (omega arith), (λ e. absurd (omega arith), tt))),
      ),
      ((λ e. absurd (omega arith), (λ e. absurd (omega arith), (λ e. absurd (omega arith), (λ e. inl (omega arith), tt)))), tt),
    ),
  );
  done = (inl (1, inr (inl (refl, refl))), (inl (0, inl (refl, refl)), (inl (1, inr (inl (refl, refl))), (inl (2, inr (inr (inl (refl, refl)))), tt))));
}

-- input 0 points at output 2, and that and input 2 at port 0
pub suits_returns : (places : Places) → accept_of places 0 0 ≡ 2 → grant_of places 2 0 ≡ 0 → accept_of places 2 0 ≡ 0 → Suits 3 places returns_to
suits_returns places at granting other = record {
  placed = ((omega arith, omega arith, inr (inl (refl, refl))), ((omega arith, omega arith, inr (inr (inl (refl, refl)))), tt));
  near = (
    (λ e. absurd (omega arith), (λ e. omega arith, (λ e. absurd (omega arith), (λ e. at_first 3 (grant_of places 2 0) 0 2 (omega arith) granting, tt)))),
    ((λ e. absurd (omega arith), (λ e. absurd (omega arith), (λ e. omega arith, (λ e. absurd (omega arith), tt)))), tt),
  );
  taken = (
    (λ e. inl (at_first 3 (accept_of places 0 0) 2 0 (omega arith) at), (λ e. inl (omega arith), (λ e. absurd (omega arith), (λ e. absurd (omega arith), tt)))),
    (
      (
        λ e. absurd (omega arith),
        (λ e. absurd (omega arith), (λ e. inl (omega arith), (λ e. inl (subst (λ f. distance 3 f 1 ≤ distance 3 f 2) (sym other) (omega arith)), tt))),
      ),
      tt,
    ),
  );
  done = (inl (2, inl (refl, refl)), (inl (2, inl (refl, refl)), (inl (1, inr (inl (refl, refl))), (inl (1, inr (inl (refl, refl))), tt))));
}

-- ---- which follow on which
-- the request of input 2 for output 1 stands on
pub wins_meets : Follows (wins 1 2) meets
wins_meets = record {
  asking = (inr (inl (refl, refl)), tt);
  kept = (inr (inl (refl, refl)), (inl (inl (refl, refl)), (inr (inr (inr (inr (inl (refl, refl))))), tt)));
  gains = pair 0 2 ∷ pair 2 0 ∷ [];
  gained = (
    inl (inl (refl, refl), inl (λ e f. omega arith, tt)),
    (
      inr (inl (refl, refl)),
      (inr (inr (inl (refl, refl))), (inl (inr (inr (inl (refl, refl))), inl (λ e f. omega arith, tt)), tt)),
    ),
  );
  apart = ((λ e. refl, (λ e. absurd (omega arith), tt)), ((λ e. absurd (omega arith), (λ e. refl, tt)), tt));
  held = tt;
  doubled = tt;
}

-- and that for output 0
pub meets_closes : Follows meets (closes 2 2 1 1)
meets_closes = record {
  asking = (inr (inl (refl, refl)), (inr (inr (inr (inl (refl, refl)))), tt));
  kept = (
    inr (inl (refl, refl)),
    (inl (inl (refl, refl)), (inr (inr (inl (refl, refl))), (inl (inr (inl (refl, refl))), tt))),
  );
  gains = pair 2 2 ∷ pair 0 1 ∷ pair 1 1 ∷ [];
  gained = (
    inl (inl (refl, refl), inl (λ e f. omega arith, (λ e f. omega arith, tt))),
    (
      inl (inr (inr (inl (refl, refl))), inl (λ e f. omega arith, (λ e f. omega arith, tt))),
      (inr (inl (refl, refl)), (inr (inr (inl (refl, refl))), (inr (inr (inr (inl (refl, refl)))), tt))),
    ),
  );
  apart = (
    (λ e. refl, (λ e. absurd (omega arith), (λ e. absurd (omega arith), tt))),
    (
      (λ e. absurd (omega arith), (λ e. refl, (λ e. refl, tt))),
      ((λ e. absurd (omega arith), (λ e. refl, (λ e. refl, tt))), tt),
    ),
  );
  held = tt;
  doubled = tt;
}

-- input 2 begins to ask output 2
pub joins_waits : Follows (joins 1 1) waits
joins_waits = record {
  asking = (inr (inr (inl (refl, refl))), (inr (inr (inr (inl (refl, refl)))), tt));
  kept = (
    inr (inl (refl, refl)),
    (inr (inr (inl (refl, refl))), (inl (inl (refl, refl)), (inl (inr (inl (refl, refl))), tt))),
  );
  gains = pair 1 2 ∷ pair 0 1 ∷ pair 2 2 ∷ [];
  gained = (
    inl (inl (refl, refl), inl (λ e f. omega arith, (λ e f. omega arith, tt))),
    (
      inl (inr (inl (refl, refl)), inl (λ e f. omega arith, (λ e f. omega arith, tt))),
      (inr (inl (refl, refl)), (inr (inr (inl (refl, refl))), (inr (inr (inr (inl (refl, refl)))), tt))),
    ),
  );
  apart = (
    (λ e. refl, (λ e. absurd (omega arith), (λ e. refl, tt))),
    (
      (λ e. absurd (omega arith), (λ e. refl, (λ e. absurd (omega arith), tt))),
      ((λ e. refl, (λ e. absurd (omega arith), (λ e. refl, tt))), tt),
    ),
  );
  held = tt;
  doubled = tt;
}

-- a second cell comes for that request
pub waits_leaves : Follows waits leaves
waits_leaves = record {
  asking = (inr (inr (inl (refl, refl))), (inr (inr (inr (inl (refl, refl)))), tt));
  kept = (
    inr (inl (refl, refl)),
    (
      inr (inr (inl (refl, refl))),
      (inl (inl (refl, refl)), (inl (inr (inl (refl, refl))), (inr (inr (inr (inr (inl (refl, refl))))), tt))),
    ),
  );
  gains = pair 0 1 ∷ pair 2 2 ∷ [];
  gained = (
    inl (inl (refl, refl), inl (λ e f. omega arith, (λ e f. omega arith, tt))),
    (
      inl (inr (inl (refl, refl)), inl (λ e f. omega arith, (λ e f. omega arith, tt))),
      (
        inr (inl (refl, refl)),
        (inl (inr (inr (inr (inr (inl (refl, refl))))), inl (λ e f. omega arith, (λ e f. omega arith, tt))), tt),
      ),
    ),
  );
  apart = ((λ e. refl, (λ e. absurd (omega arith), tt)), ((λ e. absurd (omega arith), (λ e. refl, tt)), tt));
  held = tt;
  doubled = (
    (
      inr (inr (inr (inl (refl, refl)))),
      inr (inl (refl, refl)),
      (inr (inr (inr (inr (inl (refl, refl))))), inl (λ e f. omega arith, (λ e f. omega arith, tt))),
    ),
    tt,
  );
}

-- and it stands on, beside that for output 1
pub leaves_returns : Follows leaves returns_to
leaves_returns = record {
  asking = (inr (inl (refl, refl)), (inr (inr (inl (refl, refl))), (inr (inr (inr (inl (refl, refl)))), tt)));
  kept = (
    inr (inl (refl, refl)),
    (inl (inl (refl, refl)), (inl (inr (inl (refl, refl))), (inl (inr (inr (inl (refl, refl)))), tt))),
  );
  gains = pair 0 2 ∷ pair 2 1 ∷ [];
  gained = (
    inl (inl (refl, refl), inl (λ e f. omega arith, (λ e f. omega arith, (λ e f. omega arith, tt)))),
    (
      inr (inl (refl, refl)),
      (inr (inr (inl (refl, refl))), (inl (inr (inr (inr (inl (refl, refl)))), inr (inl (refl, refl))), tt)),
    ),
  );
  apart = ((λ e. refl, (λ e. absurd (omega arith), tt)), ((λ e. absurd (omega arith), (λ e. refl, tt)), tt));
  held = (
    (inr (inr (inr (inl (refl, refl)))), inr (inr (inr (inl (refl, refl)))), inl (inr (inr (inl (refl, refl))))),
    tt,
  );
  doubled = tt;
}

-- and that for output 0
pub returns_closes : Follows returns_to (closes 2 2 1 0)
returns_closes = record {
  asking = (inr (inl (refl, refl)), (inr (inr (inl (refl, refl))), tt));
  kept = (
    inr (inl (refl, refl)),
    (inl (inl (refl, refl)), (inl (inr (inl (refl, refl))), (inr (inr (inr (inl (refl, refl)))), tt))),
  );
  gains = pair 2 0 ∷ pair 0 1 ∷ [];
  gained = (
    inl (inl (refl, refl), inl (λ e f. omega arith, (λ e f. omega arith, tt))),
    (
      inr (inl (refl, refl)),
      (
        inl (inr (inr (inr (inl (refl, refl)))), inl (λ e f. omega arith, (λ e f. omega arith, tt))),
        (inr (inr (inl (refl, refl))), (inr (inr (inl (refl, refl))), tt)),
      ),
    ),
  );
  apart = ((λ e. refl, (λ e. absurd (omega arith), tt)), ((λ e. absurd (omega arith), (λ e. refl, tt)), tt));
  held = tt;
  doubled = tt;
}

-- these leave nothing to serve
pub settles_meets : Each (IsSettled meets) (asked meets)
settles_meets = (
  inl (2, inl (refl, refl)),
  (inl (2, inl (refl, refl)), (inl (1, inr (inl (refl, refl))), (inl (1, inr (inl (refl, refl))), tt))),
)

-- nor does this
pub settles_waits : Each (IsSettled waits) (asked waits)
settles_waits = (
  inl (1, inr (inl (refl, refl))),
  (
    inl (2, inl (refl, refl)),
    (inl (2, inl (refl, refl)), (inl (1, inr (inl (refl, refl))), (inr (1, inl (refl, refl)), tt))),
  ),
)

-- nor this
pub settles_leaves : Each (IsSettled leaves) (asked leaves)
settles_leaves = (
  inl (1, inr (inl (refl, refl))),
  (inl (0, inl (refl, refl)), (inl (1, inr (inl (refl, refl))), (inl (2, inr (inr (inl (refl, refl)))), tt))),
)

-- nor this
pub settles_returns : Each (IsSettled returns_to) (asked returns_to)
settles_returns = (
  inl (2, inl (refl, refl)),
  (inl (2, inl (refl, refl)), (inl (1, inr (inl (refl, refl))), (inl (1, inr (inl (refl, refl))), tt))),
)
