-- More shapes: the plans that the family of more rounds is made of, and the pointers that suit them. Output l is the last.
use Rattle.std.proofs.Common.{◌≡◌, ℕ, ◌+◌, ◌<◌, ◌≤◌, [], ◌∷◌, refl, inl, inr, arith}
use Rattle.rotating_pick.specs.Rotation.{distance}
use Rattle.pointer_state.specs.Places.{Places, grant_of, accept_of}
use Rattle.scheduler_laws.proofs.Plans.{pair, Plan}
use Rattle.scheduler_laws.proofs.PlannedSlots.{Suits}
use Rattle.scheduler_laws.proofs.SecondRounds.{IsSecond}
use Rattle.scheduler_laws.proofs.Shapes.{at_first}

-- input x takes output y, and input 0 the last output
abbrev pub shares : ℕ → ℕ → ℕ → Plan
shares l x y = record { asks = pair x 0 ∷ pair x y ∷ pair 0 l ∷ []; serves = pair x y ∷ pair 0 l ∷ []; twice = [] }

-- input x takes the last output, and input 0 output f, which input u asks too
abbrev pub closes : ℕ → ℕ → ℕ → ℕ → Plan
closes l x f u = record { asks = pair x 0 ∷ pair x l ∷ pair 0 f ∷ pair u f ∷ []; serves = pair x l ∷ pair 0 f ∷ []; twice = [] }

-- the requests of a slot in which input x takes output f, and output 0 the next input in the second round
abbrev pub joins_first : ℕ → ℕ → Plan
joins_first x f = record { asks = pair x 0 ∷ pair x f ∷ pair (x + 1) 0 ∷ []; serves = pair x f ∷ []; twice = [] }

-- the same with what the second round serves
abbrev pub joins : ℕ → ℕ → Plan
joins x f = record { asks = pair x 0 ∷ pair x f ∷ pair (x + 1) 0 ∷ []; serves = pair x f ∷ pair (x + 1) 0 ∷ []; twice = [] }

-- input 0 takes output y, and input w output 1
abbrev pub resets : ℕ → ℕ → Plan
resets y w = record { asks = pair 0 y ∷ pair w 1 ∷ []; serves = pair 0 y ∷ pair w 1 ∷ []; twice = [] }

-- input 0 takes the last output, and input 1 output 2, which the last input asks too
abbrev pub readies : ℕ → Plan
readies l = record { asks = pair 0 l ∷ pair 1 2 ∷ pair l 2 ∷ []; serves = pair 0 l ∷ pair 1 2 ∷ []; twice = [] }

-- the same while input w takes output 1
abbrev pub readies_too : ℕ → ℕ → Plan
readies_too l w = record { asks = pair 0 l ∷ pair 1 2 ∷ pair l 2 ∷ pair w 1 ∷ []; serves = pair 0 l ∷ pair 1 2 ∷ pair w 1 ∷ []; twice = [] }

-- input 0 takes output y, and input w output 1 and not output 2
abbrev pub crosses_by : ℕ → ℕ → Plan
crosses_by y w = record { asks = pair 0 y ∷ pair w 1 ∷ pair w 2 ∷ []; serves = pair 0 y ∷ pair w 1 ∷ []; twice = [] }

-- input x is nearer to the pointer of output 0 than input z
abbrev pub IsBefore : ℕ → Places → ℕ → ℕ → Type 0
IsBefore n places x z = distance n (grant_of places 0 0) x < distance n (grant_of places 0 0) z

-- inputs and outputs of such a slot: two inputs and three outputs
pub record CanShare (n l x y : ℕ) : Type 0 where
  pub some_x : 0 < x
  pub x_in : x < n
  pub some_y : 0 < y
  pub y_in : y < n
  pub some_l : 0 < l
  pub l_in : l < n
  pub other : y ≡ l → ⊥

-- input x points at output y, and is before input 0
pub suits_shares : (n : ℕ) (places : Places) (l x y : ℕ) → CanShare n l x y → IsBefore n places x 0 → accept_of places x 0 ≡ y
    → Suits n places (shares l x y)
suits_shares n places l x y can before at = record {
  placed = ((can.x_in, can.y_in, inr (inr (inl (refl, refl)))), ((omega arith, can.l_in, inr (inr (inr (inl (refl, refl))))), tt));
  near = (
    (λ e. absurd (omega arith), (λ e. absurd (omega arith), (λ e. omega arith, (λ e. absurd (omega arith), tt)))),
    ((λ e. absurd (omega arith), (λ e. absurd (omega arith), (λ e. absurd (can.other e), (λ e. omega arith, tt)))), tt),
  );
  taken = (
    (
      λ e. inl (at_first n (accept_of places x 0) y 0 can.y_in at),
      (
        λ e. inl (at_first n (accept_of places x 0) y 0 can.y_in at),
        (λ e. inl (omega arith), (λ e. inl (at_first n (accept_of places x 0) y l can.y_in at), tt)),
      ),
    ),
    ((λ e. inr (x, can.x_in, inr (inl (refl, refl)), before), (λ e. absurd (omega arith), (λ e. absurd (omega arith), (λ e. inl (omega arith), tt)))), tt),
  );
  done = (inl (l, inr (inl (refl, refl))), (inl (y, inl (refl, refl)), (inl (y, inl (refl, refl)), (inl (l, inr (inl (refl, refl))), tt))));
}

-- Input x goes down from the output after f, in a level in which output 0 points at input p.
pub record Descent (n l : ℕ) : Type 0 where
  pub p : ℕ
  pub x : ℕ
  pub f : ℕ
  pub some_p : 0 < p
  pub above : p ≤ x
  pub x_in : x < n
  pub some_f : 0 < f
  pub f_in : f < l

-- input x points at the last output, and is before input 0
pub suits_closes : (n : ℕ) (places : Places) (l : ℕ) (d : Descent n l) (u : ℕ) → l < n → IsBefore n places d.x 0 → accept_of places d.x 0 ≡ l
    → distance n (grant_of places d.f 0) 0 ≤ distance n (grant_of places d.f 0) u → Suits n places (closes l d.x d.f u)
suits_closes n places l d u l_in before at choice = record {
  placed = ((d.x_in, l_in, inr (inr (inl (refl, refl)))), ((omega arith, omega arith, inr (inr (inr (inl (refl, refl))))), tt));
  near = (
    (λ e. absurd (omega arith), (λ e. absurd (omega arith), (λ e. omega arith, (λ e. absurd (omega arith), (λ e. absurd (omega arith), tt))))),
    ((λ e. absurd (omega arith), (λ e. absurd (omega arith), (λ e. absurd (omega arith), (λ e. omega arith, (λ e. choice, tt))))), tt),
  );
  taken = (
    (
      λ e. inl (at_first n (accept_of places d.x 0) l 0 l_in at),
      (
        λ e. inl (at_first n (accept_of places d.x 0) l 0 l_in at),
        (
          λ e. inl (omega arith),
          (λ e. inl (at_first n (accept_of places d.x 0) l d.f l_in at), (λ e. inl (at_first n (accept_of places d.x 0) l d.f l_in at), tt)),
        ),
      ),
    ),
    (
      (
        λ e. inr (d.x, d.x_in, inr (inl (refl, refl)), before),
        (λ e. absurd (omega arith), (λ e. absurd (omega arith), (λ e. inl (omega arith), (λ e. inl (omega arith), tt)))),
      ),
      tt,
    ),
  );
  done = (
    inl (d.f, inr (inl (refl, refl))),
    (inl (l, inl (refl, refl)), (inl (l, inl (refl, refl)), (inl (d.f, inr (inl (refl, refl))), (inr (inl (0, inr (inl (refl, refl)))), tt)))),
  );
}

-- input x points at output f, and is before input 0 and the next input
pub record IsJoining (n : ℕ) (places : Places) (x f : ℕ) : Type 0 where
  pub before : IsBefore n places x 0
  pub after : IsBefore n places x (x + 1)
  pub at : accept_of places x 0 ≡ f

-- then the pointers suit the plan
pub suits_joins : (n : ℕ) (places : Places) (x f : ℕ) → x < n → 0 < f → f < n → IsJoining n places x f → Suits n places (joins_first x f)
suits_joins n places x f x_in some_f f_in joining = record {
  placed = ((x_in, f_in, inr (inr (inl (refl, refl)))), tt);
  near = ((λ e. absurd (omega arith), (λ e. absurd (omega arith), (λ e. omega arith, (λ e. absurd (omega arith), tt)))), tt);
  taken = (
    (
      λ e. inl to_f,
      (λ e. inl to_f, (λ e. inl (omega arith), (λ e. inl to_f, tt))),
    ),
    tt,
  );
  done = (
    inr (inr (x, x_in, inr (inl (refl, refl)), joining.before)),
    (inl (f, inl (refl, refl)), (inl (f, inl (refl, refl)), (inr (inr (x, x_in, inr (inl (refl, refl)), joining.after)), tt))),
  );
} where
  to_f : distance n (accept_of places x 0) f ≤ distance n (accept_of places x 0) 0
  to_f = at_first n (accept_of places x 0) f 0 f_in joining.at

-- and the next input is second
pub second_joins : (n : ℕ) (places : Places) (x f : ℕ) → x + 1 < n → 0 < f
    → distance n (grant_of places 0 0) (x + 1) ≤ distance n (grant_of places 0 0) 0 → IsSecond n places (joins_first x f) (x + 1) 0
second_joins n places x f next_in some_f near = record {
  input_in = next_in;
  output_in = omega arith;
  asks = inr (inr (inr (inl (refl, refl))));
  input_free = λ j is. elim is [ inl s ↦ let e = s.0 in omega arith | inr none ↦ none ];
  output_free = λ i is. elim is [ inl s ↦ let e = s.1 in omega arith | inr none ↦ none ];
  next = (λ e. inr near, (λ e. inl (f, inl (refl, refl)), (λ e. inl (f, inl (refl, refl)), (λ e. inr (omega arith), tt))));
  at_hand = (λ e. absurd (omega arith), (λ e. absurd (omega arith), (λ e. absurd (omega arith), (λ e. omega arith, tt))));
}

-- input 0 points at output y
pub suits_resets : (n : ℕ) (places : Places) (y w : ℕ) → 1 < y → y < n → 0 < w → w < n → accept_of places 0 0 ≡ y → Suits n places (resets y w)
suits_resets n places y w more y_in some_w w_in at = record {
  placed = ((omega arith, y_in, inr (inl (refl, refl))), ((w_in, omega arith, inr (inr (inl (refl, refl)))), tt));
  near = (
    (λ e. absurd (omega arith), (λ e. omega arith, (λ e. absurd (omega arith), tt))),
    ((λ e. absurd (omega arith), (λ e. absurd (omega arith), (λ e. omega arith, tt))), tt),
  );
  taken = (
    (λ e. inl (at_first n (accept_of places 0 0) y 0 y_in at), (λ e. inl (omega arith), (λ e. absurd (omega arith), tt))),
    ((λ e. absurd (omega arith), (λ e. absurd (omega arith), (λ e. inl (omega arith), tt))), tt),
  );
  done = (inl (y, inl (refl, refl)), (inl (y, inl (refl, refl)), (inl (1, inr (inl (refl, refl))), tt)));
}

-- input 0 points at the last output, and output 2 at input 1
pub suits_readies : (n : ℕ) (places : Places) (l : ℕ) → 2 < l → l < n → accept_of places 0 0 ≡ l → grant_of places 2 0 ≡ 1 → Suits n places (readies l)
suits_readies n places l more l_in at granting = record {
  placed = ((omega arith, l_in, inr (inl (refl, refl))), ((omega arith, omega arith, inr (inr (inl (refl, refl)))), tt));
  near = (
    (λ e. absurd (omega arith), (λ e. omega arith, (λ e. absurd (omega arith), (λ e. absurd (omega arith), tt)))),
    ((λ e. absurd (omega arith), (λ e. absurd (omega arith), (λ e. omega arith, (λ e. at_first n (grant_of places 2 0) 1 l (omega arith) granting, tt)))), tt),
  );
  taken = (
    (λ e. inl (at_first n (accept_of places 0 0) l 0 l_in at), (λ e. inl (omega arith), (λ e. absurd (omega arith), (λ e. absurd (omega arith), tt)))),
    ((λ e. absurd (omega arith), (λ e. absurd (omega arith), (λ e. inl (omega arith), (λ e. absurd (omega arith), tt)))), tt),
  );
  done = (inl (l, inl (refl, refl)), (inl (l, inl (refl, refl)), (inl (2, inr (inl (refl, refl))), (inr (inl (1, inr (inl (refl, refl)))), tt))));
}

-- the same where input 2 takes output 1
pub suits_readies_too : (n : ℕ) (places : Places) (l : ℕ) → 2 < l → l < n → accept_of places 0 0 ≡ l → grant_of places 2 0 ≡ 1
    → Suits n places (readies_too l 2)
suits_readies_too n places l more l_in at granting = record {
  placed = (
    (omega arith, l_in, inr (inl (refl, refl))),
    ((omega arith, omega arith, inr (inr (inl (refl, refl)))), ((omega arith, omega arith, inr (inr (inr (inr (inl (refl, refl)))))), tt)),
  );
  near = (
    (λ e. absurd (omega arith), (λ e. omega arith, (λ e. absurd (omega arith), (λ e. absurd (omega arith), (λ e. absurd (omega arith), tt))))),
    (
      (
        λ e. absurd (omega arith),
        (λ e. absurd (omega arith), (λ e. omega arith, (λ e. at_first n (grant_of places 2 0) 1 l (omega arith) granting, (λ e. absurd (omega arith), tt)))),
      ),
      ((λ e. absurd (omega arith), (λ e. absurd (omega arith), (λ e. absurd (omega arith), (λ e. absurd (omega arith), (λ e. omega arith, tt))))), tt),
    ),
  );
  taken = (
    (
      λ e. inl (at_first n (accept_of places 0 0) l 0 l_in at),
      (λ e. inl (omega arith), (λ e. absurd (omega arith), (λ e. absurd (omega arith), (λ e. absurd (omega arith), tt)))),
    ),
    (
      (λ e. absurd (omega arith), (λ e. absurd (omega arith), (λ e. inl (omega arith), (λ e. absurd (omega arith), (λ e. absurd (omega arith), tt))))),
      ((λ e. absurd (omega arith), (λ e. absurd (omega arith), (λ e. absurd (omega arith), (λ e. absurd (omega arith), (λ e. inl (omega arith), tt))))), tt),
    ),
  );
  done = (
    inl (l, inl (refl, refl)),
    (inl (l, inl (refl, refl)), (inl (2, inr (inl (refl, refl))), (inr (inl (1, inr (inl (refl, refl)))), (inl (1, inr (inr (inl (refl, refl)))), tt)))),
  );
}

-- input 0 points at the last output, and output 1 is nearer to the last input's pointer than output 2
pub suits_crosses_by : (n : ℕ) (places : Places) (l : ℕ) → 2 < l → l < n → accept_of places 0 0 ≡ l
    → distance n (accept_of places l 0) 1 ≤ distance n (accept_of places l 0) 2 → Suits n places (crosses_by l l)
suits_crosses_by n places l more l_in at accepting = record {
  placed = ((omega arith, l_in, inr (inl (refl, refl))), ((l_in, omega arith, inr (inr (inl (refl, refl)))), tt));
  near = (
    (λ e. absurd (omega arith), (λ e. omega arith, (λ e. absurd (omega arith), (λ e. absurd (omega arith), tt)))),
    ((λ e. absurd (omega arith), (λ e. absurd (omega arith), (λ e. omega arith, (λ e. absurd (omega arith), tt)))), tt),
  );
  taken = (
    (λ e. inl (at_first n (accept_of places 0 0) l 0 l_in at), (λ e. inl (omega arith), (λ e. absurd (omega arith), (λ e. absurd (omega arith), tt)))),
    ((λ e. absurd (omega arith), (λ e. absurd (omega arith), (λ e. inl (omega arith), (λ e. inl accepting, tt)))), tt),
  );
  done = (inl (l, inl (refl, refl)), (inl (l, inl (refl, refl)), (inl (1, inr (inl (refl, refl))), (inl (1, inr (inl (refl, refl))), tt))));
}
