-- Shapes of more rounds under FIRM: the plans that its family is made of, and the pointers that suit them.
use Rattle.std.proofs.Common.{◌≡◌, ℕ, ◌+◌, ◌<◌, ◌≤◌, ◌∙◌, [], ◌∷◌, refl, ap, sym, subst, inl, inr, arith}
use Rattle.std.proofs.lemmas.Bool.{cases_lt}
use Rattle.rotating_pick.specs.Rotation.{distance}
use Rattle.pointer_state.specs.Places.{Places, grant_of, accept_of}
use Rattle.service_bound.proofs.Distances.{distance-above, distance-below, distance-own}
use Rattle.scheduler_laws.proofs.Plans.{pair, Each, Plan, asked}
use Rattle.scheduler_laws.proofs.PlannedSlots.{Suits, IsPassed, AreNear, AreTaken, IsDone}
use Rattle.scheduler_laws.proofs.SecondRounds.{IsSecond}
use Rattle.scheduler_laws.proofs.Shapes.{at_first, zero_passed}
use Rattle.scheduler_laws.proofs.MoreShapes.{joins_first}
use Rattle.scheduler_laws.proofs.FirmSlots.{also}

-- input x takes output f, and output 0, which it refuses, serves the next input in the second round
abbrev pub joining : ℕ → ℕ → Plan
joining x f = also (joins_first x f) (x + 1) 0

-- input x takes output 0, and input 1 output l, which input 2 asks too
abbrev pub prepares : ℕ → ℕ → Plan
prepares l x = record { asks = pair x 0 ∷ pair (x + 1) 0 ∷ pair 1 l ∷ pair 2 l ∷ []; serves = pair x 0 ∷ pair 1 l ∷ []; twice = [] }

-- the first round of a slot in which input l takes output a, input 2 output b and input u output v, and input 2 refuses
-- output c, which input 0 asks too
abbrev pub blocks : ℕ → ℕ → ℕ → ℕ → ℕ → ℕ → Plan
blocks l a b c u v = record {
  asks = pair l 0 ∷ pair l a ∷ pair 2 b ∷ pair 2 c ∷ pair 0 c ∷ pair u v ∷ [];
  serves = pair l a ∷ pair 2 b ∷ pair u v ∷ [];
  twice = [];
}

-- the same with the second round, in which input 0 takes output c
abbrev pub blocking : ℕ → ℕ → ℕ → ℕ → ℕ → ℕ → Plan
blocking l a b c u v = also (blocks l a b c u v) 0 c

-- input l takes output 0, and input 2 output 2
abbrev pub leaves_both : ℕ → Plan
leaves_both l = record { asks = pair l 0 ∷ pair 2 2 ∷ []; serves = pair l 0 ∷ pair 2 2 ∷ []; twice = [] }

-- a pointer at a port is nearer to it than to another
pub nearer : (n from x z : ℕ) → x < n → z < n → (z ≡ x → ⊥) → from ≡ x → distance n from x < distance n from z
nearer n from x z x_in z_in other at =
    let none : distance n from x ≡ 0 = ap (λ f. distance n f x) at ∙ distance-own n x x_in in
    elim (cases_lt z x) [
      | inl below ↦ let far : distance n from z + x ≡ z + n = ap (λ f. distance n f z + x) at ∙ distance-below n x z x_in z_in below in omega arith
      | inr above ↦
          let far : distance n from z + x ≡ z = ap (λ f. distance n f z + x) at ∙ distance-above n x z x_in z_in above in
          let apart : z ≡ x → ⊥ = other in
          omega arith
    ]

-- output 0 points at the input, and output l at the last input, which is input l
pub suits_prepares : (n : ℕ) (places : Places) (l x : ℕ) → 2 < x → x + 1 ≡ l → l < n → grant_of places 0 0 ≡ x → grant_of places l 0 ≡ l
    → Suits n places (prepares l x)
suits_prepares n places l x high next l_in at last = record {
  placed = ((omega arith, omega arith, inr (inl (refl, refl))), ((omega arith, l_in, inr (inr (inr (inl (refl, refl))))), tt));
  near = (
    (
      λ e. at_first n (grant_of places 0 0) x 0 (omega arith) at,
      (λ e. omega arith, (λ e. at_first n (grant_of places 0 0) x (x + 1) (omega arith) at, (λ e. absurd (omega arith), (λ e. absurd (omega arith), tt)))),
    ),
    (
      (λ e. absurd (omega arith), (λ e. absurd (omega arith), (λ e. absurd (omega arith), (λ e. omega arith, (λ e. one_nearer, tt))))),
      tt,
    ),
  );
  taken = (
    (λ e. absurd (omega arith), (λ e. inl (omega arith), (λ e. absurd (omega arith), (λ e. absurd (omega arith), (λ e. absurd (omega arith), tt))))),
    ((λ e. absurd (omega arith), (λ e. absurd (omega arith), (λ e. absurd (omega arith), (λ e. inl (omega arith), (λ e. absurd (omega arith), tt))))), tt),
  );
  done = (
    inr (inl (x, inl (refl, refl))),
    (
      inl (0, inl (refl, refl)),
      (inr (inl (x, inl (refl, refl))), (inl (l, inr (inl (refl, refl))), (inr (inl (1, inr (inl (refl, refl)))), tt))),
    ),
  );
} where
  one_nearer : distance n (grant_of places l 0) 1 ≤ distance n (grant_of places l 0) 2
  one_nearer =
      let near : distance n (grant_of places l 0) 1 + l ≡ 1 + n = ap (λ f. distance n f 1 + l) last ∙ distance-below n l 1 l_in (omega arith) (omega arith) in
      let far : distance n (grant_of places l 0) 2 + l ≡ 2 + n = ap (λ f. distance n f 2 + l) last ∙ distance-below n l 2 l_in (omega arith) (omega arith) in
      omega arith

-- output 0 points at the input
pub suits_leaves : (n : ℕ) (places : Places) (l : ℕ) → 2 < l → l < n → grant_of places 0 0 ≡ l → Suits n places (leaves_both l)
suits_leaves n places l high l_in at = record {
  placed = ((l_in, omega arith, inr (inl (refl, refl))), ((omega arith, omega arith, inr (inr (inl (refl, refl)))), tt));
  near = (
    (λ e. at_first n (grant_of places 0 0) l 0 l_in at, (λ e. omega arith, (λ e. absurd (omega arith), tt))),
    ((λ e. absurd (omega arith), (λ e. absurd (omega arith), (λ e. omega arith, tt))), tt),
  );
  taken = (
    (λ e. absurd (omega arith), (λ e. inl (omega arith), (λ e. absurd (omega arith), tt))),
    ((λ e. absurd (omega arith), (λ e. absurd (omega arith), (λ e. inl (omega arith), tt))), tt),
  );
  done = (inr (inl (l, inl (refl, refl))), (inl (0, inl (refl, refl)), (inl (2, inr (inl (refl, refl))), tt)));
}

-- Of the pairs of such a slot no two are of one output, and no two of one input, but that the last may be the second.
pub record AreApartHere (n l a b c u v : ℕ) : Type 0 where
  pub last_in : l < n
  pub high : 2 < l
  pub some_a : 0 < a
  pub a_in : a < n
  pub some_b : 0 < b
  pub b_in : b < n
  pub some_c : 0 < c
  pub c_in : c < n
  pub a_b : a ≡ b → ⊥
  pub a_c : a ≡ c → ⊥
  pub b_c : b ≡ c → ⊥
  pub some_u : 0 < u
  pub u_in : u < l
  pub some_v : 0 < v
  pub v_in : v < n
  pub a_v : a ≡ v → ⊥
  pub c_v : c ≡ v → ⊥
  pub of_output : b ≡ v → 2 ≡ u
  pub of_input : 2 ≡ u → b ≡ v

-- Input l points at output a, output 0 at input l and output c at input 2, which is not nearer to output c than to output b.
pub record IsBlocking (n : ℕ) (places : Places) (l a b c : ℕ) : Type 0 where
  pub grant : grant_of places 0 0 ≡ l
  pub accept : accept_of places l 0 ≡ a
  pub held : grant_of places c 0 ≡ 2
  pub near : distance n (accept_of places 2 0) b ≤ distance n (accept_of places 2 0) c

module _ (n : ℕ) (places : Places) (l a b c u v : ℕ) (apart : AreApartHere n l a b c u v) (at : IsBlocking n places l a b c) where
  -- there is input 2
  two_in : 2 < n
  two_in = let high = apart.high in let last = apart.last_in in omega arith

  -- output 0 and input l
  to_last : (w : ℕ) → distance n (grant_of places 0 0) l ≤ distance n (grant_of places 0 0) w
  to_last w = at_first n (grant_of places 0 0) l w apart.last_in at.grant

  of_last : (y : ℕ) → distance n (accept_of places l 0) a ≤ distance n (accept_of places l 0) y
  of_last y = at_first n (accept_of places l 0) a y apart.a_in at.accept

  -- input u is input 2 where they ask one output
  same_input : b ≡ v → (f : ℕ) → distance n f 2 ≡ distance n f u
  same_input e f = ap (distance n f) (apart.of_output e)

  -- and then they take one output
  same_output : 2 ≡ u → (f : ℕ) → distance n f b ≡ distance n f v
  same_output e f = ap (distance n f) (apart.of_input e)

  -- it is no nearer to output c
  near_too : 2 ≡ u → distance n (accept_of places u 0) v ≤ distance n (accept_of places u 0) c
  near_too e = subst (λ w. distance n (accept_of places w 0) v ≤ distance n (accept_of places w 0) c) e
      (let same = same_output e (accept_of places 2 0) in let near = at.near in omega arith)

  -- each pair is granted: no input that asks the output is nearer
  near_a : AreNear n places (blocks l a b c u v) l a
  near_a = (
    λ e. absurd (let some = apart.some_a in omega arith),
    (
      λ e. omega arith,
      (
        λ e. omega arith,
        (
          λ e. absurd (apart.a_b (sym e)),
          (λ e. absurd (apart.a_c (sym e)), (λ e. absurd (apart.a_c (sym e)), (λ e. absurd (apart.a_v (sym e)), tt))),
        ),
      ),
    ),
  )

  near_b : AreNear n places (blocks l a b c u v) 2 b
  near_b = (
    λ e. absurd (let some = apart.some_b in omega arith),
    (
      λ e. absurd (let some = apart.some_b in omega arith),
      (
        λ e. absurd (apart.a_b e),
        (
          λ e. omega arith,
          (λ e. omega arith, (λ e. absurd (apart.b_c (sym e)), (λ e. let same = same_input (sym e) (grant_of places b 0) in omega arith, tt))),
        ),
      ),
    ),
  )

  near_v : AreNear n places (blocks l a b c u v) u v
  near_v = (
    λ e. absurd (let some = apart.some_v in omega arith),
    (
      λ e. absurd (let some = apart.some_v in omega arith),
      (
        λ e. absurd (apart.a_v e),
        (
          λ e. let same = same_input e (grant_of places v 0) in omega arith,
          (λ e. absurd (apart.c_v e), (λ e. absurd (apart.c_v e), (λ e. omega arith, tt))),
        ),
      ),
    ),
  )

  -- and accepted: no output that grants the input is nearer
  taken_a : AreTaken n places (blocks l a b c u v) l a
  taken_a = (
    λ e. inl (of_last 0),
    (
      λ e. inl (of_last 0),
      (λ e. inl (of_last a), (λ e. inl (of_last b), (λ e. inl (of_last c), (λ e. inl (of_last c), (λ e. inl (of_last v), tt))))),
    ),
  )

  taken_b : AreTaken n places (blocks l a b c u v) 2 b
  taken_b = (
    λ e. absurd (omega arith),
    (
      λ e. absurd (let high = apart.high in omega arith),
      (
        λ e. absurd (let high = apart.high in omega arith),
        (
          λ e. inl (omega arith),
          (λ e. inl at.near, (λ e. absurd (omega arith), (λ e. inl (let same = same_output (sym e) (accept_of places 2 0) in omega arith), tt))),
        ),
      ),
    ),
  )

  taken_v : AreTaken n places (blocks l a b c u v) u v
  taken_v = (
    λ e. absurd (let some = apart.some_u in omega arith),
    (
      λ e. absurd (let less = apart.u_in in omega arith),
      (
        λ e. absurd (let less = apart.u_in in omega arith),
        (
          λ e. inl (let same = same_output e (accept_of places u 0) in omega arith),
          (λ e. inl (near_too e), (λ e. absurd (let some = apart.some_u in omega arith), (λ e. inl (omega arith), tt))),
        ),
      ),
    ),
  )

  -- no other request is served
  zero_is_passed : IsPassed n places (blocks l a b c u v) 0 0
  zero_is_passed = zero_passed n places (blocks l a b c u v) l (let high = apart.high in omega arith) apart.last_in at.grant (inr (inl (refl, refl)))

  refused_passed : IsPassed n places (blocks l a b c u v) 0 c
  refused_passed = (
    2,
    two_in,
    inr (inr (inr (inr (inl (refl, refl))))),
    nearer n (grant_of places c 0) 2 0 two_in (omega (arith, two_in)) (λ e. omega arith) at.held,
  )

  done_all : Each (IsDone n places (blocks l a b c u v)) (asked (blocks l a b c u v))
  done_all = (
    inr (inr zero_is_passed),
    (
      inl (a, inl (refl, refl)),
      (
        inl (a, inl (refl, refl)),
        (
          inl (b, inr (inl (refl, refl))),
          (inl (b, inr (inl (refl, refl))), (inr (inr refused_passed), (inl (v, inr (inr (inl (refl, refl)))), tt))),
        ),
      ),
    ),
  )

  -- so the pointers suit the plan
  pub suits_blocks : Suits n places (blocks l a b c u v)
  suits_blocks = record {
    placed = (
      (apart.last_in, apart.a_in, inr (inr (inl (refl, refl)))),
      (
        (two_in, apart.b_in, inr (inr (inr (inl (refl, refl))))),
        ((let less = apart.u_in in let last = apart.last_in in omega arith, apart.v_in, inr (inr (inr (inr (inr (inr (inl (refl, refl)))))))), tt),
      ),
    );
    near = (near_a, (near_b, (near_v, tt)));
    taken = (taken_a, (taken_b, (taken_v, tt)));
    done = done_all;
  }

  -- and input 0, which points at output 1, is second
  pub second_blocks : accept_of places 0 0 ≡ 1 → IsSecond n places (blocks l a b c u v) 0 c
  second_blocks first = record {
    input_in = let last = apart.last_in in omega arith;
    output_in = apart.c_in;
    asks = inr (inr (inr (inr (inr (inl (refl, refl))))));
    input_free = λ y is. elim is [
      | inl s ↦ let e = s.0 in let high = apart.high in omega arith
      | inr more ↦ elim more [
        | inl s ↦ let e = s.0 in omega arith
        | inr last ↦ elim last [ inl s ↦ let e = s.0 in let some = apart.some_u in omega arith | inr none ↦ none ]
      ]
    ];
    output_free = λ i is. elim is [
      | inl s ↦ apart.a_c (sym s.1)
      | inr more ↦ elim more [ inl s ↦ apart.b_c (sym s.1) | inr last ↦ elim last [ inl s ↦ apart.c_v s.1 | inr none ↦ none ] ]
    ];
    next = (
      λ e. absurd (let some = apart.some_c in omega arith),
      (
        λ e. absurd (let some = apart.some_c in omega arith),
        (
          λ e. absurd (apart.a_c e),
          (λ e. absurd (apart.b_c e), (λ e. inl (b, inr (inl (refl, refl))), (λ e. inr (omega arith), (λ e. absurd (apart.c_v (sym e)), tt)))),
        ),
      ),
    );
    at_hand = (
      λ e. to_zero,
      (
        λ e. absurd (let high = apart.high in omega arith),
        (
          λ e. absurd (let high = apart.high in omega arith),
          (λ e. absurd (omega arith), (λ e. absurd (omega arith), (λ e. omega arith, (λ e. absurd (let some = apart.some_u in omega arith), tt)))),
        ),
      ),
    );
  } where
    to_zero : distance n (accept_of places 0 0) c ≤ distance n (accept_of places 0 0) 0
    to_zero =
        let some = apart.some_c in
        let inside = apart.c_in in
        let near : distance n (accept_of places 0 0) c + 1 ≡ c = ap (λ f. distance n f c + 1) first ∙ distance-above n 1 c (omega arith) inside some in
        let far : distance n (accept_of places 0 0) 0 + 1 ≡ 0 + n = ap (λ f. distance n f 0 + 1) first ∙ distance-below n 1 0 (omega arith) (omega arith)
        (omega arith) in
        omega arith
