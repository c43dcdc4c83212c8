-- Going down: slots in which an input's pointer goes from an output to output 0, whose grants it refuses.
use Rattle.std.proofs.Common.{◌≡◌, ℕ, zero, suc, ◌+◌, ◌%◌, ◌<◌, ◌≤◌, ◌⊎◌, ◌∙◌, List, [], ◌∷◌, length, replicate, slice_index, refl, ap, sym, subst, inl}
use Rattle.std.proofs.Common.{inr, arith}
use Rattle.std.proofs.Math.Nat.{mod-eq_of_lt}
use Rattle.std.proofs.lemmas.List.{length-replicate, get_or-replicate}
use Rattle.std.proofs.lemmas.Nat.{mod_below}
use Rattle.rotating_pick.specs.Rotation.{distance}
use Rattle.rotating_pick.specs.declared.kinds.Kind.TheVariants.{Uni}
use Rattle.rotating_pick.specs.declared.limits.TheConstants.{LEVELS, MAX_PORTS}
use Rattle.slot_match.specs.Rows.{Names, row_of, AreWithin}
use Rattle.slot_match.specs.Matches.{Serves}
use Rattle.pointer_state.specs.Places.{Places, place_of, IsTable, ArePointing, grant_of, accept_of}
use Rattle.service_bound.specs.Windows.{IsClean, IsWithoutMulticast}
use Rattle.service_bound.specs.Latest.{IsServedLast}
use Rattle.service_bound.proofs.Distances.{distance-above, distance-below}
use Rattle.service_bound.proofs.Postings.{Posting, IsPosted, zero_posted, names, AreWithin-rows, IsClean-rows, IsWithoutMulticast-rows}
use Rattle.service_bound.proofs.PostedSlots.{Suits}
use Rattle.service_bound.proofs.PostedRuns.{decided, run, All-run, IsSwitch, IsSwitch-after, IsSchedule-run, Starts, IsLate, IsIn, IsStep}
use Rattle.service_bound.proofs.PostedRuns.{IsLate-before, step_alone, left_alone, left_in_one}

-- a posting of an input and input 0 alone
abbrev pub plain : ℕ → ℕ → ℕ → Posting
plain x y z = record { input = x; beside = y; own = z; other = 0; output = 0 }

-- input x takes output a
abbrev pub lowers : ℕ → ℕ → Posting
lowers x a = plain x a 0

-- input x takes output 0, and input 0 takes output 1
abbrev pub passes : ℕ → Posting
passes x = plain x 0 1

-- input x goes down from output a in k slots, and then come the rest
abbrev pub downs : ℕ → ℕ → ℕ → List Posting → List Posting
downs x a zero rest = rest
downs x a (suc k) rest = lowers x a ∷ downs x (a + 1) k rest

pub length-downs : (x k a : ℕ) (rest : List Posting) → length (downs x a k rest) ≡ k + length rest
length-downs x zero a rest = omega arith
length-downs x (suc k) a rest = let e = length-downs x k (a + 1) rest in omega arith

pub starts_downs : (P : Posting → Type 0) (x k a : ℕ) (rest : List Posting) → ((b : ℕ) → P (lowers x b)) → Starts P rest → Starts P (downs x a k rest)
starts_downs P x zero a rest here starts = starts
starts_downs P x (suc k) a rest here starts = here a

pub starts_either : (P Q : Posting → Type 0) (ps : List Posting) → Starts Q ps → Starts (λ next. P next ⊎ Q next) ps
starts_either P Q [] starts = absurd starts
starts_either P Q (p ∷ ps) starts = inr starts

-- Output 0 points at p, input x at output a, and the inputs from `low` to below `high` at output b. A port n
-- is port 0.
pub record IsStanding (n : ℕ) (places : Places) (p low high x a b : ℕ) : Type 0 where
  pub switch : IsSwitch n places
  pub grant : grant_of places 0 0 ≡ p % n
  pub accept : accept_of places x 0 ≡ a % n
  pub fresh : (i : ℕ) → low ≤ i → i < high → accept_of places i 0 ≡ b

-- from a pointer other than 0, port 0 is farther than the ports from the pointer on
pub nearer : (n p x : ℕ) → 0 < p → p ≤ x → x < n → distance n p x ≤ distance n p 0
nearer n p x some ahead x_in =
    let near = distance-above n p x (omega arith) x_in ahead in
    let far = distance-below n p 0 (omega arith) (omega arith) some in
    omega arith

pub nearer_standing : (n from p x : ℕ) → from ≡ p % n → 0 < p → p ≤ x → x < n → distance n from x ≤ distance n from 0
nearer_standing n from p x e some ahead x_in =
    let at : from ≡ p = e ∙ mod-eq_of_lt (omega arith) in
    subst (λ f. distance n f x ≤ distance n f 0) (sym at) (nearer n p x some ahead x_in)

pub Suits-plain : (n : ℕ) (places : Places) (x y z : ℕ) → (x ≡ 0) ⊎ (distance n (grant_of places 0 0) x ≤ distance n (grant_of places 0 0) 0) → (y ≡ 0)
    ⊎ (accept_of places x 0 ≡ y) → (z ≡ 0) ⊎ ((0 < x) × (y ≡ z → ⊥)) → Suits n places (plain x y z)
Suits-plain n places x y z front pointer own =
    let From = grant_of places 0 0 in
    let zero_near : distance n From x ≤ distance n From 0 = elim front [ inl e ↦ let d = ap (distance n From) e in omega arith | inr less ↦ less ] in
    record {
      first = λ i i_in is. elim is [
        | inl a ↦ let e = ap (distance n From) a.0 in omega arith
        | inr more ↦ elim more [ inl b ↦ let e = ap (distance n From) b.0 in omega arith | inr c ↦ let e = ap (distance n From) c.0 in omega arith ]
      ];
      pointer = pointer;
      own = own;
      low = inl refl;
      apart = λ other. absurd (omega arith);
    }

module _ (n rounds : ℕ) (some_rounds : 0 < rounds) where
  -- how input 0 is not served at output 0: it takes another output, or there is one round and another input is granted
  abbrev Leaves : ℕ → ℕ → ℕ → Type 0
  Leaves x y z = ((rounds ≡ 1) × ((0 < y) ⊎ (0 < x))) ⊎ (((x ≡ 0) × (0 < y)) ⊎ (0 < z))

  left_plain : (t : ℕ) (places : Places) (x y z : ℕ) → IsSwitch n places → IsIn n (plain x y z) → Suits n places (plain x y z)
      → IsStep n rounds t places (plain x y z) → Leaves x y z → Serves (decided n rounds t places (plain x y z)).matched 0 0 0 Uni → ⊥
  left_plain t places x y z switch ports_in suits step how = elim how [
    | inl one ↦ subst (λ r. Serves (decided n r t places (plain x y z)).matched 0 0 0 Uni → ⊥) (sym one.0)
        (left_in_one n t places (plain x y z) switch ports_in suits one.1)
    | inr other ↦ left_alone n rounds t places (plain x y z) switch ports_in suits some_rounds step (elim other [ inl a ↦ inl a | inr b ↦ inr (inl b) ])
  ]

  -- one slot of going down: input x takes the output that it points at, and input 0 output z
  pub late_slot : (rest : List Posting) (p low high x a z b t : ℕ) (places : Places) → 0 < a → a < n → x < n → z < n → (x < low) ⊎ (high ≤ x) → (x ≡ 0)
      ⊎ ((0 < p) × (p ≤ x)) → (z ≡ 0) ⊎ ((0 < x) × (a ≡ z → ⊥) × (0 < low)) → Leaves x a z
      → IsStanding n places p low high x a b → Starts (λ next. IsPosted next x 0) rest
      → ((places : Places) → IsStanding n places p low high x (a + 1) b → IsLate n rounds (t + 1) places rest)
      → IsLate n rounds t places (plain x a z ∷ rest)
  late_slot rest p low high x a z b t places some a_in x_in z_in outside front own how standing starts then =
      let it = plain x a z in
      let suits = Suits-plain n places x a z
      (elim front [ inl e ↦ inl e | inr f ↦ inr (nearer_standing n (grant_of places 0 0) p x standing.grant f.0 f.1 x_in) ])
      (inr (standing.accept ∙ mod-eq_of_lt a_in))
      (elim own [ inl e ↦ inl e | inr q ↦ inr (q.0, q.1) ]) in
      let ports_in : IsIn n it = record { input_in = x_in; beside_in = a_in; own_in = z_in; other_in = omega arith; output_in = omega arith } in
      let step = step_alone n rounds t places it standing.switch ports_in suits some_rounds (inl refl) in
      let next : IsStanding n (decided n rounds t places it).places p low high x (a + 1) b = record {
        switch = IsSwitch-after n rounds t places it standing.switch;
        grant = step.moving.grant_stays some ∙ standing.grant;
        accept = step.moving.accepted;
        fresh = λ i i_low i_high. step.moving.accept_stays i
            (λ e. elim outside [ inl l ↦ omega arith | inr h ↦ omega arith ])
            (λ more e. elim own [ inl none ↦ omega arith | inr q ↦ let l = q.2 in omega arith ])
            (λ more e. omega arith) ∙ standing.fresh i i_low i_high;
      } in
      IsLate-before n rounds t places it rest step.serving (left_plain t places x a z standing.switch ports_in suits step how)
      (starts_either (λ next. a ≡ 0) (λ next. IsPosted next x 0) rest starts)
      (then (decided n rounds t places it).places next)

  -- Input x goes down, beginning in slot t. All other pointers that matter stay, and queue (0, 0) is not served.
  pub late_downs : (p low high x b : ℕ) (rest : List Posting) → x < n → (x < low) ⊎ (high ≤ x) → (x ≡ 0) ⊎ ((0 < p) × (p ≤ x)) → (x ≡ 0) ⊎ (rounds ≡ 1)
      → Starts (λ next. IsPosted next x 0) rest → ((t : ℕ) (places : Places) → IsStanding n places p low high x n b → IsLate n rounds t places rest)
      → (k a t : ℕ) (places : Places) → 0 < a → a + k ≡ n → IsStanding n places p low high x a b → IsLate n rounds t places (downs x a k rest)
  late_downs p low high x b rest x_in outside front how starts then zero a t places some sum standing =
      let e : a ≡ n = omega arith in
      then t places (subst (λ v. IsStanding n places p low high x v b) e standing)
  late_downs p low high x b rest x_in outside front how starts then (suc k) a t places some sum standing =
      late_slot (downs x (a + 1) k rest) p low high x a 0 b t places some (omega arith) x_in (omega arith) outside front (inl refl)
      (elim how [ inl e ↦ inr (inl (e, some)) | inr one ↦ inl (one, inl some) ]) standing
      (starts_downs (λ next. IsPosted next x 0) x k (a + 1) rest (λ v. inl (refl, inl refl)) starts)
      (λ places next. late_downs p low high x b rest x_in outside front how starts then k (a + 1) (t + 1) places (omega arith) (omega arith) next)

  -- the slot in which output 0 goes beyond input p, and input 0 points at output 2
  pub late_passes : (rest : List Posting) (p low high a b t : ℕ) (places : Places) → 0 < p → p < n → p < low → IsStanding n places p low high p a b
      → Starts (λ next. 0 < n) rest → ((places : Places) → IsStanding n places (p + 1) low high 0 2 b → IsLate n rounds (t + 1) places rest)
      → IsLate n rounds t places (passes p ∷ rest)
  late_passes rest p low high a b t places some p_in older standing starts then =
      let it = passes p in
      let suits = Suits-plain n places p 0 1 (inr (nearer_standing n (grant_of places 0 0) p p standing.grant some (omega arith) p_in)) (inl refl)
      (inr (some, λ e. omega arith)) in
      let ports_in : IsIn n it = record { input_in = p_in; beside_in = omega arith; own_in = omega arith; other_in = omega arith; output_in = omega arith } in
      let step = step_alone n rounds t places it standing.switch ports_in suits some_rounds (inl refl) in
      let next : IsStanding n (decided n rounds t places it).places (p + 1) low high 0 2 b = record {
        switch = IsSwitch-after n rounds t places it standing.switch;
        grant = step.moving.granted refl;
        accept = step.moving.also (omega arith);
        fresh = λ i i_low i_high. step.moving.accept_stays i (λ e. omega arith) (λ more e. omega arith) (λ more e. omega arith) ∙ standing.fresh i i_low i_high;
      } in
      IsLate-before n rounds t places it rest step.serving (left_plain t places p 0 1 standing.switch ports_in suits step (inr (inr (omega arith))))
      (starts_zero rest starts)
      (then (decided n rounds t places it).places next) where
        starts_zero : (ps : List Posting) → Starts (λ next. 0 < n) ps → Starts (λ next. ((passes p).beside ≡ 0) ⊎ IsPosted next p 0) ps
        starts_zero [] starts = absurd starts
        starts_zero (q ∷ ps) starts = inl refl

  -- a slot in which input 0 alone asks output 0, and nothing else
  pub served_last_slot : (t : ℕ) (places : Places) → 0 < n → IsSwitch n places → Serves (decided n rounds t places (lowers 0 0)).matched 0 0 0 Uni
  served_last_slot t places some switch =
      (step_alone n rounds t places (lowers 0 0) switch (record { input_in = some; beside_in = some; own_in = some; other_in = some; output_in = some })
      (Suits-plain n places 0 0 0 (inl refl) (inl refl) (inl refl)) some_rounds (inl refl)).serving.served

-- the pointers that the families begin with: output 0 and all inputs point at port 1, or at the only port
abbrev pub IsBeginning : ℕ → Places → Type 0
IsBeginning n places = IsStanding n places 1 1 n 0 1 1

-- all pointers at port 1, or at the only port
all_at : ℕ → List (List ℕ)
all_at place = replicate LEVELS (replicate MAX_PORTS place)

IsTable-all_at : (place : ℕ) → IsTable (all_at place)
unfolding all_at
IsTable-all_at place =
    record {
      levels = length-replicate LEVELS (replicate {A = ℕ} MAX_PORTS place);
      ports = λ level level_in. ap length (get_or-replicate LEVELS level (replicate {A = ℕ} MAX_PORTS place) [] level_in)
          ∙ length-replicate {A = ℕ} MAX_PORTS place;
    }

all_at-is : (place level port : ℕ) → level < LEVELS → port < MAX_PORTS → place_of (all_at place) level port ≡ place
unfolding all_at
all_at-is place level port level_in port_in = ap (λ row. slice_index row port) (get_or-replicate LEVELS level (replicate {A = ℕ} MAX_PORTS place) [] level_in)
    ∙ get_or-replicate MAX_PORTS port place 0 port_in

-- the grant pointers at one port and the accept pointers at another
pub places_at : ℕ → ℕ → ℕ → Places
places_at n grant accept = record { ports = n; grant = all_at grant; accept = all_at accept; shared = replicate LEVELS 0 }

pub grant_of-places_at : (n grant accept j level : ℕ) → j < MAX_PORTS → level < LEVELS → grant_of (places_at n grant accept) j level ≡ grant
unfolding places_at
grant_of-places_at n grant accept j level j_in level_in = all_at-is grant level j level_in j_in

pub accept_of-places_at : (n grant accept i level : ℕ) → i < MAX_PORTS → level < LEVELS → accept_of (places_at n grant accept) i level ≡ accept
unfolding places_at
accept_of-places_at n grant accept i level i_in level_in = all_at-is accept level i level_in i_in

pub IsSwitch-places_at : (n grant accept : ℕ) → 0 < n → n ≤ MAX_PORTS → grant < n → accept < n → IsSwitch n (places_at n grant accept)
unfolding places_at
IsSwitch-places_at n grant accept some size grant_in accept_in = record {
  at_ports = record {
    some = some;
    size = size;
    grant_table = IsTable-all_at grant;
    accept_table = IsTable-all_at accept;
    shared_levels = length-replicate {A = ℕ} LEVELS 0;
    pointing = λ level level_in. record {
      grant = λ j j_in. let e = all_at-is grant level j level_in (omega arith) in omega arith;
      accept = λ i i_in. let e = all_at-is accept level i level_in (omega arith) in omega arith;
      shared = let e : slice_index (replicate LEVELS 0) level ≡ 0 = get_or-replicate LEVELS level 0 0 level_in in omega arith;
    };
  };
  ports = refl;
}

unfoldable pub places_at_one : ℕ → Places
places_at_one n = places_at n (1 % n) (1 % n)

module _ (n : ℕ) (some : 0 < n) (size : n ≤ MAX_PORTS) where
  pub IsBeginning-at_one : IsBeginning n (places_at_one n)
  unfolding places_at_one
  IsBeginning-at_one =
      let one_in = mod_below 1 n some in
      record {
        switch = IsSwitch-places_at n (1 % n) (1 % n) some size one_in one_in;
        grant = grant_of-places_at n (1 % n) (1 % n) 0 0 (omega arith) (omega arith);
        accept = accept_of-places_at n (1 % n) (1 % n) 0 0 (omega arith) (omega arith);
        fresh = λ i late i_in. accept_of-places_at n (1 % n) (1 % n) i 0 (omega arith) (omega arith) ∙ mod-eq_of_lt (omega arith);
      }

-- What is late from pointers of a switch is a window in which queue (0, 0) is served in the last slot alone.
pub IsServedLast-run : (n rounds t : ℕ) (places : Places) (ps : List Posting) → IsSwitch n places → IsLate n rounds t places ps
    → IsServedLast n rounds t 0 0 0 places (run n rounds t places ps)
IsServedLast-run n rounds t places ps switch late =
    let some : 0 < n = subst (λ m. 0 < m) switch.ports switch.at_ports.some in
    record {
      at_ports = switch.at_ports;
      ports = switch.ports;
      window = record {
        pointing = subst (λ m. ArePointing m 0 places) switch.ports (switch.at_ports.pointing 0 (omega arith));
        schedule = IsSchedule-run n rounds t places ps switch;
        within = All-run n rounds t places (AreWithin n) (AreWithin-rows n) ps;
        kept = late.kept;
        clean = All-run n rounds t places (IsClean n 0) (IsClean-rows n) ps;
      };
      alone = All-run n rounds t places (IsWithoutMulticast n 0) (IsWithoutMulticast-rows n) ps;
      posted = All-run n rounds t places (λ rows. Names (row_of rows 0) 0 Uni 0) (λ p. names n p 0 0 some some (zero_posted p)) ps;
      last = late.last;
    }
