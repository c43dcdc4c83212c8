-- A family of schedules of one round at line rate, for three ports or more, in which a request is served as late as can be.
--
-- At first each input in turn takes output 0, and input 0 once more, so that output 0 and all inputs point at port 1. Then
-- input 0 asks output 0 in every slot. "Input x goes down from output a": in each slot it asks output 0 and the output that
-- it points at, a, a + 1, .., n - 1, and takes the latter. Input 0 goes down from 1. Input 1 begins to ask output 2 in the
-- slot in which input 0 takes that, and from then on has a cell for it; at the end it takes output 1 while its request for
-- output 2 waits. Then each other input x in turn goes down, input 1 from output 2 and the others from output 1, and takes
-- output 0 in a slot in which input 0 takes output 1, and input 0 goes down again from output 2; in its last slot the next
-- input begins to ask output 1, which takes input 1.
use Rattle.std.proofs.Common.{◌≡◌, ℕ, zero, suc, ◌+◌, ◌-◌, ◌*◌, ◌%◌, ◌<◌, ◌≤◌, ◌⊎◌, ◌∙◌, List, [], ◌∷◌, length, refl, ap, sym, subst, inl, inr, arith}
use Rattle.std.proofs.Math.Nat.{mod-eq_of_lt}
use Rattle.std_lemmas.proofs.Numbers.{mod_once}
use Rattle.rotating_pick.specs.Rotation.{distance}
use Rattle.pointer_state.specs.Places.{Places, grant_of, accept_of}
use Rattle.service_bound.specs.Waits.{longest_service_in_one_round}
use Rattle.service_bound.proofs.Distances.{distance-below, distance-own}
use Rattle.service_bound.proofs.PostedRuns.{IsSwitch}
use Rattle.scheduler_laws.proofs.Plans.{Plan}
use Rattle.scheduler_laws.proofs.PlannedSlots.{decided, step_of, IsSwitch-after}
use Rattle.scheduler_laws.proofs.NextPlans.{Follows, Starts}
use Rattle.scheduler_laws.proofs.OneRoundRuns.{IsLate, IsLate-before, IsLate-last}
use Rattle.scheduler_laws.proofs.Shapes.{takes, ends, passes, crosses, wins, both, suits_takes, suits_ends, suits_passes, suits_wins}
use Rattle.scheduler_laws.proofs.Shapes.{IsCrossing, suits_crosses, suits_both}
use Rattle.scheduler_laws.proofs.Followings.{takes_takes, takes_passes, passes_takes, takes_ends, passes_crosses, takes_crosses, crosses_takes}
use Rattle.scheduler_laws.proofs.Followings.{takes_wins, wins_both, both_both, both_crosses, wins_crosses, wins_crosses_zero, crosses_zero_takes}

-- ---- the plans
-- input x goes down from output a in k slots, and then come the rest
abbrev pub downs : ℕ → ℕ → ℕ → List Plan → List Plan
downs x a zero rest = rest
downs x a (suc k) rest = takes x a ∷ downs x (a + 1) k rest

-- input 0 takes k outputs from y on, while input w takes output 2, and then come the rest
abbrev pub boths : ℕ → ℕ → ℕ → List Plan → List Plan
boths w y zero rest = rest
boths w y (suc k) rest = both y w ∷ boths w (y + 1) k rest

-- the turn of input x, which goes down from output f, those of the k inputs after it, and the last slot
abbrev pub turns : ℕ → ℕ → ℕ → ℕ → List Plan
turns n x f zero = downs x f (n - f) (passes x ∷ downs 0 2 (n - 2) (ends 0 ∷ []))
turns n x f (suc k) = downs x f (n - f) (passes x ∷ downs 0 2 (n - 3) (crosses (n - 1) (x + 1) 1 ∷ turns n (x + 1) 1 k))

-- so many slots is going down
pub length-downs : (x k a : ℕ) (rest : List Plan) → length (downs x a k rest) ≡ k + length rest
length-downs x zero a rest = omega arith
length-downs x (suc k) a rest = let e = length-downs x k (a + 1) rest in omega arith

-- and so many are these
pub length-boths : (w k y : ℕ) (rest : List Plan) → length (boths w y k rest) ≡ k + length rest
length-boths w zero y rest = omega arith
length-boths w (suc k) y rest = let e = length-boths w k (y + 1) rest in omega arith

-- so many slots are the turns
length-turns : (n k x f : ℕ) → 2 < n → length (turns n x f k) ≡ n - f + (n - 1) + k * (n - 1 + (n - 1)) + 1
length-turns n zero x f two =
    let first = length-downs x (n - f) f (passes x ∷ downs 0 2 (n - 2) (ends 0 ∷ [])) in
    let second = length-downs 0 (n - 2) 2 (ends 0 ∷ []) in
    omega arith
length-turns n (suc k) x f two =
    let rest = crosses (n - 1) (x + 1) 1 ∷ turns n (x + 1) 1 k in
    let first = length-downs x (n - f) f (passes x ∷ downs 0 2 (n - 3) rest) in
    let second = length-downs 0 (n - 3) 2 rest in
    let later = length-turns n k (x + 1) 1 two in
    omega arith

-- all slots after `head` ones are as many as there should be
longest-is : (m n u v : ℕ) → n ≡ m + 2 → u ≡ m + 1 → v ≡ m → u + (v + u + v * (u + u) + 1) + 1 ≡ longest_service_in_one_round n
longest-is m n u v en eu ev = rw (en, eu, ev) (omega arith)

-- with the slots before the turns
pub length-all : (n : ℕ) → 2 < n → n - 1 + length (turns n 1 2 (n - 2)) + 1 ≡ longest_service_in_one_round n
length-all n two = ap (λ l. n - 1 + l + 1) (length-turns n (n - 2) 1 2 two) ∙ longest-is (n - 2) n (n - 1) (n - 2) (omega arith) (omega arith) refl

-- ---- which plans come first
starts_downs : (P : Plan → Type 0) (x k a : ℕ) (rest : List Plan) → P (takes x a) → Starts P rest → Starts P (downs x a k rest)
starts_downs P x zero a rest here starts = starts
starts_downs P x (suc k) a rest here starts = here

-- where there are some
pub starts_more : (P : Plan → Type 0) (x k a : ℕ) (rest : List Plan) → 0 < k → P (takes x a) → Starts P (downs x a k rest)
starts_more P x zero a rest some here = absurd (omega arith)
starts_more P x (suc k) a rest some here = here

-- these begin so, if there are some
pub starts_boths : (P : Plan → Type 0) (w k y : ℕ) (rest : List Plan) → P (both y w) → Starts P rest → Starts P (boths w y k rest)
starts_boths P w zero y rest here starts = starts
starts_boths P w (suc k) y rest here starts = here

-- the turns begin with the first output of the first input
starts_turns : (P : Plan → Type 0) (n k x f : ℕ) → f < n → P (takes x f) → Starts P (turns n x f k)
starts_turns P n zero x f f_in here = starts_more P x (n - f) f (passes x ∷ downs 0 2 (n - 2) (ends 0 ∷ [])) (omega arith) here
starts_turns P n (suc k) x f f_in here = starts_more P x (n - f) f (passes x ∷ downs 0 2 (n - 3) (crosses (n - 1) (x + 1) 1 ∷ turns n (x + 1) 1 k))
    (omega arith) here

-- going down is at line rate
pub follows_downs : (x a k last : ℕ) (rest : List Plan) → 0 < a → a + suc k ≡ last + 1 → Starts (Follows (takes x last)) rest
    → Starts (Follows (takes x a)) (downs x (a + 1) k rest)
follows_downs x a zero last rest some sum starts = let e : last ≡ a = omega arith in subst (λ v. Starts (Follows (takes x v)) rest) e starts
follows_downs x a (suc k) last rest some sum starts = takes_takes x a some

-- ---- the pointers along the window
-- Where they are to be: output 0 at p, the inputs from `low` on at output 1, and output m, if that is not 0, at g. Input x moves
-- on meanwhile.
pub record Stand : Type 0 where
  pub p : ℕ
  pub low : ℕ
  pub x : ℕ
  pub m : ℕ
  pub g : ℕ

-- in the beginning, where output m points at input 0
abbrev pub beginning : ℕ → Stand
beginning m = record { p = 1; low = 1; x = 0; m = m; g = 0 }

-- before the turns
abbrev before : Stand
before = record { p = 1; low = 2; x = 0; m = 0; g = 0 }

-- while input x goes down in its turn
abbrev own : ℕ → Stand
own x = record { p = x; low = x + 1; x = x; m = 0; g = 0 }

-- and then input 0, before the turn of input w
abbrev back : ℕ → Stand
back w = record { p = w; low = w; x = 0; m = 1; g = 1 }

-- between two turns
abbrev between : ℕ → ℕ → Stand
between p low = record { p = p; low = low; x = 1; m = 0; g = 0 }

-- They are there, and input x points at output a. A port n is port 0.
pub record IsStanding (n : ℕ) (s : Stand) (a : ℕ) (places : Places) : Type 0 where
  pub switch : IsSwitch n places
  pub grant : grant_of places 0 0 ≡ s.p % n
  pub beyond : 0 < a
  pub accept : accept_of places s.x 0 ≡ a % n
  pub fresh : (i : ℕ) → s.low ≤ i → i < n → accept_of places i 0 ≡ 1
  pub held : 0 < s.m → grant_of places s.m 0 ≡ s.g

-- Input x is one of the switch below those at output 1, and is input 0 or output 0 points at it.
record CanGo (n : ℕ) (s : Stand) : Type 0 where
  x_in : s.x < n
  under : s.x < s.low
  front : (s.x ≡ 0) ⊎ ((0 < s.x) × (s.p ≡ s.x))

-- the plans are late from any slot on, and from all pointers of which P holds
abbrev AreLate : ℕ → (Places → Type 0) → List Plan → Type 0
AreLate n P ps = (t : ℕ) (places : Places) → P places → IsLate n t places ps

module _ (n : ℕ) (two : 2 < n) where
  -- there are ports
  some : 0 < n
  some = omega arith

  -- Input x goes down k outputs from output a on. All other pointers that matter stay, and queue (0, 0) is not served.
  late_downs : (s : Stand) (rest : List Plan) → CanGo n s → (k a : ℕ) → a + k ≤ n → (s.m < a) ⊎ (a + k ≤ s.m)
      → ((b : ℕ) → b + 1 ≡ a + k → Starts (Follows (takes s.x b)) rest)
      → AreLate n (IsStanding n s (a + k)) rest → AreLate n (IsStanding n s a) (downs s.x a k rest)
  late_downs s rest can zero a a_in aside starts then t places standing =
      let e : a ≡ a + 0 = omega arith in
      then t places (subst (λ v. IsStanding n s v places) e standing)
  late_downs s rest can (suc k) a a_in aside starts then t places standing =
      let x = s.x in
      let some_a = standing.beyond in
      let suits = suits_takes n places x a can.x_in some_a (omega arith)
      (elim can.front [ inl e ↦ inl e | inr f ↦ inr (f.0, standing.grant ∙ ap (λ v. v % n) f.1 ∙ mod-eq_of_lt can.x_in) ])
      (standing.accept ∙ mod-eq_of_lt (omega arith)) in
      let step = step_of n t places (takes x a) some standing.switch suits in
      let after = (decided n t places (takes x a)).places in
      let e : a + suc k ≡ a + 1 + k = omega arith in
      let next : IsStanding n s (a + 1) after = record {
        switch = IsSwitch-after n t places (takes x a) standing.switch;
        grant = step.grant_stays 0 (λ i is. elim is [ inl s ↦ let e = s.1 in omega arith | inr none ↦ none ]) ∙ standing.grant;
        beyond = omega arith;
        accept = step.accepted x a (inl (refl, refl));
        fresh = λ i late i_in. step.accept_stays i
            (λ j is. elim is [ inl s ↦ let e = s.0 in let under = can.under in omega arith | inr none ↦ none ]) ∙ standing.fresh i late i_in;
        held = λ some_m. step.grant_stays s.m
            (λ i is. elim is [ inl s ↦ let e = s.1 in elim aside [ inl l ↦ omega arith | inr h ↦ omega arith ] | inr none ↦ none ])
            ∙ standing.held some_m;
      } in
      IsLate-before n t places (takes x a) (downs x (a + 1) k rest) step
      (follows_downs x a k (a + k) rest some_a (omega arith) (starts (a + k) (omega arith)))
      (λ is. elim is [ inl s ↦ let e = s.1 in omega arith | inr none ↦ none ])
      (late_downs s rest can k (a + 1) (omega arith) (elim aside [ inl l ↦ inl (omega arith) | inr h ↦ inr (omega arith) ])
      (λ b is. starts b (omega arith)) (subst (λ v. AreLate n (IsStanding n s v) rest) e then) (t + 1) after next)

  -- the slot in which input x takes output 0, and input 0 output 1
  late_passes : (x a : ℕ) (rest : List Plan) → 0 < x → x < n → Starts (Follows (passes x)) rest
      → AreLate n (IsStanding n (back (x + 1)) 2) rest → AreLate n (IsStanding n (own x) a) (passes x ∷ rest)
  late_passes x a rest some_x x_in starts then t places standing =
      let suits = suits_passes n places x some_x x_in (standing.grant ∙ mod-eq_of_lt x_in) in
      let step = step_of n t places (passes x) some standing.switch suits in
      let next : IsStanding n (back (x + 1)) 2 (decided n t places (passes x)).places = record {
        switch = IsSwitch-after n t places (passes x) standing.switch;
        grant = step.granted x 0 (inl (refl, refl));
        beyond = omega arith;
        accept = step.accepted 0 1 (inr (inl (refl, refl)));
        fresh = λ i late i_in. step.accept_stays i
            (λ j is. elim is [ inl s ↦ let e = s.0 in omega arith | inr more ↦ elim more [ inl s ↦ let e = s.0 in omega arith | inr none ↦ none ] ])
            ∙ standing.fresh i late i_in;
        held = λ yes. step.granted 0 1 (inr (inl (refl, refl))) ∙ mod-eq_of_lt (omega arith);
      } in
      IsLate-before n t places (passes x) rest step starts
      (λ is. elim is [ inl s ↦ let e = s.0 in omega arith | inr more ↦ elim more [ inl s ↦ let e = s.1 in omega arith | inr none ↦ none ] ])
      (then (t + 1) (decided n t places (passes x)).places next)

  -- The slot in which input 0 takes the last output and input 1 output 1, while one more request waits. The inputs from
  -- `low` on stay, and output 0 does.
  late_crosses : (s : Stand) (a u v : ℕ) (rest : List Plan) → 1 < s.low → Starts (Follows (crosses (n - 1) u v)) rest
      → AreLate n (IsStanding n (between s.p s.low) 2) rest
      → AreLate n (λ places. IsStanding n s a places × IsCrossing n (n - 1) u v places) (crosses (n - 1) u v ∷ rest)
  late_crosses s a u v rest above starts then t places at =
      let it = crosses (n - 1) u v in
      let standing = at.0 in
      let suits = suits_crosses n places (n - 1) u v (omega arith) (omega arith) at.1 in
      let step = step_of n t places it some standing.switch suits in
      let next : IsStanding n (between s.p s.low) 2 (decided n t places it).places = record {
        switch = IsSwitch-after n t places it standing.switch;
        grant = step.grant_stays 0
            (λ i is. elim is [ inl s ↦ let e = s.1 in omega arith | inr more ↦ elim more [ inl s ↦ let e = s.1 in omega arith | inr none ↦ none ] ])
            ∙ standing.grant;
        beyond = omega arith;
        accept = step.accepted 1 1 (inr (inl (refl, refl)));
        fresh = λ i late i_in. step.accept_stays i
            (λ j is. elim is [ inl s ↦ let e = s.0 in omega arith | inr more ↦ elim more [ inl s ↦ let e = s.0 in omega arith | inr none ↦ none ] ])
            ∙ standing.fresh i late i_in;
        held = λ none. absurd (omega arith);
      } in
      IsLate-before n t places it rest step starts
      (λ is. elim is [ inl s ↦ let e = s.1 in omega arith | inr more ↦ elim more [ inl s ↦ let e = s.0 in omega arith | inr none ↦ none ] ])
      (then (t + 1) (decided n t places it).places next)

  -- the last slot
  late_ends : (a : ℕ) → AreLate n (IsStanding n (back n) a) (ends 0 ∷ [])
  late_ends a t places standing =
      let round : n % n ≡ 0 = mod_once n n (omega arith) (omega arith) ∙ omega arith in
      IsLate-last n t places (ends 0) (step_of n t places (ends 0) some standing.switch (suits_ends n places 0 some (standing.grant ∙ round)))
      (inl (refl, refl))

  -- input x goes down in its turn, and then come the rest
  late_own : (x f : ℕ) (rest : List Plan) → 0 < x → x < n → f < n → Starts (Follows (passes x)) rest → AreLate n (IsStanding n (back (x + 1)) 2) rest
      → AreLate n (IsStanding n (own x) f) (downs x f (n - f) (passes x ∷ rest))
  late_own x f rest some_x x_in f_in starts then t places standing =
      late_downs (own x) (passes x ∷ rest) (record { x_in = x_in; under = omega arith; front = inr (some_x, refl) }) (n - f) f (omega arith)
      (inl standing.beyond) (λ b e. takes_passes x b (omega arith)) (late_passes x (f + (n - f)) rest some_x x_in starts then) t places standing

  -- and then input 0 goes down
  late_back : (w : ℕ) (rest : List Plan) → 0 < w → (k : ℕ) → 2 + k ≤ n → ((b : ℕ) → 0 < b → Starts (Follows (takes 0 b)) rest)
      → AreLate n (IsStanding n (back w) (2 + k)) rest → AreLate n (IsStanding n (back w) 2) (downs 0 2 k rest)
  late_back w rest some_w k k_in starts =
      late_downs (back w) rest (record { x_in = some; under = some_w; front = inl refl }) k 2 k_in (inl (omega arith)) (λ b e. starts b (omega arith))

  -- the turns of input x and the k inputs after it
  late_turns : (k x f : ℕ) → 0 < x → x + k + 1 ≡ n → f < n → AreLate n (IsStanding n (own x) f) (turns n x f k)
  late_turns zero x f some_x sum f_in t places standing =
      let e : x + 1 ≡ n = omega arith in
      late_own x f (downs 0 2 (n - 2) (ends 0 ∷ [])) some_x (omega arith) f_in
      (starts_more (Follows (passes x)) 0 (n - 2) 2 (ends 0 ∷ []) (omega arith) (passes_takes x some_x))
      (late_back (x + 1) (ends 0 ∷ []) (omega arith) (n - 2) (omega arith) takes_ends
      (λ t places standing. late_ends (2 + (n - 2)) t places (subst (λ v. IsStanding n (back v) (2 + (n - 2)) places) e standing)))
      t places standing
  late_turns (suc k) x f some_x sum f_in t places standing =
      let later = turns n (x + 1) 1 k in
      let rest = crosses (n - 1) (x + 1) 1 ∷ later in
      late_own x f (downs 0 2 (n - 3) rest) some_x (omega arith) f_in
      (starts_downs (Follows (passes x)) 0 (n - 3) 2 rest (passes_takes x some_x) (passes_crosses x (n - 1) some_x))
      (late_back (x + 1) rest (omega arith) (n - 3) (omega arith) (λ b some_b. takes_crosses b x (n - 1) some_x some_b)
      (λ t places standing. late_crosses (back (x + 1)) (2 + (n - 3)) (x + 1) 1 later (omega arith)
      (starts_turns (Follows (crosses (n - 1) (x + 1) 1)) n k (x + 1) 1 (omega arith)
      (crosses_takes (n - 1) (x + 1) 1 (omega arith) (omega arith) (λ e f. omega arith)))
      (λ t places standing. late_turns k (x + 1) 1 (omega arith) (omega arith) (omega arith) t places (record {
        switch = standing.switch;
        grant = standing.grant;
        beyond = omega arith;
        accept = standing.fresh (x + 1) (omega arith) (omega arith) ∙ sym (mod-eq_of_lt (omega arith));
        fresh = λ i late i_in. standing.fresh i (omega arith) i_in;
        held = λ none. absurd (omega arith);
      }))
      t places (
        standing,
        record {
          at = standing.accept ∙ mod-eq_of_lt (omega arith) ∙ omega arith;
          some = omega arith;
          other = λ e. omega arith;
          how = inl (refl, standing.held (omega arith));
        },
      )))
      t places standing

  -- the slot before the turns, in which a request of input 1 beside that for output 1 waits
  late_first : (a v : ℕ) → Follows (crosses (n - 1) 1 v) (takes 1 2)
      → AreLate n (λ places. IsStanding n before a places × IsCrossing n (n - 1) 1 v places) (crosses (n - 1) 1 v ∷ turns n 1 2 (n - 2))
  late_first a v follows =
      late_crosses before a 1 v (turns n 1 2 (n - 2)) (omega arith) (starts_turns (Follows (crosses (n - 1) 1 v)) n (n - 2) 1 2 two follows)
      (late_turns (n - 2) 1 2 (omega arith) (omega arith) two)

-- all inputs and output 0 point at port 1, and another output m at port 0
abbrev pub IsBeginning : ℕ → Places → Type 0
IsBeginning n places = (m : ℕ) → IsStanding n (beginning m) 1 places

-- the window of four ports or more
abbrev pub four_on : ℕ → List Plan
four_on n = takes 0 1 ∷ wins 2 1 ∷ boths 1 3 (n - 4) (crosses (n - 1) 1 2 ∷ turns n 1 2 (n - 2))

-- and that of three
abbrev pub three : List Plan
three = wins 1 1 ∷ crosses 2 1 0 ∷ turns 3 1 2 1

-- where input 1 asks output y too, which takes input 0
late_wins : (n y : ℕ) (rest : List Plan) → 2 < n → y < n → Starts (Follows (wins y 1)) rest
    → AreLate n (λ after. IsStanding n before (y + 1) after × (accept_of after 1 0 ≡ 1)) rest
    → AreLate n (IsStanding n (beginning y) y) (wins y 1 ∷ rest)
late_wins n y rest two y_in starts then t places standing =
    let it = wins y 1 in
    let some_y = standing.beyond in
    let suits = suits_wins n places y 1 some_y y_in (omega arith) (standing.accept ∙ mod-eq_of_lt y_in) (standing.held some_y) in
    let step = step_of n t places it (omega arith) standing.switch suits in
    let after = (decided n t places it).places in
    let stays : (i : ℕ) → 1 ≤ i → i < n → accept_of after i 0 ≡ 1 = λ i late i_in. step.accept_stays i
    (λ j is. elim is [ inl s ↦ let e = s.0 in omega arith | inr none ↦ none ]) ∙ standing.fresh i late i_in in
    let next : IsStanding n before (y + 1) after = record {
      switch = IsSwitch-after n t places it standing.switch;
      grant = step.grant_stays 0 (λ i is. elim is [ inl s ↦ let e = s.1 in omega arith | inr none ↦ none ]) ∙ standing.grant;
      beyond = omega arith;
      accept = step.accepted 0 y (inl (refl, refl));
      fresh = λ i late i_in. stays i (omega arith) i_in;
      held = λ none. absurd (omega arith);
    } in
    IsLate-before n t places it rest step starts (λ is. elim is [ inl s ↦ let e = s.1 in omega arith | inr none ↦ none ])
    (then (t + 1) after (next, stays 1 (omega arith) (omega arith)))

-- input 0 goes on down, while input 1 takes output 2 and has one cell more for it
late_boths : (n : ℕ) → 3 < n → (k y : ℕ) → 2 < y → y + k ≡ n - 1
    → AreLate n (λ places. IsStanding n before y places × (distance n (accept_of places 1 0) 1 ≤ distance n (accept_of places 1 0) 2))
    (boths 1 y k (crosses (n - 1) 1 2 ∷ turns n 1 2 (n - 2)))
late_boths n more zero y high sum t places at =
    late_first n (omega arith) y 2 (crosses_takes (n - 1) 1 2 (omega arith) (omega arith) (λ e f. omega arith)) t places (
      at.0,
      record { at = at.0.accept ∙ mod-eq_of_lt (omega arith) ∙ omega arith; some = omega arith; other = λ e. omega arith; how = inr (refl, at.1) },
    )
late_boths n more (suc k) y high sum t places before_it =
    let it = both y 1 in
    let standing = before_it.0 in
    let suits = suits_both n places y 1 high (omega arith) (omega arith) (omega arith) (standing.accept ∙ mod-eq_of_lt (omega arith)) in
    let step = step_of n t places it (omega arith) standing.switch suits in
    let after = (decided n t places it).places in
    let at : accept_of after 1 0 ≡ 3 = step.accepted 1 2 (inr (inl (refl, refl))) ∙ mod-eq_of_lt more in
    let one : distance n (accept_of after 1 0) 1 + 3 ≡ 1 + n = ap (λ f. distance n f 1 + 3) at ∙ distance-below n 3 1 more (omega arith) (omega arith) in
    let two : distance n (accept_of after 1 0) 2 + 3 ≡ 2 + n = ap (λ f. distance n f 2 + 3) at ∙ distance-below n 3 2 more (omega arith) (omega arith) in
    let next : IsStanding n before (y + 1) after = record {
      switch = IsSwitch-after n t places it standing.switch;
      grant = step.grant_stays 0
          (λ i is. elim is [ inl s ↦ let e = s.1 in omega arith | inr more ↦ elim more [ inl s ↦ let e = s.1 in omega arith | inr none ↦ none ] ])
          ∙ standing.grant;
      beyond = omega arith;
      accept = step.accepted 0 y (inl (refl, refl));
      fresh = λ i late i_in. step.accept_stays i
          (λ j is. elim is [ inl s ↦ let e = s.0 in omega arith | inr more ↦ elim more [ inl s ↦ let e = s.0 in omega arith | inr none ↦ none ] ])
          ∙ standing.fresh i late i_in;
      held = λ none. absurd (omega arith);
    } in
    IsLate-before n t places it (boths 1 (y + 1) k (crosses (n - 1) 1 2 ∷ turns n 1 2 (n - 2))) step (follows k sum)
    (λ is. elim is [ inl s ↦ let e = s.1 in omega arith | inr later ↦ elim later [ inl s ↦ let e = s.0 in omega arith | inr none ↦ none ] ])
    (late_boths n more k (y + 1) (omega arith) (omega arith) (t + 1) after (next, omega arith)) where
      follows : (k : ℕ) → y + suc k ≡ n - 1 → Starts (Follows (both y 1)) (boths 1 (y + 1) k (crosses (n - 1) 1 2 ∷ turns n 1 2 (n - 2)))
      follows zero sum = let e : y + 1 ≡ n - 1 = omega arith in subst (λ v. Follows (both y 1) (crosses v 1 2)) e (both_crosses y (omega arith))
      follows (suc k) sum = both_both y 1 (omega arith) (omega arith)

-- where an input points at output 1, that is no farther than any other
near_one : (n from v : ℕ) → 1 < n → from ≡ 1 → distance n from 1 ≤ distance n from v
near_one n from v more at = let none : distance n from 1 ≡ 0 = ap (λ f. distance n f 1) at ∙ distance-own n 1 more in omega arith

-- it is late from the beginning
pub late_four_on : (n t : ℕ) (places : Places) → 3 < n → IsBeginning n places → IsLate n t places (four_on n)
late_four_on n t places more begins =
    let last = crosses (n - 1) 1 2 ∷ turns n 1 2 (n - 2) in
    let rest = boths 1 3 (n - 4) last in
    late_downs n (omega arith) (beginning 2) (wins 2 1 ∷ rest) (record { x_in = omega arith; under = omega arith; front = inl refl }) 1 1 (omega arith)
    (inr (omega arith)) (λ b e. takes_wins b 2 1 (omega arith) (omega arith))
    (late_wins n 2 rest (omega arith) (omega arith)
    (starts_boths (Follows (wins 2 1)) 1 (n - 4) 3 last (wins_both 3 1 (omega arith)) (wins_crosses (n - 1)))
    (λ t after next. late_boths n more (n - 4) 3 (omega arith) (omega arith) t after (next.0, near_one n (accept_of after 1 0) 2 (omega arith) next.1)))
    t places (begins 2)

-- it is late from the beginning
pub late_three : (t : ℕ) (places : Places) → IsBeginning 3 places → IsLate 3 t places three
late_three t places begins =
    late_wins 3 1 (crosses 2 1 0 ∷ turns 3 1 2 1) (omega arith) (omega arith) (wins_crosses_zero 2)
    (λ t after next. late_first 3 (omega arith) 2 0 (crosses_zero_takes 2 (omega arith)) t after (
      next.0,
      record {
        at = next.0.accept;
        some = omega arith;
        other = λ e. omega arith;
        how = inr (refl, near_one 3 (accept_of after 1 0) 0 (omega arith) next.1);
      },
    ))
    t places (begins 1)
