-- A family of windows of two rounds or more, for three ports or more, in which a request is served as late as can be.
--
-- Output 0 and all inputs point at port 1. Where output 0 points at input p, input 0 goes down first. Meanwhile,
-- but where p is 1, the inputs n - 1, .., p take output 1, so that they point at output 2 again. Then the inputs
-- n - 1, .., p begin to ask for output 0 and go down, one after the other. In the first slot of each but input
-- n - 1, input 0 asks for nothing else, and output 0 serves in its second round the input that went down before:
-- no pointer moves. In every other slot input 0 takes an output of its own. At last p takes output 0, while
-- input 0 takes output 1.
use Rattle.std.proofs.Common.{◌≡◌, ℕ, zero, suc, ◌+◌, ◌-◌, ◌*◌, ◌%◌, ◌/◌, ◌<◌, ◌≤◌, ◌∙◌, List, [], ◌∷◌, length, refl, ap, sym, subst, inl, inr, arith}
use Rattle.std.proofs.Math.Nat.{mod-eq_of_lt}
use Rattle.std.proofs.lemmas.Bool.{cases_lt}
use Rattle.rotating_pick.specs.Rotation.{distance}
use Rattle.pointer_state.specs.Places.{Places, grant_of, accept_of}
use Rattle.service_bound.specs.Waits.{longest_service}
use Rattle.service_bound.proofs.Distances.{distance-above}
use Rattle.service_bound.proofs.Postings.{Posting, IsPosted, zero_posted}
use Rattle.service_bound.proofs.PostedSlots.{Suits}
use Rattle.service_bound.proofs.PostedRuns.{decided, IsSwitch-after, Starts, IsLate, IsIn, IsLate-before, IsLate-last, step_alone, step_second, left_alone}
use Rattle.service_bound.proofs.Descents.{plain, lowers, passes, downs, length-downs, starts_downs, starts_either, IsStanding, nearer_standing}
use Rattle.service_bound.proofs.Descents.{late_slot, late_downs, late_passes, served_last_slot, IsBeginning}

-- the output that input 0 takes beside output a
abbrev pub own_of : ℕ → ℕ
own_of a = 1 + (2 - a)

-- input x goes down from output a in k slots, while input 0 takes outputs of its own
abbrev pub shares : ℕ → ℕ → ℕ → List Posting → List Posting
shares x a zero rest = rest
shares x a (suc k) rest = plain x a (own_of a) ∷ shares x (a + 1) k rest

-- input x begins to go down from output a, and the input after it is served
abbrev pub joins : ℕ → ℕ → Posting
joins x a = record { input = x; beside = a; own = 0; other = x + 1; output = 0 }

-- input 0 takes output a, and input w output 1
abbrev pub resets : ℕ → ℕ → Posting
resets a w = record { input = 0; beside = a; own = 0; other = w; output = 1 }

-- the k inputs from p on go down from output b, the last one first
abbrev pub climbs : ℕ → ℕ → ℕ → ℕ → List Posting → List Posting
climbs n p b zero rest = rest
climbs n p b (suc k) rest = joins (p + k) b ∷ shares (p + k) (b + 1) (n - (b + 1)) (climbs n p b k rest)

-- input 0 goes down from output a, and sets back k inputs from p on
abbrev pub backs : ℕ → ℕ → ℕ → List Posting → List Posting
backs p a zero rest = rest
backs p a (suc k) rest = resets a (p + k) ∷ backs p (a + 1) k rest

-- the inputs from p on, of which there are k before input n - 1, go down from output b, and output 0 goes beyond p
abbrev pub level_of : ℕ → ℕ → ℕ → ℕ → List Posting → List Posting
level_of n p b k rest = shares (n - 1) b (n - b) (climbs n p b k (passes p ∷ rest))

-- the levels from p on, where k inputs are left
abbrev pub levels : ℕ → ℕ → ℕ → List Posting
levels n p zero = downs 0 2 (n - 2) (lowers 0 0 ∷ [])
levels n p (suc k) = backs p 2 (suc k) (downs 0 (2 + suc k) (n - (2 + suc k)) (level_of n p 2 k (levels n (p + 1) k)))

-- all slots for n ports
abbrev pub family : ℕ → List Posting
family n = downs 0 1 (n - 1) (level_of n 1 1 (n - 2) (levels n 2 (n - 2)))

length-shares : (x k a : ℕ) (rest : List Posting) → length (shares x a k rest) ≡ k + length rest
length-shares x zero a rest = omega arith
length-shares x (suc k) a rest = let e = length-shares x k (a + 1) rest in omega arith

length-backs : (p k a : ℕ) (rest : List Posting) → length (backs p a k rest) ≡ k + length rest
length-backs p zero a rest = omega arith
length-backs p (suc k) a rest = let e = length-backs p k (a + 1) rest in omega arith

length-climbs : (n p b k : ℕ) (rest : List Posting) → length (climbs n p b k rest) ≡ k * (n - (b + 1) + 1) + length rest
length-climbs n p b zero rest = omega arith
length-climbs n p b (suc k) rest =
    let first = length-shares (p + k) (n - (b + 1)) (b + 1) (climbs n p b k rest) in
    let more = length-climbs n p b k rest in
    omega arith

length-level_of : (n p b k : ℕ) (rest : List Posting) → length (level_of n p b k rest) ≡ n - b + (k * (n - (b + 1) + 1) + (1 + length rest))
length-level_of n p b k rest =
    let first = length-shares (n - 1) (n - b) b (climbs n p b k (passes p ∷ rest)) in
    let more = length-climbs n p b k (passes p ∷ rest) in
    omega arith

-- twice the slots of the levels
twice_levels : (m n : ℕ) → n ≡ m + 2 → (k p : ℕ) → k ≤ m → 2 * length (levels n p k) ≡ m * (k * (k + 3)) + 2 * k + 2 * (m + 1)
twice_levels m n e zero p few =
    let all = length-downs 0 (n - 2) 2 (lowers 0 0 ∷ []) in
    let long : length (lowers 0 0 ∷ []) ≡ 1 = refl in
    omega arith
twice_levels m n e (suc k) p few =
    let rest = levels n (p + 1) k in
    let one = length-backs p (suc k) 2 (downs 0 (2 + suc k) (n - (2 + suc k)) (level_of n p 2 k rest)) in
    let two = length-downs 0 (n - (2 + suc k)) (2 + suc k) (level_of n p 2 k rest) in
    let three = length-level_of n p 2 k rest in
    let high : n - (2 + 1) + 1 ≡ m = omega arith in
    let three_too : length (level_of n p 2 k rest) ≡ n - 2 + (k * m + (1 + length rest)) = three ∙ ap (λ v. n - 2 + (k * v + (1 + length rest))) high in
    let more = twice_levels m n e k (p + 1) (omega arith) in
    omega (arith, one, two, three_too, more)

longest-is : (m n : ℕ) → n ≡ m + 2 → n * (n * n - n + 2) ≡ (m + 2) * (m * m + 3 * m + 4)
longest-is m n e =
    let inner : n * n - n ≡ m * m + 3 * m + 2 = rw e (omega arith) in
    ap (λ v. n * (v + 2)) inner ∙ rw e (omega arith)

pub length-family : (n : ℕ) → 2 < n → length (family n) ≡ longest_service n
length-family n three =
    let m = n - 2 in
    let e : n ≡ m + 2 = omega arith in
    let rest = levels n 2 (n - 2) in
    let one = length-downs 0 (n - 1) 1 (level_of n 1 1 (n - 2) rest) in
    let two = length-level_of n 1 1 (n - 2) rest in
    let high : n - (1 + 1) + 1 ≡ m + 1 = omega arith in
    let two_too : length (level_of n 1 1 (n - 2) rest) ≡ n - 1 + (m * (m + 1) + (1 + length rest)) = two ∙ ap (λ v. n - 1 + (m * v + (1 + length rest))) high in
    let more = twice_levels m n e m 2 (omega arith) in
    let twice : 2 * length (family n) ≡ n * (n * n - n + 2) = omega (arith, one, two_too, more, longest-is m n e) in
    halved (length (family n)) (n * (n * n - n + 2)) twice where
      halved : (a b : ℕ) → 2 * a ≡ b → a ≡ b / 2
      halved a b e = omega arith

starts_shares : (P : Posting → Type 0) (x k a : ℕ) (rest : List Posting) → ((b c : ℕ) → P (plain x b c)) → Starts P rest → Starts P (shares x a k rest)
starts_shares P x zero a rest here starts = starts
starts_shares P x (suc k) a rest here starts = here a (own_of a)

starts_backs : (P : Posting → Type 0) (p k a : ℕ) (rest : List Posting) → ((next : Posting) → P next) → Starts P rest → Starts P (backs p a k rest)
starts_backs P p zero a rest each starts = starts
starts_backs P p (suc k) a rest each starts = each (resets a (p + k))

starts_climbs : (n p b k : ℕ) (rest : List Posting) → Starts (λ next. IsPosted next p 0) rest → Starts (λ next. IsPosted next (p + k) 0) (climbs n p b k rest)
starts_climbs n p b zero rest starts = let e : p ≡ p + 0 = omega arith in subst (λ v. Starts (λ next. IsPosted next v 0) rest) e starts
starts_climbs n p b (suc k) rest starts = inr (inr (omega arith, refl))

starts_climbs_all : (P : Posting → Type 0) (n p b k : ℕ) (rest : List Posting) → ((next : Posting) → P next) → Starts P rest → Starts P (climbs n p b k rest)
starts_climbs_all P n p b zero rest each starts = starts
starts_climbs_all P n p b (suc k) rest each starts = each (joins (p + k) b)

starts_level_of : (P : Posting → Type 0) (n p b k : ℕ) (rest : List Posting) → ((next : Posting) → P next) → Starts P (level_of n p b k rest)
starts_level_of P n p b k rest each =
    starts_shares P (n - 1) (n - b) b (climbs n p b k (passes p ∷ rest)) (λ x y. each (plain (n - 1) x y))
    (starts_climbs_all P n p b k (passes p ∷ rest) each (each (passes p)))

starts_levels : (P : Posting → Type 0) (n p k : ℕ) → ((next : Posting) → P next) → Starts P (levels n p k)
starts_levels P n p zero each = starts_downs P 0 (n - 2) 2 (lowers 0 0 ∷ []) (λ b. each (lowers 0 b)) (each (lowers 0 0))
starts_levels P n p (suc k) each = each (resets 2 (p + k))

nearer_next : (n from p x : ℕ) → from ≡ p % n → p ≤ x → x + 1 < n → distance n from x ≤ distance n from (x + 1)
nearer_next n from p x e ahead x_in =
    let at : from ≡ p = e ∙ mod-eq_of_lt (omega arith) in
    let near = distance-above n p x (omega arith) (omega arith) ahead in
    let far = distance-above n p (x + 1) (omega arith) x_in (omega arith) in
    let less : distance n p x ≤ distance n p (x + 1) = omega arith in
    subst (λ f. distance n f x ≤ distance n f (x + 1)) (sym at) less

module _ (n rounds : ℕ) (two : 1 < rounds) (three : 2 < n) where
  some_rounds : 0 < rounds
  some_rounds = omega arith

  -- input x goes down while input 0 takes outputs of its own
  late_shares : (p x b : ℕ) (rest : List Posting) → x < n → 0 < p → p ≤ x → Starts (λ next. IsPosted next x 0) rest
      → ((t : ℕ) (places : Places) → IsStanding n places p p x x n b → IsLate n rounds t places rest)
      → (k a t : ℕ) (places : Places) → 0 < a → a + k ≡ n → IsStanding n places p p x x a b → IsLate n rounds t places (shares x a k rest)
  late_shares p x b rest x_in some ahead starts then zero a t places a_some sum standing =
      let e : a ≡ n = omega arith in
      then t places (subst (λ v. IsStanding n places p p x x v b) e standing)
  late_shares p x b rest x_in some ahead starts then (suc k) a t places a_some sum standing =
      late_slot n rounds some_rounds (shares x (a + 1) k rest) p p x x a (own_of a) b t places a_some (omega arith) x_in (omega arith) (inr (omega arith))
      (inr (some, ahead)) (inr (omega arith, λ e. omega arith, some)) (inr (inr (omega arith))) standing
      (starts_shares (λ next. IsPosted next x 0) x k (a + 1) rest (λ v w. inl (refl, inl refl)) starts)
      (λ places next. late_shares p x b rest x_in some ahead starts then k (a + 1) (t + 1) places (omega arith) (omega arith) next)

  -- input x begins to ask, and the one after it, which asks on, is served in the second round
  late_joins : (p x b a : ℕ) (rest : List Posting) → x + 1 < n → 0 < p → p ≤ x → 0 < b → b < n → Starts (λ next. IsPosted next x 0) rest
      → ((t : ℕ) (places : Places) → IsStanding n places p p x x (b + 1) b → IsLate n rounds t places rest)
      → (t : ℕ) (places : Places) → IsStanding n places p p (x + 1) (x + 1) a b → IsLate n rounds t places (joins x b ∷ rest)
  late_joins p x b a rest x_in some ahead b_some b_in starts then t places standing =
      let it = joins x b in
      let From = grant_of places 0 0 in
      let beyond = nearer_standing n From p x standing.grant some ahead (omega arith) in
      let after = nearer_next n From p x standing.grant ahead x_in in
      let suits : Suits n places it = record {
        first = λ i i_in is. elim is [
          | inl c ↦ let e = ap (distance n From) c.0 in omega arith
          | inr more ↦ elim more [ inl c ↦ let e = ap (distance n From) c.0 in omega arith | inr c ↦ let e = ap (distance n From) c.0 in omega arith ]
        ];
        pointer = inr (standing.fresh x ahead (omega arith));
        own = inl refl;
        low = inl refl;
        apart = λ other e. omega arith;
      } in
      let ports_in : IsIn n it = record { input_in = omega arith; beside_in = b_in; own_in = omega arith; other_in = x_in; output_in = omega arith } in
      let step = step_second n rounds t places it standing.switch ports_in suits some_rounds two refl b_some refl
      (nearer_standing n From p (x + 1) standing.grant some (omega arith) x_in) in
      let next : IsStanding n (decided n rounds t places it).places p p x x (b + 1) b = record {
        switch = IsSwitch-after n rounds t places it standing.switch;
        grant = step.moving.grant_stays b_some ∙ standing.grant;
        accept = step.moving.accepted;
        fresh = λ i i_low i_high. step.moving.accept_stays i (λ e. omega arith) (λ more e. omega arith) (λ more e. omega arith)
            ∙ standing.fresh i i_low (omega arith);
      } in
      IsLate-before n rounds t places it rest step.serving
      (left_alone n rounds t places it standing.switch ports_in suits some_rounds step (inr (inr (omega arith, refl))))
      (starts_either (λ next. b ≡ 0) (λ next. IsPosted next x 0) rest starts)
      (then (t + 1) (decided n rounds t places it).places next)

  -- the k inputs from p on go down
  late_climbs : (p b : ℕ) (rest : List Posting) → 0 < p → 0 < b → b < n → Starts (λ next. IsPosted next p 0) rest
      → ((t : ℕ) (places : Places) → IsStanding n places p p p p n b → IsLate n rounds t places rest)
      → (k t : ℕ) (places : Places) → p + k < n → IsStanding n places p p (p + k) (p + k) n b → IsLate n rounds t places (climbs n p b k rest)
  late_climbs p b rest some b_some b_in starts then zero t places p_in standing =
      let e : p + 0 ≡ p = omega arith in
      then t places (subst (λ v. IsStanding n places p p v v n b) e standing)
  late_climbs p b rest some b_some b_in starts then (suc k) t places p_in standing =
      let e : p + suc k ≡ p + k + 1 = omega arith in
      let goes = starts_climbs n p b k rest starts in
      late_joins p (p + k) b n (shares (p + k) (b + 1) (n - (b + 1)) (climbs n p b k rest)) (omega arith) some (omega arith) b_some b_in
      (starts_shares (λ next. IsPosted next (p + k) 0) (p + k) (n - (b + 1)) (b + 1) (climbs n p b k rest) (λ v w. inl (refl, inl refl)) goes)
      (λ t places next. late_shares p (p + k) b (climbs n p b k rest) (omega arith) some (omega arith) goes
      (λ t places next. late_climbs p b rest some b_some b_in starts then k t places (omega arith) next) (n - (b + 1)) (b + 1) t places (omega arith)
      (omega arith) next)
      t places (subst (λ v. IsStanding n places p p v v n b) e standing)

  -- the level of p: all inputs from p on point at output b
  late_level : (p b k x a : ℕ) (rest : List Posting) → 0 < p → p + k + 1 ≡ n → 0 < b → b < n → Starts (λ next. 0 < n) rest
      → ((t : ℕ) (places : Places) → IsStanding n places (p + 1) n n 0 2 2 → IsLate n rounds t places rest)
      → (t : ℕ) (places : Places) → IsStanding n places p p n x a b → IsLate n rounds t places (level_of n p b k rest)
  late_level p b k x a rest some sum b_some b_in starts then t places standing =
      let e : n - 1 ≡ p + k = omega arith in
      let begins : IsStanding n places p p (n - 1) (n - 1) b b = record {
        switch = standing.switch;
        grant = standing.grant;
        accept = standing.fresh (n - 1) (omega arith) (omega arith) ∙ sym (mod-eq_of_lt b_in);
        fresh = λ i i_low i_high. standing.fresh i i_low (omega arith);
      } in
      late_shares p (n - 1) b (climbs n p b k (passes p ∷ rest)) (omega arith) some (omega arith)
      (subst (λ v. Starts (λ next. IsPosted next v 0) (climbs n p b k (passes p ∷ rest))) (sym e)
      (starts_climbs n p b k (passes p ∷ rest) (inl (refl, inl refl))))
      (λ t places next. late_climbs p b (passes p ∷ rest) some b_some b_in (inl (refl, inl refl))
      (λ t places next.
      let wide : IsStanding n places p n n p n b =
      record { switch = next.switch; grant = next.grant; accept = next.accept; fresh = λ i i_low i_high. absurd (omega arith) } in
      late_passes n rounds some_rounds rest p n n n b t places some (omega arith) (omega arith) wide starts
      (λ places last. then (t + 1) places
      (record { switch = last.switch; grant = last.grant; accept = last.accept; fresh = λ i i_low i_high. absurd (omega arith) })))
      k t places (omega arith) (subst (λ v. IsStanding n places p p v v n b) e next))
      (n - b) b t places b_some (omega arith) begins

  -- input 0 goes down from output a to c, while k inputs from p on are set back
  late_backs : (p c : ℕ) (rest : List Posting) → 0 < p → c ≤ n → Starts (λ next. IsPosted next 0 0) rest
      → ((t : ℕ) (places : Places) → IsStanding n places p p n 0 c 2 → IsLate n rounds t places rest)
      → (k a t : ℕ) (places : Places) → 1 < a → a + k ≡ c → p + k ≤ n → IsStanding n places p (p + k) n 0 a 2 → IsLate n rounds t places (backs p a k rest)
  late_backs p c rest some c_in starts then zero a t places high sum p_in standing =
      let e : a ≡ c = omega arith in
      let d : p + 0 ≡ p = omega arith in
      then t places (subst (λ v. IsStanding n places p p n 0 v 2) e (subst (λ v. IsStanding n places p v n 0 a 2) d standing))
  late_backs p c rest some c_in starts then (suc k) a t places high sum p_in standing =
      let it = resets a (p + k) in
      let From = grant_of places 0 0 in
      let a_in : a < n = omega arith in
      let suits : Suits n places it = record {
        first = λ i i_in is. elim is [
          | inl c ↦ let e = ap (distance n From) c.0 in omega arith
          | inr more ↦ elim more [ inl c ↦ let e = ap (distance n From) c.0 in omega arith | inr c ↦ let e = c.1 in absurd (omega arith) ]
        ];
        pointer = inr (standing.accept ∙ mod-eq_of_lt a_in);
        own = inl refl;
        low = inr (refl, omega arith, high, refl);
        apart = λ other e. omega arith;
      } in
      let ports_in : IsIn n it = record { input_in = omega arith; beside_in = a_in; own_in = omega arith; other_in = omega arith; output_in = omega arith } in
      let step = step_alone n rounds t places it standing.switch ports_in suits some_rounds (inr (omega arith)) in
      let after = (decided n rounds t places it).places in
      let set : accept_of after (p + k) 0 ≡ 2 = step.moving.too (omega arith) ∙ mod-eq_of_lt (omega arith) in
      let next : IsStanding n after p (p + k) n 0 (a + 1) 2 = record {
        switch = IsSwitch-after n rounds t places it standing.switch;
        grant = step.moving.grant_stays (omega arith) ∙ standing.grant;
        accept = step.moving.accepted;
        fresh = λ i i_low i_high. elim (cases_lt (p + k) i) [
          | inl later ↦ step.moving.accept_stays i (λ e. omega arith) (λ more e. omega arith) (λ more e. omega arith) ∙ standing.fresh i (omega arith) i_high
          | inr here ↦ let same : p + k ≡ i = omega arith in subst (λ v. accept_of after v 0 ≡ 2) same set
        ];
      } in
      IsLate-before n rounds t places it (backs p (a + 1) k rest) step.serving
      (left_alone n rounds t places it standing.switch ports_in suits some_rounds step (inl (refl, omega arith)))
      (starts_either (λ next. a ≡ 0) (λ next. IsPosted next 0 0) (backs p (a + 1) k rest)
      (starts_backs (λ next. IsPosted next 0 0) p k (a + 1) rest zero_posted starts))
      (late_backs p c rest some c_in starts then k (a + 1) (t + 1) after (omega arith) (omega arith) (omega arith) next)

  -- the levels from p on
  late_levels : (k p t : ℕ) (places : Places) → 0 < p → p + k ≡ n → k + 2 ≤ n → IsStanding n places p n n 0 2 2 → IsLate n rounds t places (levels n p k)
  late_levels zero p t places some sum few standing =
      late_downs n rounds some_rounds p n n 0 2 (lowers 0 0 ∷ []) (omega arith) (inl (omega arith)) (inl refl) (inl refl) (inl (refl, inl refl))
      (λ t places last. IsLate-last n rounds t places (lowers 0 0) (served_last_slot n rounds some_rounds t places (omega arith) last.switch))
      (n - 2) 2 t places (omega arith) (omega arith) standing
  late_levels (suc k) p t places some sum few standing =
      let later = levels n (p + 1) k in
      let level = level_of n p 2 k later in
      let begins : IsStanding n places p (p + suc k) n 0 2 2 =
      record { switch = standing.switch; grant = standing.grant; accept = standing.accept; fresh = λ i i_low i_high. absurd (omega arith) } in
      late_backs p (2 + suc k) (downs 0 (2 + suc k) (n - (2 + suc k)) level) some (omega arith)
      (starts_downs (λ next. IsPosted next 0 0) 0 (n - (2 + suc k)) (2 + suc k) level (λ b. inl (refl, inl refl))
      (starts_level_of (λ next. IsPosted next 0 0) n p 2 k later zero_posted))
      (λ t places next. late_downs n rounds some_rounds p p n 0 2 level (omega arith) (inl some) (inl refl) (inl refl)
      (starts_level_of (λ next. IsPosted next 0 0) n p 2 k later zero_posted)
      (λ t places next. late_level p 2 k 0 n later some (omega arith) (omega arith) (omega arith)
      (starts_levels (λ next. 0 < n) n (p + 1) k (λ next. omega arith))
      (λ t places next. late_levels k (p + 1) t places (omega arith) (omega arith) (omega arith) next) t places next)
      (n - (2 + suc k)) (2 + suc k) t places (omega arith) (omega arith) next)
      (suc k) 2 t places (omega arith) (omega arith) (omega arith) begins

  pub late_family : (t : ℕ) (places : Places) → IsBeginning n places → IsLate n rounds t places (family n)
  late_family t places begins =
      late_downs n rounds some_rounds 1 1 n 0 1 (level_of n 1 1 (n - 2) (levels n 2 (n - 2))) (omega arith) (inl (omega arith)) (inl refl) (inl refl)
      (starts_level_of (λ next. IsPosted next 0 0) n 1 1 (n - 2) (levels n 2 (n - 2)) zero_posted)
      (λ t places next. late_level 1 1 (n - 2) 0 n (levels n 2 (n - 2)) (omega arith) (omega arith) (omega arith) (omega arith)
      (starts_levels (λ next. 0 < n) n 2 (n - 2) (λ next. omega arith))
      (λ t places next. late_levels (n - 2) 2 t places (omega arith) (omega arith) (omega arith) next) t places next)
      (n - 1) 1 t places (omega arith) (omega arith) begins
