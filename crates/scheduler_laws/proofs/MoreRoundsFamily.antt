-- A family of schedules of two rounds or more at line rate, for four ports or more, in which a request is served as late as
-- can be.
--
-- Input l = n - 1 is the last. Output 0 and all inputs point at port 1, and input 0 asks output 0 in every slot. First input
-- 0 goes down from output 1; input l asks output 2 in the slot in which input 0 takes that, and from then on has a cell for
-- it; at the end it takes output 1 while its request for output 2 waits. Then come the
-- levels p = 1, 2, .., l. In level p the inputs l, .., p go down one after the other, while input 0 takes the last output.
-- Where the next input begins, output 0 serves the one before it in the second round, so that no pointer moves. In its last
-- slot, input 0 takes an output that the next input asks too, so that the request of that one waits. Then input p takes
-- output 0 and input 0 output 1, and input 0 goes down from output 2, while the inputs l, .., p + 1 take output 1, one in
-- each slot; in the last one the last input asks output 2, which takes input 1.
use Rattle.std.proofs.Common.{◌≡◌, ℕ, zero, suc, ◌+◌, ◌-◌, ◌%◌, ◌<◌, ◌≤◌, ◌⊎◌, ◌∙◌, List, [], ◌∷◌, refl, ap, sym, subst, inl, inr, arith}
use Rattle.std.proofs.Math.Nat.{mod-eq_of_lt}
use Rattle.std.proofs.lemmas.Bool.{cases_lt}
use Rattle.std_lemmas.proofs.Numbers.{mod_once}
use Rattle.rotating_pick.specs.Rotation.{distance}
use Rattle.rotating_pick.specs.declared.kinds.Kind.TheVariants.{Uni}
use Rattle.slot_match.specs.Matches.{Serves}
use Rattle.slot_match.proofs.Pairs.{Serves-once}
use Rattle.pointer_state.specs.Places.{Places, grant_of, accept_of}
use Rattle.service_bound.proofs.Distances.{distance-above, distance-below}
use Rattle.service_bound.proofs.PostedRuns.{IsSwitch}
use Rattle.scheduler_laws.proofs.Plans.{In, Plan}
use Rattle.scheduler_laws.proofs.NextPlans.{Follows, Starts}
use Rattle.scheduler_laws.proofs.PlannedRuns.{IsLateBy, IsLateBy-before}
use Rattle.scheduler_laws.proofs.ManySlots.{decided_in, IsSwitch-after_in, many_step_of, serving_by, serving_others, served_second}
use Rattle.scheduler_laws.proofs.Shapes.{takes, ends, passes, suits_passes, at_first}
use Rattle.scheduler_laws.proofs.MoreShapes.{shares, closes, joins, joins_first, resets, readies, readies_too, CanShare, suits_shares, Descent, suits_closes}
use Rattle.scheduler_laws.proofs.MoreShapes.{suits_joins, second_joins, suits_resets}
use Rattle.scheduler_laws.proofs.Settled.{settles_passes, settles_shares, settles_closes, settles_joins, settles_resets}
use Rattle.scheduler_laws.proofs.MoreFollowings.{shares_shares, shares_closes, joins_shares, joins_closes, closes_joins, closes_passes}
use Rattle.scheduler_laws.proofs.OneRoundFamily.{downs}

-- ---- the plans
-- input x takes k outputs from y on, while input 0 takes the last one
abbrev pub sharings : ℕ → ℕ → ℕ → ℕ → List Plan → List Plan
sharings l x y zero rest = rest
sharings l x y (suc k) rest = shares l x y ∷ sharings l x (y + 1) k rest

-- input x goes down from the output after f, and in its last slot input u asks output f
abbrev pub goes : ℕ → ℕ → ℕ → ℕ → List Plan → List Plan
goes l x f u rest = sharings l x (f + 1) (l - (f + 1)) (closes l x f u ∷ rest)

-- the input that goes down next, where k are left from p on; 0 for none
abbrev pub before : ℕ → ℕ → ℕ
before p zero = 0
before p (suc k) = p + k

-- the k inputs from p on go down from output f, the last one first
abbrev pub climbs : ℕ → ℕ → ℕ → ℕ → List Plan → List Plan
climbs l p f zero rest = rest
climbs l p f (suc k) rest = joins (p + k) f ∷ goes l (p + k) f (before p k) (climbs l p f k rest)

-- the last input and the k inputs from p on go down, and output 0 goes beyond p
abbrev pub level : ℕ → ℕ → ℕ → ℕ → List Plan → List Plan
level l p f k rest = goes l l f (before p k) (climbs l p f k (passes p ∷ rest))

-- input 0 goes down from output y, and k inputs from p on take output 1, the last one first
abbrev pub backs : ℕ → ℕ → ℕ → List Plan → List Plan
backs p y zero rest = rest
backs p y (suc k) rest = resets y (p + k) ∷ backs p (y + 1) k rest

-- the levels from p on, where k inputs come after p
abbrev pub levels : ℕ → ℕ → ℕ → List Plan
levels l p zero = shares l l 2 ∷ level l p 2 0 (downs 0 2 (l - 1) (ends 0 ∷ []))
levels l p (suc k) = shares l l 2 ∷ level l p 2 (suc k) (backs (p + 1) 2 (suc k) (downs 0 (2 + suc k) (l - (2 + suc k)) (readies l ∷ levels l (p + 1) k)))

-- all levels
abbrev pub body : ℕ → List Plan
body l = level l 1 1 (l - 1) (backs 3 2 (l - 2) (readies_too l 2 ∷ levels l 2 (l - 2)))

-- ---- which plans come first
pub starts_sharings : (P : Plan → Type 0) (l x y k : ℕ) (rest : List Plan) → P (shares l x y) → Starts P rest → Starts P (sharings l x y k rest)
starts_sharings P l x y zero rest here starts = starts
starts_sharings P l x y (suc k) rest here starts = here

-- where there are some
pub starts_more_sharings : (P : Plan → Type 0) (l x y k : ℕ) (rest : List Plan) → 0 < k → P (shares l x y) → Starts P (sharings l x y k rest)
starts_more_sharings P l x y zero rest some here = absurd (omega arith)
starts_more_sharings P l x y (suc k) rest some here = here

-- the input that goes down next is the one before, if there is any
before_is : (p k : ℕ) → (before p k ≡ 0) ⊎ (before p k + 1 ≡ p + k)
before_is p zero = inl refl
before_is p (suc k) = inr (omega arith)

-- and so another
pub before_other : (p k x : ℕ) → 0 < p → x ≡ p + k → before p k ≡ x → ⊥
before_other p k x some e same = elim (before_is p k) [ inl none ↦ omega arith | inr next ↦ omega arith ]

-- at the end of an input's slots comes the next one, or the slot of input p
starts_climbs : (n l : ℕ) (d : Descent n l) (k : ℕ) (rest : List Plan) → d.x ≡ d.p + k
    → Starts (Follows (closes l d.x d.f (before d.p k))) (climbs l d.p d.f k (passes d.p ∷ rest))
starts_climbs n l d zero rest e = let same : d.x ≡ d.p = omega arith in
    subst (λ v. Follows (closes l d.x d.f 0) (passes v)) same (closes_passes l d.x d.f (omega arith) d.some_f)
starts_climbs n l d (suc k) rest e = closes_joins l d.x d.f (d.p + k) (omega arith) d.some_f (omega arith) (omega arith)

-- a level begins with the last input
pub starts_levels : (P : Plan → Type 0) (l p k : ℕ) → P (shares l l 2) → Starts P (levels l p k)
starts_levels P l p zero here = here
starts_levels P l p (suc k) here = here

-- input 0 goes down, or the rest follows
pub starts_lowers : (P : Plan → Type 0) (a k : ℕ) (rest : List Plan) → P (takes 0 a) → Starts P rest → Starts P (downs 0 a k rest)
starts_lowers P a zero rest here starts = starts
starts_lowers P a (suc k) rest here starts = here

-- ---- the pointers along the window
-- Output 0 points at p, and the inputs from `low` to below `high` at output b. A port n is port 0.
pub record IsBase (n p low high b : ℕ) (places : Places) : Type 0 where
  pub switch : IsSwitch n places
  pub grant : grant_of places 0 0 ≡ p % n
  pub fresh : (i : ℕ) → low ≤ i → i < high → accept_of places i 0 ≡ b

-- Input x points at output y, and output f at the input after it. The inputs from p to below x point at output f.
pub record IsGoing (n l : ℕ) (d : Descent n l) (y : ℕ) (places : Places) : Type 0 where
  pub base : IsBase n d.p d.p d.x d.f places
  pub beyond : d.f ≤ y
  pub at : accept_of places d.x 0 ≡ y
  pub held : d.f < y → grant_of places d.f 0 ≡ (d.x + 1) % n

-- Output 0 points at p, the inputs from w on at output 2, input 0 at output y, and output 2, if y is beyond it, at input 1.
-- An output n is output 0.
pub record IsBack (n p w y : ℕ) (places : Places) : Type 0 where
  pub base : IsBase n p w n 2 places
  pub beyond : 1 < y
  pub at : accept_of places 0 0 ≡ y % n
  pub held : 2 < y → grant_of places 2 0 ≡ 1

-- from port p on, input x comes before input 0
ahead : (n from p x : ℕ) → from ≡ p % n → 0 < p → p ≤ x → x < n → distance n from x < distance n from 0
ahead n from p x e some above x_in =
    let at : from ≡ p = e ∙ mod-eq_of_lt (omega arith) in
    let near : distance n from x + p ≡ x = ap (λ f. distance n f x + p) at ∙ distance-above n p x (omega arith) x_in above in
    let far : distance n from 0 + p ≡ 0 + n = ap (λ f. distance n f 0 + p) at ∙ distance-below n p 0 (omega arith) (omega arith) some in
    omega arith

-- and before the input after it
ahead_next : (n from p x : ℕ) → from ≡ p % n → p ≤ x → x + 1 < n → distance n from x < distance n from (x + 1)
ahead_next n from p x e above next_in =
    let at : from ≡ p = e ∙ mod-eq_of_lt (omega arith) in
    let near : distance n from x + p ≡ x = ap (λ f. distance n f x + p) at ∙ distance-above n p x (omega arith) (omega arith) above in
    let far : distance n from (x + 1) + p ≡ x + 1 = ap (λ f. distance n f (x + 1) + p) at ∙ distance-above n p (x + 1) (omega arith) next_in (omega arith) in
    omega arith

-- from one beyond input x, input 0 is no farther than itself, or than the input before x
closing : (n from x u : ℕ) → x < n → from ≡ (x + 1) % n → (u ≡ 0) ⊎ (u + 1 ≡ x) → distance n from 0 ≤ distance n from u
closing n from x u x_in e how = elim how [
  | inl none ↦ let same = ap (distance n from) none in omega arith
  | inr next ↦ elim (cases_lt (x + 1) n) [
    | inl short ↦
        let at : from ≡ x + 1 = e ∙ mod-eq_of_lt short in
        let near : distance n from 0 + (x + 1) ≡ 0 + n = ap (λ f. distance n f 0 + (x + 1)) at ∙ distance-below n (x + 1) 0 short (omega arith) (omega arith) in
        let far : distance n from u + (x + 1) ≡ u + n = ap (λ f. distance n f u + (x + 1)) at ∙ distance-below n (x + 1) u short (omega arith) (omega arith) in
        omega arith
    | inr round ↦
        let none : (x + 1) % n ≡ 0 = mod_once n (x + 1) (omega arith) (omega arith) ∙ omega arith in
        at_first n from 0 u (omega arith) (e ∙ none)
  ]
]

-- requests stay in the run, which is at line rate, and queue (0, 0) is served in its last slot alone
abbrev pub IsLateIn : ℕ → ℕ → ℕ → Places → List Plan → Type 0
IsLateIn rounds n = IsLateBy n (decided_in rounds n)

-- so it is from any slot on, and from all pointers of which P holds
abbrev pub AreLateIn : ℕ → ℕ → (Places → Type 0) → List Plan → Type 0
AreLateIn rounds n P ps = (t : ℕ) (places : Places) → P places → IsLateIn rounds n t places ps

module _ (rounds n l : ℕ) (two : 1 < rounds) (sum : l + 1 ≡ n) (high : 1 < l) where
  -- there are ports
  some : 0 < n
  some = omega arith

  -- there are rounds
  some_rounds : 0 < rounds
  some_rounds = omega arith

  -- input x takes output y, and input 0 the last one
  pub late_shares : (d : Descent n l) (y : ℕ) (rest : List Plan) → y < l → Starts (Follows (shares l d.x y)) rest
      → AreLateIn rounds n (IsGoing n l d (y + 1)) rest → AreLateIn rounds n (IsGoing n l d y) (shares l d.x y ∷ rest)
  late_shares d y rest y_in starts then t places going =
      let it = shares l d.x y in
      let base = going.base in
      let can : CanShare n l d.x y = record {
        some_x = omega arith;
        x_in = d.x_in;
        some_y = omega arith;
        y_in = omega arith;
        some_l = omega arith;
        l_in = omega arith;
        other = λ e. omega arith;
      } in
      let suits = suits_shares n places l d.x y can (ahead n (grant_of places 0 0) d.p d.x base.grant d.some_p d.above d.x_in) going.at in
      let step = many_step_of rounds n t places it some base.switch suits some_rounds in
      let after = (decided_in rounds n t places it).places in
      let next : IsBase n d.p d.p d.x d.f after = record {
        switch = IsSwitch-after_in rounds n t places it base.switch;
        grant = step.grant_stays 0
            (λ i is. elim is [ inl s ↦ let e = s.1 in omega arith | inr more ↦ elim more [ inl s ↦ let e = s.1 in omega arith | inr none ↦ none ] ])
            ∙ base.grant;
        fresh = λ i i_low i_high. step.accept_stays i
            (λ j is. elim is [ inl s ↦ let e = s.0 in omega arith | inr more ↦ elim more [ inl s ↦ let e = s.0 in omega arith | inr none ↦ none ] ])
            ∙ base.fresh i i_low i_high;
      } in
      let held : d.f < y + 1 → grant_of after d.f 0 ≡ (d.x + 1) % n = λ yes. elim (cases_lt d.f y) [
        | inl later ↦ step.grant_stays d.f
            (λ i is. elim is [ inl s ↦ let e = s.1 in omega arith | inr more ↦ elim more [ inl s ↦ let e = s.1 in omega arith | inr none ↦ none ] ])
            ∙ going.held later
        | inr now ↦ let same : y ≡ d.f = omega arith in subst (λ v. grant_of after v 0 ≡ (d.x + 1) % n) same (step.granted d.x y (inl (refl, refl)))
      ] in
      IsLateBy-before n (decided_in rounds n) t places it rest starts
      (serving_others rounds n t places it some base.switch suits some_rounds l (omega arith) (inr (inl (refl, refl))) (settles_shares l d.x y))
      (then (t + 1) after (record {
        base = next;
        beyond = omega arith;
        at = step.accepted d.x y (inl (refl, refl)) ∙ mod-eq_of_lt (omega arith);
        held = held;
      }))

  -- input x takes the last output, and input 0 output f
  pub late_closes : (d : Descent n l) (u : ℕ) (rest : List Plan) → (u ≡ 0) ⊎ (u + 1 ≡ d.x) → Starts (Follows (closes l d.x d.f u)) rest
      → AreLateIn rounds n (λ after. IsBase n d.p d.p d.x d.f after × (grant_of after l 0 ≡ (d.x + 1) % n)) rest
      → AreLateIn rounds n (IsGoing n l d l) (closes l d.x d.f u ∷ rest)
  late_closes d u rest how starts then t places going =
      let it = closes l d.x d.f u in
      let base = going.base in
      let suits = suits_closes n places l d u (omega arith) (ahead n (grant_of places 0 0) d.p d.x base.grant d.some_p d.above d.x_in) going.at
      (closing n (grant_of places d.f 0) d.x u d.x_in (going.held d.f_in) how) in
      let step = many_step_of rounds n t places it some base.switch suits some_rounds in
      let after = (decided_in rounds n t places it).places in
      let next : IsBase n d.p d.p d.x d.f after = record {
        switch = IsSwitch-after_in rounds n t places it base.switch;
        grant = step.grant_stays 0
            (λ i is. elim is [ inl s ↦ let e = s.1 in omega arith | inr more ↦ elim more [ inl s ↦ let e = s.1 in omega arith | inr none ↦ none ] ])
            ∙ base.grant;
        fresh = λ i i_low i_high. step.accept_stays i
            (λ j is. elim is [ inl s ↦ let e = s.0 in omega arith | inr more ↦ elim more [ inl s ↦ let e = s.0 in omega arith | inr none ↦ none ] ])
            ∙ base.fresh i i_low i_high;
      } in
      IsLateBy-before n (decided_in rounds n) t places it rest starts
      (serving_others rounds n t places it some base.switch suits some_rounds d.f d.some_f (inr (inl (refl, refl))) (settles_closes l d.x d.f u))
      (then (t + 1) after (next, step.granted d.x l (inl (refl, refl))))

  -- input x takes the outputs from y on
  late_sharings : (d : Descent n l) (rest : List Plan) → ((y : ℕ) → 0 < y → Starts (Follows (shares l d.x y)) rest)
      → AreLateIn rounds n (IsGoing n l d l) rest → (k y : ℕ) → y + k ≡ l → AreLateIn rounds n (IsGoing n l d y) (sharings l d.x y k rest)
  late_sharings d rest starts then zero y all t places going =
      let e : y ≡ l = omega arith in then t places (subst (λ v. IsGoing n l d v places) e going)
  late_sharings d rest starts then (suc k) y all t places going =
      let some_y : 0 < y = omega arith in
      late_shares d y (sharings l d.x (y + 1) k rest) (omega arith)
      (starts_sharings (Follows (shares l d.x y)) l d.x (y + 1) k rest (shares_shares l d.x y (omega arith) (omega arith) some_y) (starts y some_y))
      (late_sharings d rest starts then k (y + 1) (omega arith)) t places going

  -- input x goes down, where k inputs are left from p on
  late_goes : (d : Descent n l) (k : ℕ) (rest : List Plan) → d.x ≡ d.p + k → Starts (Follows (closes l d.x d.f (before d.p k))) rest
      → AreLateIn rounds n (IsBase n d.p d.p d.x d.f) rest
      → AreLateIn rounds n (IsGoing n l d (d.f + 1)) (goes l d.x d.f (before d.p k) rest)
  late_goes d k rest e starts then =
      let u = before d.p k in
      let how : (u ≡ 0) ⊎ (u + 1 ≡ d.x) = elim (before_is d.p k) [ inl none ↦ inl none | inr next ↦ inr (omega arith) ] in
      late_sharings d (closes l d.x d.f u ∷ rest)
      (λ y some_y. shares_closes l d.x y d.f u (omega arith) (omega arith) some_y (before_other d.p k d.x d.some_p e))
      (late_closes d u rest how starts (λ t places next. then t places next.0)) (l - (d.f + 1)) (d.f + 1) (omega arith)

  -- input x begins to ask, and the input after it is served in the second round
  pub late_joins : (d : Descent n l) (t : ℕ) (places : Places) (rest : List Plan) → d.x + 1 < n → IsBase n d.p d.p (d.x + 1) d.f places
      → Starts (Follows (joins d.x d.f)) rest
      → ((after : Places) → IsGoing n l d (d.f + 1) after → ((j : ℕ) → (j ≡ d.f → ⊥) → grant_of after j 0 ≡ grant_of places j 0)
      → IsLateIn rounds n (t + 1) after rest)
      → IsLateIn rounds n t places (joins d.x d.f ∷ rest)
  late_joins d t places rest next_in base starts then =
      let x = d.x in
      let f = d.f in
      let it = joins_first x f in
      let from = grant_of places 0 0 in
      let suits = suits_joins n places x f d.x_in d.some_f (omega arith) (record {
        before = ahead n from d.p x base.grant d.some_p d.above d.x_in;
        after = ahead_next n from d.p x base.grant d.above next_in;
        at = base.fresh x d.above (omega arith);
      }) in
      let after_it = ahead n from d.p (x + 1) base.grant d.some_p (omega arith) next_in in
      let step = many_step_of rounds n t places it some base.switch suits some_rounds in
      let second = served_second rounds n t places it some base.switch suits some_rounds two (x + 1) 0
      (second_joins n places x f next_in d.some_f (omega arith)) in
      let after = (decided_in rounds n t places it).places in
      let matched = (decided_in rounds n t places it).matched in
      let serves : (i j : ℕ) → In i j (joins x f).serves → Serves matched i j 0 Uni = λ i j is. elim is [
        | inl s ↦ step.serves i j (inl s)
        | inr more ↦ elim more [
          | inl s ↦ subst (λ v. Serves matched v j 0 Uni) (sym s.0)
              (subst (λ v. Serves matched (x + 1) v 0 Uni) (sym s.1) second)
          | inr none ↦ absurd none
        ]
      ] in
      let next : IsBase n d.p d.p d.x d.f after = record {
        switch = IsSwitch-after_in rounds n t places it base.switch;
        grant = step.grant_stays 0 (λ i is. elim is [ inl s ↦ let e = s.1 in omega arith | inr none ↦ none ]) ∙ base.grant;
        fresh = λ i i_low i_high. step.accept_stays i (λ j is. elim is [ inl s ↦ let e = s.0 in omega arith | inr none ↦ none ])
            ∙ base.fresh i i_low (omega arith);
      } in
      IsLateBy-before n (decided_in rounds n) t places (joins x f) rest starts (record {
        serving = serving_by rounds n t places it some base.switch suits some_rounds (joins x f) refl serves (settles_joins x f);
        left = λ zero_served. let e = (Serves-once matched 0 (x + 1) 0 0 0 Uni Uni second zero_served).0 in omega arith;
      })
      (then after (record {
        base = next;
        beyond = omega arith;
        at = step.accepted x f (inl (refl, refl)) ∙ mod-eq_of_lt (omega arith);
        held = λ yes. step.granted x f (inl (refl, refl));
      }) (λ j other. step.grant_stays j (λ i is. elim is [ inl s ↦ other s.1 | inr none ↦ none ])))

  -- the k inputs from p on go down
  late_climbs : (p f : ℕ) (rest : List Plan) → 0 < p → 0 < f → f < l → AreLateIn rounds n (IsBase n p p p f) (passes p ∷ rest)
      → (k : ℕ) → p + k ≤ l → AreLateIn rounds n (IsBase n p p (p + k) f) (climbs l p f k (passes p ∷ rest))
  late_climbs p f rest some_p some_f f_in then zero p_in t places base = let e : p + 0 ≡ p = omega arith in
      then t places (subst (λ v. IsBase n p p v f places) e base)
  late_climbs p f rest some_p some_f f_in then (suc k) p_in t places base =
      let x = p + k in
      let d : Descent n l = record { p = p; x = x; f = f; some_p = some_p; above = omega arith; x_in = omega arith; some_f = some_f; f_in = f_in } in
      let u = before p k in
      let e : p + suc k ≡ x + 1 = omega arith in
      let later = climbs l p f k (passes p ∷ rest) in
      late_joins d t places (goes l x f u later) (omega arith) (subst (λ v. IsBase n p p v f places) e base)
      (starts_sharings (Follows (joins x f)) l x (f + 1) (l - (f + 1)) (closes l x f u ∷ later) (joins_shares l x f (omega arith) some_f)
      (joins_closes l x f u (omega arith) some_f (before_other p k x some_p refl)))
      (λ after going stays. late_goes d k later refl (starts_climbs n l d k rest refl)
      (late_climbs p f rest some_p some_f f_in then k (omega arith)) (t + 1) after going)

  -- the slot in which input p takes output 0, and input 0 output 1
  pub late_passes : (p : ℕ) (rest : List Plan) → 0 < p → p < n → Starts (Follows (passes p)) rest → AreLateIn rounds n (IsBack n (p + 1) n 2) rest
      → AreLateIn rounds n (λ places. IsSwitch n places × (grant_of places 0 0 ≡ p % n)) (passes p ∷ rest)
  late_passes p rest some_p p_in starts then t places at =
      let it = passes p in
      let suits = suits_passes n places p some_p p_in (at.1 ∙ mod-eq_of_lt p_in) in
      let step = many_step_of rounds n t places it some at.0 suits some_rounds in
      IsLateBy-before n (decided_in rounds n) t places it rest starts
      (serving_others rounds n t places it some at.0 suits some_rounds 1 (omega arith) (inr (inl (refl, refl))) (settles_passes p))
      (then (t + 1) (decided_in rounds n t places it).places (record {
        base = record {
          switch = IsSwitch-after_in rounds n t places it at.0;
          grant = step.granted p 0 (inl (refl, refl));
          fresh = λ i i_low i_high. absurd (omega arith);
        };
        beyond = omega arith;
        at = step.accepted 0 1 (inr (inl (refl, refl)));
        held = λ none. absurd (omega arith);
      }))

  -- a level, in which the last input goes down first
  pub late_level : (d : Descent n l) (k : ℕ) (rest : List Plan) → d.x ≡ l → d.p + k ≡ l → Starts (Follows (passes d.p)) rest
      → AreLateIn rounds n (IsBack n (d.p + 1) n 2) rest → AreLateIn rounds n (IsGoing n l d (d.f + 1)) (level l d.p d.f k rest)
  late_level d k rest last all starts then =
      let p = d.p in
      let f = d.f in
      let e : d.x ≡ p + k = omega arith in
      let later = climbs l p f k (passes p ∷ rest) in
      subst (λ v. AreLateIn rounds n (IsGoing n l d (f + 1)) (goes l v f (before p k) later)) last
      (late_goes d k later e (starts_climbs n l d k rest e)
      (λ t places base. late_climbs p f rest d.some_p d.some_f d.f_in
      (λ t places next. late_passes p rest d.some_p (omega arith) starts then t places (next.switch, next.grant))
      k (omega arith) t places (subst (λ v. IsBase n p p v f places) e base)))

  -- input 0 takes output y, and input w output 1
  pub late_resets : (p y w : ℕ) (rest : List Plan) → y < l → 0 < w → w < n → Starts (Follows (resets y w)) rest
      → AreLateIn rounds n (IsBack n p w (y + 1)) rest → AreLateIn rounds n (IsBack n p (w + 1) y) (resets y w ∷ rest)
  late_resets p y w rest y_in some_w w_in starts then t places back =
      let it = resets y w in
      let base = back.base in
      let suits = suits_resets n places y w back.beyond (omega arith) some_w w_in (back.at ∙ mod-eq_of_lt (omega arith)) in
      let step = many_step_of rounds n t places it some base.switch suits some_rounds in
      let after = (decided_in rounds n t places it).places in
      let next : IsBase n p w n 2 after = record {
        switch = IsSwitch-after_in rounds n t places it base.switch;
        grant = step.grant_stays 0
            (λ i is. elim is [ inl s ↦ let e = s.1 in omega arith | inr more ↦ elim more [ inl s ↦ let e = s.1 in omega arith | inr none ↦ none ] ])
            ∙ base.grant;
        fresh = λ i i_low i_high. elim (cases_lt w i) [
          | inl later ↦ step.accept_stays i
              (λ j is. elim is [ inl s ↦ let e = s.0 in omega arith | inr more ↦ elim more [ inl s ↦ let e = s.0 in omega arith | inr none ↦ none ] ])
              ∙ base.fresh i (omega arith) i_high
          | inr here ↦ let same : w ≡ i = omega arith in
              subst (λ v. accept_of after v 0 ≡ 2) same (step.accepted w 1 (inr (inl (refl, refl))) ∙ mod-eq_of_lt (omega arith))
        ];
      } in
      let held_on : 2 < y + 1 → grant_of after 2 0 ≡ 1 = λ yes. elim (cases_lt 2 y) [
        | inl later ↦ step.grant_stays 2
            (λ i is. elim is [ inl s ↦ let e = s.1 in omega arith | inr more ↦ elim more [ inl s ↦ let e = s.1 in omega arith | inr none ↦ none ] ])
            ∙ back.held later
        | inr now ↦ let same : y ≡ 2 = omega arith in
            subst (λ v. grant_of after v 0 ≡ 1) same (step.granted 0 y (inl (refl, refl)) ∙ mod-eq_of_lt (omega arith))
      ] in
      IsLateBy-before n (decided_in rounds n) t places it rest starts
      (serving_others rounds n t places it some base.switch suits some_rounds y (omega arith) (inl (refl, refl)) (settles_resets y w))
      (then (t + 1) after (record { base = next; beyond = omega arith; at = step.accepted 0 y (inl (refl, refl)); held = held_on }))
