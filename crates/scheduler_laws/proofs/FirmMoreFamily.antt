-- A family of schedules of two rounds or more at line rate, in which a request is served as late as can be under
-- FIRM: the turns of the inputs but the last. As with one round inputs x = 1, 2, .. go down one after the other. But of
-- the others input x + 1 alone asks output 0 too, and output 0, which x refuses, serves it in the second round.
use Rattle.std.proofs.Common.{◌≡◌, ℕ, zero, suc, ◌+◌, ◌-◌, ◌*◌, ◌%◌, ◌<◌, ◌≤◌, ◌∙◌, List, ◌∷◌, length, refl, ap, subst, inl, inr, arith}
use Rattle.std.proofs.Math.Nat.{mod-eq_of_lt}
use Rattle.rotating_pick.specs.Rotation.{distance}
use Rattle.pointer_state.specs.Places.{Places, grant_of}
use Rattle.service_bound.proofs.Distances.{distance-above, distance-below}
use Rattle.scheduler_laws.proofs.Plans.{Plan}
use Rattle.scheduler_laws.proofs.PlannedSlots.{AreNear}
use Rattle.scheduler_laws.proofs.NextPlans.{Follows, Starts}
use Rattle.scheduler_laws.proofs.Shapes.{at_first}
use Rattle.scheduler_laws.proofs.MoreShapes.{joins_first, suits_joins, second_joins}
use Rattle.scheduler_laws.proofs.FirmSlots.{firm_decided, IsSwitch-after_firm, AreFirmLate, firm_step_of, late_second}
use Rattle.scheduler_laws.proofs.FirmTurns.{hands, IsTurn, late_hands}
use Rattle.scheduler_laws.proofs.FirmMoreShapes.{joining, nearer}
use Rattle.scheduler_laws.proofs.Settled.{settles_joining}
use Rattle.scheduler_laws.proofs.FirmMoreFollowings.{joining_joining, joining_hands, hands_joining}

-- input x takes k outputs from a on, while output 0 serves the next input
abbrev pub joinings : ℕ → ℕ → ℕ → List Plan → List Plan
joinings x a zero rest = rest
joinings x a (suc k) rest = joining x a ∷ joinings x (a + 1) k rest

-- the turns of the k inputs from x on
abbrev pub climbs : ℕ → ℕ → ℕ → List Plan → List Plan
climbs n x zero rest = rest
climbs n x (suc k) rest = joinings x 1 (n - 1) (hands x (x + 1) ∷ climbs n (x + 1) k rest)

-- so many slots is going down
pub length-joinings : (x k a : ℕ) (rest : List Plan) → length (joinings x a k rest) ≡ k + length rest
length-joinings x zero a rest = omega arith
length-joinings x (suc k) a rest = let e = length-joinings x k (a + 1) rest in omega arith

-- and so many are the turns
pub length-climbs : (n k x : ℕ) (rest : List Plan) → 0 < n → length (climbs n x k rest) ≡ k * n + length rest
length-climbs n zero x rest some = omega arith
length-climbs n (suc k) x rest some =
    let down = length-joinings x (n - 1) 1 (hands x (x + 1) ∷ climbs n (x + 1) k rest) in
    let later = length-climbs n k (x + 1) rest some in
    omega arith

-- which plan comes first
pub starts_joinings : (P : Plan → Type 0) (x a k : ℕ) (rest : List Plan) → 0 < k → P (joining x a) → Starts P (joinings x a k rest)
starts_joinings P x a zero rest some here = absurd (omega arith)
starts_joinings P x a (suc k) rest some here = here

-- and which of the turns, or of the rest
pub starts_climbs : (P : Plan → Type 0) (n k x : ℕ) (rest : List Plan) → 1 < n → P (joining x 1) → (k ≡ 0 → Starts P rest) → Starts P (climbs n x k rest)
starts_climbs P n zero x rest ports here starts = starts refl
starts_climbs P n (suc k) x rest ports here starts = starts_joinings P x 1 (n - 1) (hands x (x + 1) ∷ climbs n (x + 1) k rest) (omega arith) here

-- after a slot in which input x took output a, which points at the input after x
pub record HasJoined (n x a : ℕ) (places : Places) : Type 0 where
  pub turn : IsTurn n x (a + 1) places
  pub granted : grant_of places a 0 ≡ (x + 1) % n

module _ (rounds n : ℕ) (two : 1 < rounds) (ports : 1 < n) where
  -- there are ports
  some : 0 < n
  some = omega arith

  -- there are rounds
  some_rounds : 0 < rounds
  some_rounds = omega arith

  -- input x takes output a, and output 0, which it refuses, serves the next input in the second round
  late_joining : (x a : ℕ) (rest : List Plan) → 0 < x → x + 1 < n → 0 < a → a < n → Starts (Follows (joining x a)) rest
      → AreFirmLate rounds n (HasJoined n x a) rest → AreFirmLate rounds n (IsTurn n x a) (joining x a ∷ rest)
  late_joining x a rest some_x next_in some_a a_in starts then t places turn =
      let it = joins_first x a in
      let from = grant_of places 0 0 in
      let suits = suits_joins n places x a (omega arith) some_a a_in (record {
        before = nearer n from x 0 (omega arith) some (λ e. omega arith) turn.grant;
        after = nearer n from x (x + 1) (omega arith) next_in (λ e. omega arith) turn.grant;
        at = turn.accept ∙ mod-eq_of_lt a_in;
      }) in
      let near : distance n from (x + 1) + x ≡ x + 1 = ap (λ f. distance n f (x + 1) + x) turn.grant ∙ distance-above n x (x + 1) (omega arith) next_in
      (omega arith) in
      let far : distance n from 0 + x ≡ 0 + n = ap (λ f. distance n f 0 + x) turn.grant ∙ distance-below n x 0 (omega arith) some some_x in
      let step = firm_step_of rounds n t places it some some_rounds turn.switch suits in
      let after = (firm_decided rounds n t places it).places in
      let to_x : (v : ℕ) → distance n from x ≤ distance n from v = λ v. at_first n from x v (omega arith) turn.grant in
      let nearest : AreNear n places it x 0 = (λ e. to_x 0, (λ e. to_x x, (λ e. to_x x, (λ e. to_x (x + 1), tt)))) in
      let next : IsTurn n x (a + 1) after = record {
        switch = IsSwitch-after_firm rounds n t places it turn.switch;
        grant = step.held x 0 (omega arith, some, inr (inl (refl, refl))) nearest (λ is. elim is [ inl s ↦ let e = s.1 in omega arith | inr none ↦ none ]);
        accept = step.accepted x a (inl (refl, refl));
        others = λ i i_in other. step.accept_stays i (λ j is. elim is [ inl s ↦ other s.0 | inr none ↦ none ]) ∙ turn.others i i_in other;
      } in
      late_second rounds n t places it some some_rounds turn.switch suits rest (x + 1) 0 two (second_joins n places x a next_in some_a (omega arith))
      (settles_joining x a) (inr (omega arith, refl)) starts (then (t + 1) after (record { turn = next; granted = step.granted x a (inl (refl, refl)) }))

  -- input x goes down, and output 0 points at it all the while
  pub late_joinings : (x : ℕ) (rest : List Plan) → 0 < x → x + 1 < n → Starts (Follows (joining x (n - 1))) rest
      → AreFirmLate rounds n (HasJoined n x (n - 1)) rest → (k a : ℕ) → a + 1 + k ≡ n
      → AreFirmLate rounds n (λ places. IsTurn n x (a + 1) places × (0 < a → HasJoined n x a places)) (joinings x (a + 1) k rest)
  late_joinings x rest some_x next_in starts then zero a sum t places at =
      let e : a ≡ n - 1 = omega arith in
      then t places (subst (λ v. HasJoined n x v places) e (at.1 (omega arith)))
  late_joinings x rest some_x next_in starts then (suc k) a sum t places at =
      late_joining x (a + 1) (joinings x (a + 1 + 1) k rest) some_x next_in (omega arith) (omega arith) (follows k sum)
      (λ t places joined. late_joinings x rest some_x next_in starts then k (a + 1) (omega arith) t places (joined.turn, λ some. joined)) t places at.0 where
        follows : (k : ℕ) → a + 1 + suc k ≡ n → Starts (Follows (joining x (a + 1))) (joinings x (a + 1 + 1) k rest)
        follows zero sum = let e : n - 1 ≡ a + 1 = omega arith in subst (λ v. Starts (Follows (joining x v)) rest) e starts
        follows (suc k) sum = joining_joining x (a + 1) (omega arith)

  -- the turns of the k inputs from x on, up to `stop`
  pub late_climbs : (stop : ℕ) (rest : List Plan) → stop < n → ((x : ℕ) → 0 < x → x + 1 ≡ stop → Starts (Follows (hands x (x + 1))) rest)
      → AreFirmLate rounds n (IsTurn n stop 1) rest → (k x : ℕ) → 0 < x → x + k ≡ stop → AreFirmLate rounds n (IsTurn n x 1) (climbs n x k rest)
  late_climbs stop rest stop_in starts then zero x some_x sum t places turn =
      let e : x ≡ stop = omega arith in then t places (subst (λ v. IsTurn n v 1 places) e turn)
  late_climbs stop rest stop_in starts then (suc k) x some_x sum t places turn =
      let later = climbs n (x + 1) k rest in
      late_joinings x (hands x (x + 1) ∷ later) some_x (omega arith) (joining_hands x (n - 1) some_x (omega arith))
      (λ t places joined. late_hands rounds n some_rounds ports x (x + 1) (n - 1 + 1) later some_x (omega arith) (mod-eq_of_lt (omega arith))
      (starts_climbs (Follows (hands x (x + 1))) n k (x + 1) rest ports (hands_joining x (x + 1) some_x (λ e. omega arith))
      (λ none. starts x some_x (omega arith)))
      (late_climbs stop rest stop_in starts then k (x + 1) (omega arith) (omega arith)) t places joined.turn)
      (n - 1) 0 (omega arith) t places (turn, λ none. absurd (omega arith))
