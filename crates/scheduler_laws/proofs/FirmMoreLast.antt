-- The rest of the family of more rounds under FIRM, for five ports or more: the last input goes down while
-- input 0 is matched in the second round of each slot, so that no pointer of it moves.
--
-- Input l = n - 1 is the last, and m = n - 3. When input l - 1 takes output 0, output l takes input 1, and then points at
-- input 2. In slots 1, .., m + 2 input l takes outputs 1, .., l. In each of them input 2 is granted an output that it
-- refuses, and that output serves input 0 in the second round: in slots 1, .., m output l while input 2 takes the output
-- after that of input l, in slot m + 1 output 1 while input 2 takes output l, and in slot m + 2 output 2 while input 2 takes
-- output 1. In slots m and m + 1 input 1 takes outputs 1 and 2, which point at input 2 from then on.
use Rattle.std.proofs.Common.{◌≡◌, ℕ, zero, suc, ◌+◌, ◌-◌, ◌*◌, ◌%◌, ◌<◌, ◌≤◌, ◌∙◌, List, [], ◌∷◌, length, drop, refl, ap, sym, subst, inl, inr, arith}
use Rattle.std.proofs.Math.Nat.{mod-eq_of_lt}
use Rattle.std_lemmas.proofs.Numbers.{mod_once}
use Rattle.rotating_pick.specs.Rotation.{distance}
use Rattle.rotating_pick.specs.declared.limits.TheConstants.{MAX_PORTS}
use Rattle.pointer_state.specs.Places.{Places, grant_of, accept_of}
use Rattle.eslip_rounds.specs.Schedules.{DecidedSlot}
use Rattle.service_bound.proofs.Distances.{distance-above}
use Rattle.service_bound.proofs.PostedRuns.{IsSwitch}
use Rattle.scheduler_laws.specs.Reached.{AreFedAtLineRate}
use Rattle.scheduler_laws.specs.ReachedByFirm.{ComesLastByFirmAtLineRate}
use Rattle.scheduler_laws.proofs.Plans.{Plan}
use Rattle.scheduler_laws.proofs.PlannedSlots.{AreNear}
use Rattle.scheduler_laws.proofs.NextPlans.{Follows, Starts}
use Rattle.scheduler_laws.proofs.Shapes.{ends, at_first}
use Rattle.scheduler_laws.proofs.OneRoundFamily.{downs, length-downs, starts_more}
use Rattle.scheduler_laws.proofs.FirmSlots.{firm_decided, IsSwitch-after_firm, IsFirmLate, AreFirmLate, firm_step_of, late_first, late_second}
use Rattle.scheduler_laws.proofs.FirmTurns.{hands, IsTurn, late_lowers, firm_late_comes}
use Rattle.scheduler_laws.proofs.FirmMoreShapes.{joining, prepares, blocks, blocking, leaves_both, suits_prepares, suits_leaves, AreApartHere}
use Rattle.scheduler_laws.proofs.FirmMoreShapes.{suits_blocks, second_blocks, IsBlocking}
use Rattle.scheduler_laws.proofs.Settled.{settles_prepares, settles_blocking, settles_leaves}
use Rattle.scheduler_laws.proofs.FirmMoreFollowings.{hands_joining, hands_joining_first, joining_prepares}
use Rattle.scheduler_laws.proofs.FirmLastFollowings.{prepares_blocking, blocking_blocking, blocking_one, blocking_turns, blocking_turns_on}
use Rattle.scheduler_laws.proofs.FirmLastFollowings.{blocking_leaves, leaves_takes}
use Rattle.scheduler_laws.proofs.FirmMoreFamily.{joinings, climbs, length-joinings, length-climbs, starts_joinings, starts_climbs}
use Rattle.scheduler_laws.proofs.FirmMoreFamily.{late_joinings, late_climbs}

-- k slots in which input l takes an output from a on, and input 2 the next one and refuses output l
abbrev blockings : ℕ → ℕ → ℕ → List Plan → List Plan
blockings l a zero rest = rest
blockings l a (suc k) rest = blocking l a (a + 1) l 2 (a + 1) ∷ blockings l (a + 1) k rest

-- the slots in which input 0 goes down, and the last one
abbrev final : ℕ → List Plan
final n = downs 0 1 (n - 1) (ends 0 ∷ [])

-- the last three outputs of input l, and the slots after them
abbrev closing : ℕ → ℕ → ℕ → List Plan
closing n l m = blocking l m (m + 1) l 1 1 ∷ blocking l (m + 1) l 1 1 2 ∷ blocking l l 1 2 2 1 ∷ leaves_both l ∷ final n

-- the turns of the inputs from 1 on
abbrev family : ℕ → ℕ → ℕ → List Plan
family n l m = climbs n 1 m (joinings (m + 1) 1 (n - 1) (prepares l (m + 1) ∷ blockings l 1 (m - 1) (closing n l m)))

-- so many slots are the first of the last input's
length-blockings : (l k a : ℕ) (rest : List Plan) → length (blockings l a k rest) ≡ k + length rest
length-blockings l zero a rest = omega arith
length-blockings l (suc k) a rest = let e = length-blockings l k (a + 1) rest in omega arith

-- so many are all
length-family : (n l m : ℕ) → 1 < m → n ≡ m + 3 → length (family n l m) ≡ n * n
length-family n l m more e =
    let down = length-joinings (m + 1) (n - 1) 1 (prepares l (m + 1) ∷ blockings l 1 (m - 1) (closing n l m)) in
    let blocked = length-blockings l (m - 1) 1 (closing n l m) in
    let lowered = length-downs 0 (n - 1) 1 (ends 0 ∷ []) in
    let all = length-climbs n m 1 (joinings (m + 1) 1 (n - 1) (prepares l (m + 1) ∷ blockings l 1 (m - 1) (closing n l m))) (omega arith) in
    let rest : length (joinings (m + 1) 1 (n - 1) (prepares l (m + 1) ∷ blockings l 1 (m - 1) (closing n l m))) ≡ 3 * n = omega arith in
    let sum : m * n + 3 * n ≡ n * n = rw e (omega arith) in
    all ∙ ap (λ v. m * n + v) rest ∙ sum

-- Output 0 points at input l, which points at output a, and input 0 at port 1. A port n is port 0.
record IsLast (n l a : ℕ) (places : Places) : Type 0 where
  switch : IsSwitch n places
  grant : grant_of places 0 0 ≡ l
  accept : accept_of places l 0 ≡ a % n
  first : accept_of places 0 0 ≡ 1

-- The same, and output c points at input 2, which is no nearer to it than to output b.
record IsBlocked (n l a b c : ℕ) (places : Places) : Type 0 where
  last : IsLast n l a places
  held : grant_of places c 0 ≡ 2
  near : distance n (accept_of places 2 0) b ≤ distance n (accept_of places 2 0) c

-- after the slot: input 2 points at the output after b, output c still at input 2, and output v at the input after u
record HasBlocked (n l a b c u v : ℕ) (places : Places) : Type 0 where
  last : IsLast n l (a + 1) places
  beyond : accept_of places 2 0 ≡ (b + 1) % n
  held : grant_of places c 0 ≡ 2
  granted : grant_of places v 0 ≡ (u + 1) % n

module _ (rounds n l m : ℕ) (two : 1 < rounds) (more : 1 < m) (el : l ≡ m + 2) (en : n ≡ m + 3) where
  -- there are ports
  some : 0 < n
  some = omega arith

  -- there are rounds
  some_rounds : 0 < rounds
  some_rounds = omega arith

  -- input l takes output a and input 2 output b, and input 0 takes output c in the second round
  late_blocking : (a b c u v : ℕ) (rest : List Plan) → AreApartHere n l a b c u v
      → (AreApartHere n l a b c u v → Starts (Follows (blocking l a b c u v)) rest)
      → AreFirmLate rounds n (HasBlocked n l a b c u v) rest → AreFirmLate rounds n (IsBlocked n l a b c) (blocking l a b c u v ∷ rest)
  late_blocking a b c u v rest apart starts then t places blocked =
      let it = blocks l a b c u v in
      let last = blocked.last in
      let held = blocked.held in
      let at : IsBlocking n places l a b c = record { grant = last.grant; accept = last.accept ∙ mod-eq_of_lt apart.a_in; held = held; near = blocked.near } in
      let suits = suits_blocks n places l a b c u v apart at in
      let step = firm_step_of rounds n t places it some some_rounds last.switch suits in
      let after = (firm_decided rounds n t places it).places in
      let to_l : (w : ℕ) → distance n (grant_of places 0 0) l ≤ distance n (grant_of places 0 0) w = λ w. at_first n (grant_of places 0 0) l w
      apart.last_in last.grant in
      let to_c : (w : ℕ) → distance n (grant_of places c 0) 2 ≤ distance n (grant_of places c 0) w = λ w. at_first n (grant_of places c 0) 2 w
      (omega arith) held in
      let of_zero : AreNear n places it l 0 = (
        λ e. to_l 0,
        (λ e. to_l l, (λ e. to_l l, (λ e. to_l 2, (λ e. to_l 2, (λ e. to_l 0, (λ e. to_l u, tt)))))),
      ) in
      let of_c : AreNear n places it 2 c = (
        λ e. to_c 0,
        (λ e. to_c l, (λ e. to_c l, (λ e. to_c 2, (λ e. to_c 2, (λ e. to_c 0, (λ e. to_c u, tt)))))),
      ) in
      let some_a = apart.some_a in
      let some_b = apart.some_b in
      let some_u = apart.some_u in
      let some_v = apart.some_v in
      let next : IsLast n l (a + 1) after = record {
        switch = IsSwitch-after_firm rounds n t places it last.switch;
        grant = step.held l 0 (omega arith, some, inr (inl (refl, refl))) of_zero (λ is. elim is [
          | inl s ↦ let e = s.1 in omega arith
          | inr later ↦ elim later [ inl s ↦ let e = s.1 in omega arith | inr third ↦ elim third [ inl s ↦ let e = s.1 in omega arith | inr none ↦ none ] ]
        ]);
        accept = step.accepted l a (inl (refl, refl));
        first = step.accept_stays 0 (λ j is. elim is [
          | inl s ↦ let e = s.0 in omega arith
          | inr later ↦ elim later [ inl s ↦ let e = s.0 in omega arith | inr third ↦ elim third [ inl s ↦ let e = s.0 in omega arith | inr none ↦ none ] ]
        ]) ∙ last.first;
      } in
      let held_on : grant_of after c 0 ≡ 2 = step.held 2 c (omega arith, apart.c_in, inr (inr (inr (inr (inl (refl, refl)))))) of_c (λ is. elim is [
        | inl s ↦ apart.a_c (sym s.1)
        | inr later ↦ elim later [ inl s ↦ apart.b_c (sym s.1) | inr third ↦ elim third [ inl s ↦ apart.c_v s.1 | inr none ↦ none ] ]
      ]) in
      late_second rounds n t places it some some_rounds last.switch suits rest 0 c two (second_blocks n places l a b c u v apart at last.first)
      (settles_blocking l a b c u v) (inl (refl, apart.some_c)) (starts apart)
      (then (t + 1) after (record {
        last = next;
        beyond = step.accepted 2 b (inr (inl (refl, refl)));
        held = held_on;
        granted = step.granted u v (inr (inr (inl (refl, refl))));
      }))

  -- input l goes down, and input 2 before it
  late_blockings : (rest : List Plan) → ((a : ℕ) → AreApartHere n l a (a + 1) l 2 (a + 1) → Starts (Follows (blocking l a (a + 1) l 2 (a + 1))) rest)
      → AreFirmLate rounds n (IsBlocked n l m (m + 1) l) rest → (k a : ℕ) → 0 < a → a + k ≡ m
      → AreFirmLate rounds n (IsBlocked n l a (a + 1) l) (blockings l a k rest)
  late_blockings rest starts then zero a some_a sum t places blocked =
      let e : a ≡ m = omega arith in
      then t places (subst (λ v. IsBlocked n l v (v + 1) l places) e blocked)
  late_blockings rest starts then (suc k) a some_a sum t places blocked =
      late_blocking a (a + 1) l 2 (a + 1) (blockings l (a + 1) k rest) (record {
        last_in = omega arith;
        high = omega arith;
        some_a = omega arith;
        a_in = omega arith;
        some_b = omega arith;
        b_in = omega arith;
        some_c = omega arith;
        c_in = omega arith;
        a_b = λ e. omega arith;
        a_c = λ e. omega arith;
        b_c = λ e. omega arith;
        some_u = omega arith;
        u_in = omega arith;
        some_v = omega arith;
        v_in = omega arith;
        a_v = λ e. omega arith;
        c_v = λ e. omega arith;
        of_output = λ e. refl;
        of_input = λ e. refl;
      }) (follows k)
      (λ t places blocked. late_blockings rest starts then k (a + 1) (omega arith) (omega arith) t places (record {
        last = blocked.last;
        held = blocked.held;
        near = at_first n (accept_of places 2 0) (a + 1 + 1) l (omega arith) (blocked.beyond ∙ mod-eq_of_lt (omega arith));
      })) t places blocked where
        follows : (k : ℕ) → AreApartHere n l a (a + 1) l 2 (a + 1) → Starts (Follows (blocking l a (a + 1) l 2 (a + 1))) (blockings l (a + 1) k rest)
        follows zero apart = starts a apart
        follows (suc k) apart = blocking_blocking n l a (a + 1) (a + 1) (a + 1 + 1) apart

  -- the slot in which input l takes output 0, and those after it
  late_leaves : (t : ℕ) (places : Places) → IsLast n l n places → IsFirmLate rounds n t places (leaves_both l ∷ final n)
  late_leaves t places last =
      let it = leaves_both l in
      let suits = suits_leaves n places l (omega arith) (omega arith) last.grant in
      let step = firm_step_of rounds n t places it some some_rounds last.switch suits in
      let after = (firm_decided rounds n t places it).places in
      let round : (l + 1) % n ≡ 0 = mod_once n (l + 1) (omega arith) (omega arith) ∙ omega arith in
      let stays : accept_of after 0 0 ≡ 1 = step.accept_stays 0
      (λ j is. elim is [ inl s ↦ let e = s.0 in omega arith | inr later ↦ elim later [ inl s ↦ let e = s.0 in omega arith | inr none ↦ none ] ])
      ∙ last.first in
      late_first rounds n t places it some some_rounds last.switch suits (final n) l 0 (settles_leaves l) (inl (refl, refl)) (inr (omega arith, refl))
      (starts_more (Follows it) 0 (n - 1) 1 (ends 0 ∷ []) (omega arith) (leaves_takes l 1 (omega arith)))
      (late_lowers rounds n some_rounds (omega arith) (n - 1) 1 (t + 1) after (omega arith) (omega arith)
      (IsSwitch-after_firm rounds n t places it last.switch) (step.granted l 0 (inl (refl, refl)) ∙ round) (stays ∙ sym (mod-eq_of_lt (omega arith))))

  -- input l takes the last output, while input 2 takes output 1 and refuses output 2
  late_third : (t : ℕ) (places : Places) → IsLast n l l places → accept_of places 2 0 ≡ 0 → grant_of places 2 0 ≡ 2
      → IsFirmLate rounds n t places (blocking l l 1 2 2 1 ∷ leaves_both l ∷ final n)
  late_third t places last at held =
      let near : distance n (accept_of places 2 0) 1 + 0 ≡ 1 = ap (λ f. distance n f 1 + 0) at ∙ distance-above n 0 1 some (omega arith) (omega arith) in
      let far : distance n (accept_of places 2 0) 2 + 0 ≡ 2 = ap (λ f. distance n f 2 + 0) at ∙ distance-above n 0 2 some (omega arith) (omega arith) in
      let e : l + 1 ≡ n = omega arith in
      late_blocking l 1 2 2 1 (leaves_both l ∷ final n) (record {
        last_in = omega arith;
        high = omega arith;
        some_a = omega arith;
        a_in = omega arith;
        some_b = omega arith;
        b_in = omega arith;
        some_c = omega arith;
        c_in = omega arith;
        a_b = λ e. omega arith;
        a_c = λ e. omega arith;
        b_c = λ e. omega arith;
        some_u = omega arith;
        u_in = omega arith;
        some_v = omega arith;
        v_in = omega arith;
        a_v = λ e. omega arith;
        c_v = λ e. omega arith;
        of_output = λ e. refl;
        of_input = λ e. refl;
      }) (blocking_leaves n l l 1 2 1)
      (λ t after blocked. late_leaves t after (subst (λ v. IsLast n l v after) e blocked.last))
      t places (record { last = last; held = held; near = omega arith })

  -- the same while input 2 takes output l and refuses output 1, and input 1 takes output 2
  late_closing_two : (t : ℕ) (places : Places) → IsLast n l (m + 1) places → accept_of places 2 0 ≡ l → grant_of places 1 0 ≡ 2
      → IsFirmLate rounds n t places (blocking l (m + 1) l 1 1 2 ∷ blocking l l 1 2 2 1 ∷ leaves_both l ∷ final n)
  late_closing_two t places last at held =
      let e : m + 1 + 1 ≡ l = omega arith in
      let round : (l + 1) % n ≡ 0 = mod_once n (l + 1) (omega arith) (omega arith) ∙ omega arith in
      late_blocking (m + 1) l 1 1 2 (blocking l l 1 2 2 1 ∷ leaves_both l ∷ final n) (record {
        last_in = omega arith;
        high = omega arith;
        some_a = omega arith;
        a_in = omega arith;
        some_b = omega arith;
        b_in = omega arith;
        some_c = omega arith;
        c_in = omega arith;
        a_b = λ e. omega arith;
        a_c = λ e. omega arith;
        b_c = λ e. omega arith;
        some_u = omega arith;
        u_in = omega arith;
        some_v = omega arith;
        v_in = omega arith;
        a_v = λ e. omega arith;
        c_v = λ e. omega arith;
        of_output = λ e. omega arith;
        of_input = λ e. omega arith;
      }) (blocking_turns_on n l (m + 1) l l)
      (λ t after blocked. late_third t after (subst (λ v. IsLast n l v after) e blocked.last) (blocked.beyond ∙ round)
      (blocked.granted ∙ mod-eq_of_lt (omega arith)))
      t places (record { last = last; held = held; near = at_first n (accept_of places 2 0) l 1 (omega arith) at })

  -- the last three outputs
  late_closing : AreFirmLate rounds n (IsBlocked n l m (m + 1) l) (closing n l m)
  late_closing =
      late_blocking m (m + 1) l 1 1 (blocking l (m + 1) l 1 1 2 ∷ blocking l l 1 2 2 1 ∷ leaves_both l ∷ final n) (record {
        last_in = omega arith;
        high = omega arith;
        some_a = omega arith;
        a_in = omega arith;
        some_b = omega arith;
        b_in = omega arith;
        some_c = omega arith;
        c_in = omega arith;
        a_b = λ e. omega arith;
        a_c = λ e. omega arith;
        b_c = λ e. omega arith;
        some_u = omega arith;
        u_in = omega arith;
        some_v = omega arith;
        v_in = omega arith;
        a_v = λ e. omega arith;
        c_v = λ e. omega arith;
        of_output = λ e. omega arith;
        of_input = λ e. omega arith;
      })
      (blocking_turns n l m (m + 1) (m + 1))
      (λ t after blocked. late_closing_two t after blocked.last (blocked.beyond ∙ mod-eq_of_lt (omega arith) ∙ omega arith)
      (blocked.granted ∙ mod-eq_of_lt (omega arith)))

  -- the slots in which input l goes down, and those after them
  late_lasts : (t : ℕ) (places : Places) → IsLast n l 1 places → accept_of places 2 0 ≡ 1 → grant_of places l 0 ≡ 2
      → IsFirmLate rounds n t places (blockings l 1 (m - 1) (closing n l m))
  late_lasts t places last at held =
      let near : distance n (accept_of places 2 0) 2 + 1 ≡ 2 = ap (λ f. distance n f 2 + 1) at ∙ distance-above n 1 2 (omega arith) (omega arith)
      (omega arith) in
      let far : distance n (accept_of places 2 0) l + 1 ≡ l = ap (λ f. distance n f l + 1) at ∙ distance-above n 1 l (omega arith) (omega arith)
      (omega arith) in
      late_blockings (closing n l m) (λ a. blocking_one n l a (a + 1) m (m + 1) 1) late_closing (m - 1) 1 (omega arith) (omega arith) t places
      (record { last = last; held = held; near = omega arith })

  -- the slot in which input l - 1 takes output 0, and those after it
  late_prepares : (t : ℕ) (places : Places) → IsTurn n (m + 1) n places → grant_of places l 0 ≡ l
      → IsFirmLate rounds n t places (prepares l (m + 1) ∷ blockings l 1 (m - 1) (closing n l m))
  late_prepares t places turn at =
      let it = prepares l (m + 1) in
      let suits = suits_prepares n places l (m + 1) (omega arith) (omega arith) (omega arith) turn.grant at in
      let step = firm_step_of rounds n t places it some some_rounds turn.switch suits in
      let after = (firm_decided rounds n t places it).places in
      let stays : (i : ℕ) → i < n → (i ≡ m + 1 → ⊥) → (i ≡ 1 → ⊥) → accept_of after i 0 ≡ 1 = λ i i_in other one. step.accept_stays i
      (λ j is. elim is [ inl s ↦ other s.0 | inr later ↦ elim later [ inl s ↦ one s.0 | inr none ↦ none ] ]) ∙ turn.others i i_in other in
      let next : IsLast n l 1 after = record {
        switch = IsSwitch-after_firm rounds n t places it turn.switch;
        grant = step.granted (m + 1) 0 (inl (refl, refl)) ∙ mod-eq_of_lt (omega arith) ∙ omega arith;
        accept = stays l (omega arith) (λ e. omega arith) (λ e. omega arith) ∙ sym (mod-eq_of_lt (omega arith));
        first = stays 0 some (λ e. omega arith) (λ e. omega arith);
      } in
      late_first rounds n t places it some some_rounds turn.switch suits (blockings l 1 (m - 1) (closing n l m)) (m + 1) 0 (settles_prepares l (m + 1))
      (inl (refl, refl)) (inr (omega arith, refl)) (starts_blockings (m - 1) (omega arith))
      (late_lasts (t + 1) after next (stays 2 (omega arith) (λ e. omega arith) (λ e. omega arith))
      (step.granted 1 l (inr (inl (refl, refl))) ∙ mod-eq_of_lt (omega arith))) where
        starts_blockings : (k : ℕ) → 0 < k → Starts (Follows (prepares l (m + 1))) (blockings l 1 k (closing n l m))
        starts_blockings zero some_k = absurd (omega arith)
        starts_blockings (suc k) some_k = prepares_blocking l (m + 1) 1 2 (omega arith) (omega arith)

  -- all of the family
  late_family : (t : ℕ) (places : Places) → IsTurn n 1 1 places → IsFirmLate rounds n t places (family n l m)
  late_family t places turn =
      let rest = blockings l 1 (m - 1) (closing n l m) in
      late_climbs rounds n two (omega arith) (m + 1) (joinings (m + 1) 1 (n - 1) (prepares l (m + 1) ∷ rest)) (omega arith)
      (λ x some_x e. starts_joinings (Follows (hands x (x + 1))) (m + 1) 1 (n - 1) (prepares l (m + 1) ∷ rest) (omega arith)
      (subst (λ v. Follows (hands x (x + 1)) (joining v 1)) e (hands_joining x (x + 1) some_x (λ e. omega arith))))
      (λ t places turn. late_joinings rounds n two (omega arith) (m + 1) (prepares l (m + 1) ∷ rest) (omega arith) (omega arith)
      (joining_prepares l (m + 1) (n - 1) (omega arith) (omega arith))
      (λ t places joined.
      let e : n - 1 ≡ l = omega arith in
      let same : grant_of places l 0 ≡ (m + 1 + 1) % n = subst (λ v. grant_of places v 0 ≡ (m + 1 + 1) % n) e joined.granted in
      let last : n - 1 + 1 ≡ n = omega arith in
      late_prepares t places (subst (λ v. IsTurn n (m + 1) v places) last joined.turn) (same ∙ mod-eq_of_lt (omega arith) ∙ omega arith))
      (n - 1) 0 (omega arith) t places (turn, λ none. absurd (omega arith)))
      m 1 (omega arith) (omega arith) t places turn

-- for five ports or more
pub firm_comes_in_more_rounds : (n rounds : ℕ) → 4 < n → n ≤ MAX_PORTS → 1 < rounds
    → (slots : List DecidedSlot) × AreFedAtLineRate n slots × ComesLastByFirmAtLineRate n rounds (n + 1) slots × (length (drop (n + 1) slots) ≡ n * n)
firm_comes_in_more_rounds n rounds many size two =
    let l = n - 1 in
    let m = n - 3 in
    let rest = family n l m in
    let starts = starts_climbs (Follows (hands 0 1)) n m 1 (joinings (m + 1) 1 (n - 1) (prepares l (m + 1) ∷ blockings l 1 (m - 1) (closing n l m)))
    (omega arith) (hands_joining_first 1 (omega arith)) (λ none. absurd (omega arith)) in
    firm_late_comes rounds n (omega arith) (omega arith) rest starts size (λ v. v ≡ n * n) (length-family n l m (omega arith) (omega arith))
    (λ t places turn. late_family rounds n l m two (omega arith) (omega arith) (omega arith) t places turn)
