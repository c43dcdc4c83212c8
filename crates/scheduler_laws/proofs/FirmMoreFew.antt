-- The rest of the family of more rounds under FIRM, for few ports: while the last input goes down, input 0
-- is matched in the first round of each slot, takes output 1 in the last of them and so points at output 2 at the end.
use Rattle.std.proofs.Common.{◌≡◌, ℕ, zero, suc, ◌+◌, ◌-◌, ◌*◌, ◌%◌, ◌<◌, ◌≤◌, ◌∙◌, List, [], ◌∷◌, length, drop, refl, ap, sym, subst, inl, inr, arith}
use Rattle.std.proofs.Math.Nat.{mod-eq_of_lt}
use Rattle.std.proofs.lemmas.Bool.{cases_lt}
use Rattle.std_lemmas.proofs.Numbers.{mod_once}
use Rattle.rotating_pick.specs.Rotation.{distance}
use Rattle.pointer_state.specs.Places.{Places, grant_of, accept_of}
use Rattle.eslip_rounds.specs.Schedules.{DecidedSlot}
use Rattle.service_bound.proofs.PostedRuns.{IsSwitch}
use Rattle.scheduler_laws.specs.Reached.{AreFedAtLineRate}
use Rattle.scheduler_laws.specs.ReachedByFirm.{ComesLastByFirmAtLineRate}
use Rattle.scheduler_laws.proofs.Plans.{Plan}
use Rattle.scheduler_laws.proofs.PlannedSlots.{AreNear}
use Rattle.scheduler_laws.proofs.NextPlans.{Follows, Starts}
use Rattle.scheduler_laws.proofs.Shapes.{ends, suits_ends, at_first}
use Rattle.scheduler_laws.proofs.MoreShapes.{shares, CanShare, suits_shares}
use Rattle.scheduler_laws.proofs.MoreFollowings.{shares_shares}
use Rattle.scheduler_laws.proofs.OneRoundFamily.{downs, length-downs, starts_more}
use Rattle.scheduler_laws.proofs.MoreRoundsFamily.{sharings, starts_more_sharings}
use Rattle.scheduler_laws.proofs.MoreOpenings.{length-sharings}
use Rattle.scheduler_laws.proofs.FirmSlots.{firm_decided, IsSwitch-after_firm, IsFirmLate, AreFirmLate, firm_step_of, late_first}
use Rattle.scheduler_laws.proofs.FirmTurns.{hands, IsTurn, late_lowers, firm_late_comes}
use Rattle.scheduler_laws.proofs.FirmMoreShapes.{nearer}
use Rattle.scheduler_laws.proofs.Settled.{settles_ends, settles_shares}
use Rattle.scheduler_laws.proofs.FirmMoreFollowings.{hands_joining_first, hands_ends, hands_shares, shares_other, shares_ends, ends_lowers}
use Rattle.scheduler_laws.proofs.FirmMoreFamily.{climbs, length-climbs, starts_climbs, late_climbs}

-- the slot in which input l takes output 0, and those in which input 0 goes down from output a
abbrev final : ℕ → ℕ → ℕ → List Plan
final n l a = ends l ∷ downs 0 a (n - a) (ends 0 ∷ [])

-- the turns of the inputs from 1 on, for three ports or more; input l is the last
abbrev family : ℕ → ℕ → List Plan
family n l = climbs n 1 (n - 2) (shares 2 l 1 ∷ sharings 1 l 2 (n - 2) (final n l 2))

-- so many slots are all
length-family : (n l m : ℕ) → n ≡ m + 3 → length (family n l) + 1 ≡ n * n
length-family n l m e =
    let all = length-climbs n (n - 2) 1 (shares 2 l 1 ∷ sharings 1 l 2 (n - 2) (final n l 2)) (omega arith) in
    let shared = length-sharings 1 l (n - 2) 2 (final n l 2) in
    let lowered = length-downs 0 (n - 2) 2 (ends 0 ∷ []) in
    let rest : length (shares 2 l 1 ∷ sharings 1 l 2 (n - 2) (final n l 2)) + 1 ≡ 2 * n = omega arith in
    let few : n - 2 ≡ m + 1 = omega arith in
    let sum : (m + 1) * n + 2 * n ≡ n * n = rw e (omega arith) in
    ap (λ v. v + 1) (all ∙ ap (λ v. v * n + length (shares 2 l 1 ∷ sharings 1 l 2 (n - 2) (final n l 2))) few) ∙ omega (arith, rest) ∙ sum

-- Output 0 points at input l, which points at output a. A port n is port 0.
record IsLast (n l a : ℕ) (places : Places) : Type 0 where
  switch : IsSwitch n places
  grant : grant_of places 0 0 ≡ l
  accept : accept_of places l 0 ≡ a % n

module _ (rounds n l : ℕ) (two : 1 < rounds) (ports : 1 < n) (sum : l + 1 ≡ n) where
  -- there are ports
  some : 0 < n
  some = omega arith

  -- there are rounds
  some_rounds : 0 < rounds
  some_rounds = omega arith

  -- input l takes output 0, and then input 0 goes down from output a
  late_final : (a t : ℕ) (places : Places) → 0 < a → a < n → IsSwitch n places → grant_of places 0 0 ≡ l → accept_of places 0 0 ≡ a
      → IsFirmLate rounds n t places (final n l a)
  late_final a t places some_a a_in switch grant at =
      let it = ends l in
      let suits = suits_ends n places l (omega arith) grant in
      let step = firm_step_of rounds n t places it some some_rounds switch suits in
      let round : (l + 1) % n ≡ 0 = mod_once n (l + 1) (omega arith) (omega arith) ∙ omega arith in
      late_first rounds n t places it some some_rounds switch suits (downs 0 a (n - a) (ends 0 ∷ [])) l 0 (settles_ends l) (inl (refl, refl))
      (inr (omega arith, refl))
      (starts_more (Follows it) 0 (n - a) a (ends 0 ∷ []) (omega arith) (ends_lowers l a (omega arith)))
      (late_lowers rounds n some_rounds ports (n - a) a (t + 1) (firm_decided rounds n t places it).places some_a (omega arith)
      (IsSwitch-after_firm rounds n t places it switch) (step.granted l 0 (inl (refl, refl)) ∙ round)
      (step.accept_stays 0 (λ j is. elim is [ inl s ↦ let e = s.0 in omega arith | inr none ↦ none ]) ∙ at ∙ sym (mod-eq_of_lt a_in)))

  -- input l takes output a, and input 0 output z
  late_shared : (z a : ℕ) (rest : List Plan) → CanShare n z l a → Starts (Follows (shares z l a)) rest
      → AreFirmLate rounds n (λ after. IsLast n l (a + 1) after × (accept_of after 0 0 ≡ (z + 1) % n)) rest
      → AreFirmLate rounds n (IsLast n l a) (shares z l a ∷ rest)
  late_shared z a rest can starts then t places last =
      let it = shares z l a in
      let from = grant_of places 0 0 in
      let suits = suits_shares n places z l a can (nearer n from l 0 (omega arith) some (λ e. omega arith) last.grant)
      (last.accept ∙ mod-eq_of_lt can.y_in) in
      let step = firm_step_of rounds n t places it some some_rounds last.switch suits in
      let after = (firm_decided rounds n t places it).places in
      let to_l : (v : ℕ) → distance n from l ≤ distance n from v = λ v. at_first n from l v (omega arith) last.grant in
      let nearest : AreNear n places it l 0 = (λ e. to_l 0, (λ e. to_l l, (λ e. to_l l, (λ e. to_l 0, tt)))) in
      let next : IsLast n l (a + 1) after = record {
        switch = IsSwitch-after_firm rounds n t places it last.switch;
        grant = step.held l 0 (omega arith, some, inr (inl (refl, refl))) nearest
            (λ is. elim is [ inl s ↦ let e = s.1 in omega arith | inr more ↦ elim more [ inl s ↦ let e = s.1 in omega arith | inr none ↦ none ] ]);
        accept = step.accepted l a (inl (refl, refl));
      } in
      late_first rounds n t places it some some_rounds last.switch suits rest 0 z (settles_shares z l a) (inr (inl (refl, refl)))
      (inl (refl, can.some_l)) starts
      (then (t + 1) after (next, step.accepted 0 z (inr (inl (refl, refl)))))

  -- input l goes down from output a, and input 0 takes output 1 in each of its slots
  late_sharings : (rest : List Plan) → ((a : ℕ) → 0 < a → Starts (Follows (shares 1 l a)) rest)
      → AreFirmLate rounds n (λ places. IsLast n l n places × (accept_of places 0 0 ≡ 2 % n)) rest
      → (k a : ℕ) → 1 < a → a + k ≡ n → 2 < n
      → AreFirmLate rounds n (λ places. IsLast n l a places × (2 < a → accept_of places 0 0 ≡ 2 % n)) (sharings 1 l a k rest)
  late_sharings rest starts then zero a more all three t places at =
      let e : a ≡ n = omega arith in
      then t places (subst (λ v. IsLast n l v places) e at.0, at.1 (omega arith))
  late_sharings rest starts then (suc k) a more all three t places at =
      let can : CanShare n 1 l a = record {
        some_x = omega arith;
        x_in = omega arith;
        some_y = omega arith;
        y_in = omega arith;
        some_l = omega arith;
        l_in = omega arith;
        other = λ e. omega arith;
      } in
      late_shared 1 a (sharings 1 l (a + 1) k rest) can (follows k)
      (λ t after next. late_sharings rest starts then k (a + 1) (omega arith) (omega arith) three t after (next.0, λ yes. next.1)) t places at.0 where
        follows : (k : ℕ) → Starts (Follows (shares 1 l a)) (sharings 1 l (a + 1) k rest)
        follows zero = starts a (omega arith)
        follows (suc k) = shares_shares 1 l a (omega arith) (omega arith) (omega arith)

  -- all of the family
  late_family : (t : ℕ) (places : Places) → 2 < n → IsTurn n 1 1 places → IsFirmLate rounds n t places (family n l)
  late_family t places three turn =
      let down = sharings 1 l 2 (n - 2) (final n l 2) in
      let can : CanShare n 2 l 1 = record {
        some_x = omega arith;
        x_in = omega arith;
        some_y = omega arith;
        y_in = omega arith;
        some_l = omega arith;
        l_in = omega arith;
        other = λ e. omega arith;
      } in
      late_climbs rounds n two ports l (shares 2 l 1 ∷ down) (omega arith)
      (λ x some_x e. subst (λ v. Follows (hands x v) (shares 2 l 1)) (sym e) (hands_shares x l 2 1 some_x (omega arith)))
      (λ t places turn. late_shared 2 1 down can
      (starts_more_sharings (Follows (shares 2 l 1)) 1 l 2 (n - 2) (final n l 2) (omega arith)
      (shares_other 2 1 l 1 2 (omega arith) (omega arith) (omega arith)))
      (λ t after next. late_sharings (final n l 2) (λ a some_a. shares_ends 1 l a (omega arith) (omega arith) some_a)
      (λ t places last. late_final 2 t places (omega arith) three last.0.switch last.0.grant (last.1 ∙ mod-eq_of_lt three))
      (n - 2) 2 (omega arith) (omega arith) three t after (next.0, λ none. absurd (omega arith)))
      t places (record { switch = turn.switch; grant = turn.grant; accept = turn.accept }))
      (n - 2) 1 (omega arith) (omega arith) t places turn

-- the window is reached
abbrev Reached : ℕ → ℕ → Type 0
Reached rounds n = (slots : List DecidedSlot) × AreFedAtLineRate n slots × ComesLastByFirmAtLineRate n rounds (n + 1) slots
    × (length (drop (n + 1) slots) + 1 ≡ n * n)

-- three ports and four
more_than_two : (n rounds : ℕ) → 2 < n → n < 5 → 1 < rounds → Reached rounds n
more_than_two n rounds three few two =
    let l = n - 1 in
    let down = shares 2 l 1 ∷ sharings 1 l 2 (n - 2) (final n l 2) in
    let starts = starts_climbs (Follows (hands 0 1)) n (n - 2) 1 down (omega arith) (hands_joining_first 1 (omega arith)) (λ none. absurd (omega arith)) in
    firm_late_comes rounds n (omega arith) (omega arith) (family n l) starts (omega arith) (λ v. v + 1 ≡ n * n) (length-family n l (n - 3) (omega arith))
    (λ t places turn. late_family rounds n l two (omega arith) (omega arith) t places three turn)

-- two ports
two_ports : (rounds : ℕ) → 1 < rounds → Reached rounds 2
two_ports rounds two =
    firm_late_comes rounds 2 (omega arith) (omega arith) (final 2 1 1) (hands_ends 1 (omega arith)) (omega arith) (λ v. v + 1 ≡ 2 * 2) refl
    (λ t places turn. late_final rounds 2 1 two (omega arith) refl 1 t places (omega arith) (omega arith) turn.switch turn.grant
    (turn.others 0 (omega arith) (λ e. omega arith)))

-- for two to four ports
pub firm_comes_with_few_ports : (n rounds : ℕ) → 1 < n → n < 5 → 1 < rounds → Reached rounds n
firm_comes_with_few_ports n rounds ports few two = elim (cases_lt 2 n) [
  | inl three ↦ more_than_two n rounds three few two
  | inr none ↦ let e : 2 ≡ n = omega arith in subst (Reached rounds) e (two_ports rounds two)
]
