-- A family of schedules of one round at line rate, for two ports or more, in which a request is served as late as can be
-- under FIRM: each other input in turn goes down, and input 0 at last. In the slot in which an input takes
-- output 0 the input whose turn is next begins to ask output 0.
use Rattle.std.proofs.Common.{◌≡◌, ℕ, zero, suc, ◌+◌, ◌-◌, ◌*◌, ◌%◌, ◌<◌, ◌≤◌, ◌∙◌, List, [], ◌∷◌, length, drop, refl, ap, sym, subst, inl, inr, arith}
use Rattle.std.proofs.Math.Nat.{mod-eq_of_lt}
use Rattle.std_lemmas.proofs.Numbers.{square-is, mod_once}
use Rattle.rotating_pick.specs.Rotation.{distance}
use Rattle.rotating_pick.specs.declared.limits.TheConstants.{MAX_PORTS}
use Rattle.pointer_state.specs.Places.{grant_of}
use Rattle.eslip_rounds.specs.Schedules.{DecidedSlot}
use Rattle.scheduler_laws.specs.Reached.{AreFedAtLineRate}
use Rattle.scheduler_laws.specs.ReachedByFirm.{ComesLastByFirmAtLineRate}
use Rattle.scheduler_laws.proofs.Plans.{pair, Plan}
use Rattle.scheduler_laws.proofs.PlannedSlots.{AreNear}
use Rattle.scheduler_laws.proofs.NextPlans.{Follows, Starts}
use Rattle.scheduler_laws.proofs.Shapes.{takes, ends, suits_takes, at_first}
use Rattle.scheduler_laws.proofs.OneRoundFamily.{downs, length-downs, starts_more, follows_downs}
use Rattle.scheduler_laws.proofs.FirmSlots.{firm_decided, IsSwitch-after_firm, AreFirmLate, firm_step_of, late_alone}
use Rattle.scheduler_laws.proofs.FirmTurns.{hands, IsTurn, late_hands, late_lowers, firm_late_comes}

-- the input whose turn is first, of the k inputs from x on and input 0
abbrev whose : ℕ → ℕ → ℕ
whose x zero = 0
whose x (suc k) = x

-- the turns of the k inputs from x on, and that of input 0
abbrev turns : ℕ → ℕ → ℕ → List Plan
turns n x zero = downs 0 1 (n - 1) (ends 0 ∷ [])
turns n x (suc k) = downs x 1 (n - 1) (hands x (whose (x + 1) k) ∷ turns n (x + 1) k)

-- so many slots are the turns
length-turns : (n k x : ℕ) → 0 < n → length (turns n x k) ≡ k * n + n
length-turns n zero x some = let down = length-downs 0 (n - 1) 1 (ends 0 ∷ []) in omega arith
length-turns n (suc k) x some =
    let down = length-downs x (n - 1) 1 (hands x (whose (x + 1) k) ∷ turns n (x + 1) k) in
    let rest = length-turns n k (x + 1) some in
    omega arith

-- so many slots are all turns
length-family : (n : ℕ) → 0 < n → length (turns n 1 (n - 1)) ≡ n * n
length-family n some = length-turns n (n - 1) 1 some ∙ square-is n (n - 1) (omega arith)

-- the turns begin with the first output of the first input
starts_turns : (P : Plan → Type 0) (n k x : ℕ) → 1 < n → P (takes (whose x k) 1) → Starts P (turns n x k)
starts_turns P n zero x two here = starts_more P 0 (n - 1) 1 (ends 0 ∷ []) (omega arith) here
starts_turns P n (suc k) x two here = starts_more P x (n - 1) 1 (hands x (whose (x + 1) k) ∷ turns n (x + 1) k) (omega arith) here

-- after the last output of an input
takes_hands : (x a w : ℕ) → 0 < a → Follows (takes x a) (hands x w)
takes_hands x a w some = record {
  asking = (inr (inr (inl (refl, refl))), tt);
  kept = (inr (inl (refl, refl)), (inr (inr (inl (refl, refl))), (inl (inl (refl, refl)), tt)));
  gains = pair w 0 ∷ [];
  gained = (
    inl (inl (refl, refl), inl (λ e f. omega arith, tt)),
    (inl (inr (inl (refl, refl)), inl (λ e f. omega arith, tt)), (inr (inl (refl, refl)), tt)),
  );
  apart = ((λ e. refl, tt), tt);
  held = tt;
  doubled = tt;
}

-- before the first output of the next input
hands_takes : (x w : ℕ) → 0 < x → (w ≡ x → ⊥) → Follows (hands x w) (takes w 1)
hands_takes x w some other = record {
  asking = (inr (inl (refl, refl)), tt);
  kept = (inr (inl (refl, refl)), (inl (inl (refl, refl)), (inr (inr (inl (refl, refl))), tt)));
  gains = pair w 1 ∷ [];
  gained = (
    inl (inl (refl, refl), inl (λ e f. omega arith, tt)),
    (inl (inr (inr (inl (refl, refl))), inl (λ e f. other e, tt)), (inr (inl (refl, refl)), tt)),
  );
  apart = ((λ e. refl, tt), tt);
  held = tt;
  doubled = tt;
}

-- before the first of all
hands_first : (w : ℕ) → 0 < w → Follows (hands 0 w) (takes w 1)
hands_first w some = record {
  asking = (inl (refl, refl), tt);
  kept = (inl (inl (refl, refl)), (inl (inl (refl, refl)), (inr (inr (inl (refl, refl))), tt)));
  gains = pair 0 0 ∷ pair w 1 ∷ [];
  gained = (
    inr (inl (refl, refl)),
    (inl (inr (inr (inl (refl, refl))), inl (λ e f. omega arith, tt)), (inr (inr (inl (refl, refl))), tt)),
  );
  apart = ((λ e. refl, (λ e. absurd (omega arith), tt)), ((λ e. absurd (omega arith), (λ e. refl, tt)), tt));
  held = tt;
  doubled = tt;
}

module _ (n : ℕ) (two : 1 < n) where
  -- there are ports
  some : 0 < n
  some = omega arith

  -- input x goes down, and output 0 points at it all the while
  late_downs : (x : ℕ) (rest : List Plan) → 0 < x → x < n → Starts (Follows (takes x (n - 1))) rest → AreFirmLate 1 n (IsTurn n x n) rest
      → (k a : ℕ) → a + 1 + k ≡ n → AreFirmLate 1 n (IsTurn n x (a + 1)) (downs x (a + 1) k rest)
  late_downs x rest some_x x_in starts then zero before sum t places turn =
      let e : before + 1 ≡ n = omega arith in
      then t places (subst (λ v. IsTurn n x v places) e turn)
  late_downs x rest some_x x_in starts then (suc k) before sum t places turn =
      let a = before + 1 in
      let some_a : 0 < a = omega arith in
      let a_in : a < n = omega arith in
      let it = takes x a in
      let suits = suits_takes n places x a x_in some_a a_in (inr (some_x, turn.grant)) (turn.accept ∙ mod-eq_of_lt a_in) in
      let step = firm_step_of 1 n t places it some (omega arith) turn.switch suits in
      let after = (firm_decided 1 n t places it).places in
      let near : (v : ℕ) → distance n (grant_of places 0 0) x ≤ distance n (grant_of places 0 0) v = λ v. at_first n
      (grant_of places 0 0) x v x_in turn.grant in
      let nearest : AreNear n places it x 0 = (λ e. near 0, (λ e. near x, (λ e. near x, tt))) in
      let next : IsTurn n x (a + 1) after = record {
        switch = IsSwitch-after_firm 1 n t places it turn.switch;
        grant = step.held x 0 (x_in, some, inr (inl (refl, refl))) nearest (λ is. elim is [ inl s ↦ let e = s.1 in omega arith | inr none ↦ none ]);
        accept = step.accepted x a (inl (refl, refl));
        others = λ i i_in other. step.accept_stays i (λ j is. elim is [ inl s ↦ other s.0 | inr none ↦ none ]) ∙ turn.others i i_in other;
      } in
      late_alone 1 n t places it some (omega arith) turn.switch suits (downs x (a + 1) k rest) refl
      (λ is. elim is [ inl s ↦ let e = s.1 in omega arith | inr none ↦ none ]) (follows_downs x a k (n - 1) rest some_a (omega arith) starts)
      (late_downs x rest some_x x_in starts then k a (omega arith) (t + 1) after next)

  -- the input whose turn is next is one beyond
  whose_next : (k x : ℕ) → x + suc k ≡ n → (x + 1) % n ≡ whose (x + 1) k
  whose_next zero x sum = mod_once n (x + 1) (omega arith) (omega arith) ∙ omega arith
  whose_next (suc k) x sum = mod-eq_of_lt (omega arith)

  -- and another
  whose_other : (k x : ℕ) → 0 < x → x + suc k ≡ n → whose (x + 1) k ≡ x → ⊥
  whose_other zero x some_x sum e = omega arith
  whose_other (suc k) x some_x sum e = omega arith

  -- the turns of the k inputs from x on, and that of input 0
  late_turns : (k x : ℕ) → 0 < x → x + k ≡ n → AreFirmLate 1 n (IsTurn n (whose x k) 1) (turns n x k)
  late_turns zero x some_x sum t places turn =
      late_lowers 1 n (omega arith) two (n - 1) 1 t places (omega arith) (omega arith) turn.switch turn.grant turn.accept
  late_turns (suc k) x some_x sum t places turn =
      let w = whose (x + 1) k in
      late_downs x (hands x w ∷ turns n (x + 1) k) some_x (omega arith) (takes_hands x (n - 1) w (omega arith))
      (late_hands 1 n (omega arith) two x w n (turns n (x + 1) k) some_x (omega arith) (whose_next k x sum)
      (starts_turns (Follows (hands x w)) n k (x + 1) two (hands_takes x w some_x (whose_other k x some_x sum)))
      (late_turns k (x + 1) (omega arith) (omega arith)))
      (n - 1) 0 (omega arith) t places turn

-- the turns of all inputs come at line rate
pub firm_comes_at_line_rate : (n : ℕ) → 1 < n → n ≤ MAX_PORTS
    → (slots : List DecidedSlot) × AreFedAtLineRate n slots × ComesLastByFirmAtLineRate n 1 (n + 1) slots × (length (drop (n + 1) slots) ≡ n * n)
firm_comes_at_line_rate n two size =
    let e : n - 1 ≡ suc (n - 2) = omega arith in
    let whose_is : whose 1 (n - 1) ≡ 1 = ap (whose 1) e in
    let starts = starts_turns (Follows (hands 0 1)) n (n - 1) 1 two
    (subst (λ w. Follows (hands 0 1) (takes w 1)) (sym whose_is) (hands_first 1 (omega arith))) in
    firm_late_comes 1 n (omega arith) two (turns n 1 (n - 1)) starts size (λ l. l ≡ n * n) (length-family n (omega arith))
    (λ t places turn. late_turns n two (n - 1) 1 (omega arith) (omega arith) t places (subst (λ w. IsTurn n w 1 places) (sym whose_is) turn))
