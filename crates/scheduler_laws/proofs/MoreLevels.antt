-- The levels of the family of more rounds, and the slots before them.
use Rattle.std.proofs.Common.{◌≡◌, ℕ, zero, suc, ◌+◌, ◌-◌, ◌%◌, ◌<◌, ◌≤◌, ◌∙◌, List, [], ◌∷◌, refl, ap, sym, subst, inl, inr, arith}
use Rattle.std.proofs.Math.Nat.{mod-eq_of_lt}
use Rattle.std.proofs.lemmas.Bool.{cases_lt}
use Rattle.std_lemmas.proofs.Numbers.{mod_once}
use Rattle.rotating_pick.specs.Rotation.{distance}
use Rattle.pointer_state.specs.Places.{Places, grant_of, accept_of}
use Rattle.scheduler_laws.proofs.Plans.{Plan}
use Rattle.scheduler_laws.proofs.NextPlans.{Follows, Starts}
use Rattle.scheduler_laws.proofs.PlannedRuns.{IsLateBy-before, IsLateBy-last}
use Rattle.scheduler_laws.proofs.ManySlots.{decided_in, IsSwitch-after_in, many_step_of, serving_others}
use Rattle.scheduler_laws.proofs.Shapes.{takes, ends, passes, suits_takes, suits_ends}
use Rattle.scheduler_laws.proofs.MoreShapes.{shares, closes, resets, readies, readies_too, crosses_by, Descent, suits_readies}
use Rattle.scheduler_laws.proofs.MoreShapes.{suits_readies_too, suits_crosses_by}
use Rattle.scheduler_laws.proofs.Followings.{takes_takes, passes_takes, takes_ends}
use Rattle.scheduler_laws.proofs.Settled.{settles_takes, settles_ends, settles_crosses, settles_readies, settles_readies_too}
use Rattle.scheduler_laws.proofs.MoreFollowings.{shares_shares, shares_closes, passes_resets, resets_resets, resets_takes, resets_readies}
use Rattle.scheduler_laws.proofs.MoreFollowings.{takes_readies, resets_readies_too, readies_shares, readies_too_shares, crosses_by_shares}
use Rattle.scheduler_laws.proofs.OneRoundFamily.{downs, starts_more}
use Rattle.scheduler_laws.proofs.MoreRoundsFamily.{before, before_other, climbs, level, backs, levels, body, starts_sharings, starts_more_sharings}
use Rattle.scheduler_laws.proofs.MoreRoundsFamily.{starts_levels, starts_lowers, IsBase, IsGoing, IsBack, IsLateIn, AreLateIn, late_shares}
use Rattle.scheduler_laws.proofs.MoreRoundsFamily.{late_level, late_resets}

module _ (rounds n l : ℕ) (two : 1 < rounds) (sum : l + 1 ≡ n) (high : 2 < l) where
  -- there are ports
  some : 0 < n
  some = omega arith

  -- there are rounds
  some_rounds : 0 < rounds
  some_rounds = omega arith

  -- input 0 goes down k outputs from output y on
  late_lowers : (p : ℕ) (rest : List Plan) → 0 < p → (k y : ℕ) → y + k ≤ n → ((a : ℕ) → a + 1 ≡ y + k → Starts (Follows (takes 0 a)) rest)
      → AreLateIn rounds n (IsBack n p p (y + k)) rest → AreLateIn rounds n (IsBack n p p y) (downs 0 y k rest)
  late_lowers p rest some_p zero y y_in starts then t places back =
      let e : y ≡ y + 0 = omega arith in then t places (subst (λ v. IsBack n p p v places) e back)
  late_lowers p rest some_p (suc k) y y_in starts then t places back =
      let it = takes 0 y in
      let base = back.base in
      let some_y : 0 < y = omega arith in
      let e : y + suc k ≡ y + 1 + k = omega arith in
      let suits = suits_takes n places 0 y some some_y (omega arith) (inl refl) (back.at ∙ mod-eq_of_lt (omega arith)) in
      let step = many_step_of rounds n t places it some base.switch suits some_rounds in
      let after = (decided_in rounds n t places it).places in
      let next : IsBack n p p (y + 1) after = record {
        base = record {
          switch = IsSwitch-after_in rounds n t places it base.switch;
          grant = step.grant_stays 0 (λ i is. elim is [ inl s ↦ let e = s.1 in omega arith | inr none ↦ none ]) ∙ base.grant;
          fresh = λ i i_low i_high. step.accept_stays i (λ j is. elim is [ inl s ↦ let e = s.0 in omega arith | inr none ↦ none ]) ∙ base.fresh i i_low i_high;
        };
        beyond = omega arith;
        at = step.accepted 0 y (inl (refl, refl));
        held = λ yes. elim (cases_lt 2 y) [
          | inl later ↦ step.grant_stays 2 (λ i is. elim is [ inl s ↦ let e = s.1 in omega arith | inr none ↦ none ]) ∙ back.held later
          | inr now ↦ let same : y ≡ 2 = omega arith in
              subst (λ v. grant_of after v 0 ≡ 1) same (step.granted 0 y (inl (refl, refl)) ∙ mod-eq_of_lt (omega arith))
        ];
      } in
      IsLateBy-before n (decided_in rounds n) t places it (downs 0 (y + 1) k rest) (follows some_y k starts)
      (serving_others rounds n t places it some base.switch suits some_rounds y some_y (inl (refl, refl)) (settles_takes y))
      (late_lowers p rest some_p k (y + 1) (omega arith) (λ a is. starts a (omega arith)) (subst (λ v. AreLateIn rounds n (IsBack n p p v) rest) e then)
      (t + 1) after next) where
        follows : 0 < y → (k : ℕ) → ((a : ℕ) → a + 1 ≡ y + suc k → Starts (Follows (takes 0 a)) rest) → Starts (Follows (takes 0 y)) (downs 0 (y + 1) k rest)
        follows some_y zero starts = starts y (omega arith)
        follows some_y (suc k) starts = takes_takes 0 y some_y

  -- input 0 goes down k outputs from output y on, while the k inputs after w take output 1
  late_backs : (p w : ℕ) (rest : List Plan) (k y : ℕ) → y + k ≤ l → w + 1 + k ≤ n → ((a v : ℕ) → a + 1 ≡ y + k → Starts (Follows (resets a v)) rest)
      → AreLateIn rounds n (IsBack n p (w + 1) (y + k)) rest → AreLateIn rounds n (IsBack n p (w + 1 + k) y) (backs (w + 1) y k rest)
  late_backs p w rest zero y y_in w_in starts then t places back =
      let e : y ≡ y + 0 = omega arith in
      let d : w + 1 + 0 ≡ w + 1 = omega arith in
      then t places (subst (λ v. IsBack n p (w + 1) v places) e (subst (λ v. IsBack n p v y places) d back))
  late_backs p w rest (suc k) y y_in w_in starts then t places back =
      let e : y + suc k ≡ y + 1 + k = omega arith in
      let d : w + 1 + suc k ≡ w + 1 + k + 1 = omega arith in
      late_resets rounds n l two sum (omega arith) p y (w + 1 + k) (backs (w + 1) (y + 1) k rest) (omega arith) (omega arith) (omega arith) (follows k starts)
      (late_backs p w rest k (y + 1) (omega arith) (omega arith) (λ a v is. starts a v (omega arith))
      (subst (λ v. AreLateIn rounds n (IsBack n p (w + 1) v) rest) e then))
      t places (subst (λ v. IsBack n p v y places) d back) where
        follows : (k : ℕ) → ((a v : ℕ) → a + 1 ≡ y + suc k → Starts (Follows (resets a v)) rest)
            → Starts (Follows (resets y (w + 1 + k))) (backs (w + 1) (y + 1) k rest)
        follows zero starts = starts y (w + 1 + 0) (omega arith)
        follows (suc k) starts = resets_resets y (w + 1 + suc k) (y + 1) (w + 1 + k) (omega arith) (omega arith)

  -- input 0 takes the last output, and input 1 output 2, so that the last input's request for it waits
  late_readies : (p w : ℕ) (rest : List Plan) → 1 < w → Starts (Follows (readies l)) rest → AreLateIn rounds n (IsBase n p w n 2) rest
      → AreLateIn rounds n (IsBack n p w l) (readies l ∷ rest)
  late_readies p w rest beyond starts then t places back =
      let it = readies l in
      let base = back.base in
      let suits = suits_readies n places l high (omega arith) (back.at ∙ mod-eq_of_lt (omega arith)) (back.held high) in
      let step = many_step_of rounds n t places it some base.switch suits some_rounds in
      let after = (decided_in rounds n t places it).places in
      IsLateBy-before n (decided_in rounds n) t places it rest starts
      (serving_others rounds n t places it some base.switch suits some_rounds l (omega arith) (inl (refl, refl)) (settles_readies l))
      (then (t + 1) after (record {
        switch = IsSwitch-after_in rounds n t places it base.switch;
        grant = step.grant_stays 0
            (λ i is. elim is [ inl s ↦ let e = s.1 in omega arith | inr more ↦ elim more [ inl s ↦ let e = s.1 in omega arith | inr none ↦ none ] ])
            ∙ base.grant;
        fresh = λ i i_low i_high. step.accept_stays i
            (λ j is. elim is [ inl s ↦ let e = s.0 in omega arith | inr more ↦ elim more [ inl s ↦ let e = s.0 in omega arith | inr none ↦ none ] ])
            ∙ base.fresh i i_low i_high;
      }))

  -- the same while input 2 takes output 1
  late_readies_too : (p : ℕ) (rest : List Plan) → Starts (Follows (readies_too l 2)) rest → AreLateIn rounds n (IsBase n p 2 n 2) rest
      → AreLateIn rounds n (IsBack n p 3 l) (readies_too l 2 ∷ rest)
  late_readies_too p rest starts then t places back =
      let it = readies_too l 2 in
      let base = back.base in
      let suits = suits_readies_too n places l high (omega arith) (back.at ∙ mod-eq_of_lt (omega arith)) (back.held high) in
      let step = many_step_of rounds n t places it some base.switch suits some_rounds in
      let after = (decided_in rounds n t places it).places in
      IsLateBy-before n (decided_in rounds n) t places it rest starts
      (serving_others rounds n t places it some base.switch suits some_rounds l (omega arith) (inl (refl, refl)) (settles_readies_too l 2))
      (then (t + 1) after (record {
        switch = IsSwitch-after_in rounds n t places it base.switch;
        grant = step.grant_stays 0 (λ i is. elim is [
          | inl s ↦ let e = s.1 in omega arith
          | inr more ↦ elim more [ inl s ↦ let e = s.1 in omega arith | inr last ↦ elim last [ inl s ↦ let e = s.1 in omega arith | inr none ↦ none ] ]
        ]) ∙ base.grant;
        fresh = λ i i_low i_high. elim (cases_lt 2 i) [
          | inl later ↦ step.accept_stays i (λ j is. elim is [
            | inl s ↦ let e = s.0 in omega arith
            | inr more ↦ elim more [ inl s ↦ let e = s.0 in omega arith | inr last ↦ elim last [ inl s ↦ let e = s.0 in omega arith | inr none ↦ none ] ]
          ]) ∙ base.fresh i later i_high
          | inr here ↦ let same : 2 ≡ i = omega arith in
              subst (λ v. accept_of after v 0 ≡ 2) same (step.accepted 2 1 (inr (inr (inl (refl, refl)))) ∙ mod-eq_of_lt (omega arith))
        ];
      }))

  -- a level that begins with the last input's request for output 2
  late_enters : (p k : ℕ) (rest : List Plan) → 1 < p → p + k ≡ l → Starts (Follows (passes p)) rest → AreLateIn rounds n (IsBack n (p + 1) n 2) rest
      → AreLateIn rounds n (IsBase n p p n 2) (shares l l 2 ∷ level l p 2 k rest)
  late_enters p k rest some_p all starts then t places base =
      let u = before p k in
      let d : Descent n l = record { p = p; x = l; f = 2; some_p = omega arith; above = omega arith; x_in = omega arith; some_f = omega arith; f_in = high } in
      late_shares rounds n l two sum (omega arith) d 2 (level l p 2 k rest) high
      (starts_sharings (Follows (shares l l 2)) l l (2 + 1) (l - (2 + 1)) (closes l l 2 u ∷ climbs l p 2 k (passes p ∷ rest))
      (shares_shares l l 2 (omega arith) (omega arith) (omega arith))
      (shares_closes l l 2 2 u (omega arith) (omega arith) (omega arith) (before_other p k l (omega arith) (sym all))))
      (late_level rounds n l two sum (omega arith) d k rest refl all starts then) t places (record {
        base = record { switch = base.switch; grant = base.grant; fresh = λ i i_low i_high. base.fresh i i_low (omega arith) };
        beyond = omega arith;
        at = base.fresh l (omega arith) (omega arith);
        held = λ none. absurd (omega arith);
      })

  -- the slot of input p is followed by slots in which others take output 1
  starts_passes : (p w k : ℕ) (rest : List Plan) → 0 < k → 0 < w → 0 < p → Starts (Follows (passes p)) (backs w 2 k rest)
  starts_passes p w zero rest some_k some_w some_p = absurd (omega arith)
  starts_passes p w (suc k) rest some_k some_w some_p = passes_resets p 2 (w + k) some_p (omega arith)

  -- the levels from p on
  late_levels : (k p : ℕ) → 1 < p → p + k ≡ l → AreLateIn rounds n (IsBase n p p n 2) (levels l p k)
  late_levels zero p more all t places base =
      let same : n ≡ p + 1 = omega arith in
      late_enters p 0 (downs 0 2 (l - 1) (ends 0 ∷ [])) more all
      (starts_more (Follows (passes p)) 0 (l - 1) 2 (ends 0 ∷ []) (omega arith) (passes_takes p (omega arith)))
      (λ t after back. late_lowers (p + 1) (ends 0 ∷ []) (omega arith) (l - 1) 2 (omega arith) (λ a e. takes_ends a (omega arith))
      (λ t places next.
      let round : n % n ≡ 0 = mod_once n n (omega arith) (omega arith) ∙ omega arith in
      let suits = suits_ends n places 0 some (next.base.grant ∙ ap (λ v. v % n) (sym same) ∙ round) in
      IsLateBy-last n (decided_in rounds n) t places (ends 0)
      ((many_step_of rounds n t places (ends 0) some next.base.switch suits some_rounds).serving (settles_ends 0))
      (inl (refl, refl)))
      t after (subst (λ v. IsBack n (p + 1) v 2 after) same back))
      t places base
  late_levels (suc k) p more all t places base =
      let later = readies l ∷ levels l (p + 1) k in
      let back = downs 0 (2 + suc k) (l - (2 + suc k)) later in
      let d : 2 + suc k + (l - (2 + suc k)) ≡ l = omega arith in
      let e : n ≡ p + 1 + suc k = omega arith in
      late_enters p (suc k) (backs (p + 1) 2 (suc k) back) more all (starts_passes p (p + 1) (suc k) back (omega arith) (omega arith) (omega arith))
      (λ t after next. late_backs (p + 1) p back (suc k) 2 (omega arith) (omega arith)
      (λ y v stop. starts_lowers (Follows (resets y v)) (2 + suc k) (l - (2 + suc k)) later (resets_takes y v (2 + suc k) (omega arith))
      (resets_readies y v l (omega arith) (omega arith)))
      (late_lowers (p + 1) later (omega arith) (l - (2 + suc k)) (2 + suc k) (omega arith) (λ a e. takes_readies a l (omega arith) (omega arith))
      (λ t places next. late_readies (p + 1) (p + 1) (levels l (p + 1) k) (omega arith)
      (starts_levels (Follows (readies l)) l (p + 1) k (readies_shares l (omega arith)))
      (late_levels k (p + 1) (omega arith) (omega arith)) t places (subst (λ v. IsBack n (p + 1) (p + 1) v places) d next)))
      t after (subst (λ v. IsBack n (p + 1) v 2 after) e next))
      t places base

  -- the first level
  abbrev first : Descent n l
  first = record { p = 1; x = l; f = 1; some_p = omega arith; above = omega arith; x_in = omega arith; some_f = omega arith; f_in = omega arith }

  -- all levels
  late_body : AreLateIn rounds n (IsGoing n l first 2) (body l)
  late_body =
      let rest = readies_too l 2 ∷ levels l 2 (l - 2) in
      let d : 2 + (l - 2) ≡ l = omega arith in
      let e : n ≡ 3 + (l - 2) = omega arith in
      late_level rounds n l two sum (omega arith) first (l - 1) (backs 3 2 (l - 2) rest) refl (omega arith)
      (starts_passes 1 3 (l - 2) rest (omega arith) (omega arith) (omega arith))
      (λ t after next. late_backs 2 2 rest (l - 2) 2 (omega arith) (omega arith) (λ y v stop. resets_readies_too y v l 2 (omega arith) (omega arith) high)
      (λ t places next. late_readies_too 2 (levels l 2 (l - 2)) (starts_levels (Follows (readies_too l 2)) l 2 (l - 2) (readies_too_shares l 2 (omega arith)))
      (late_levels (l - 2) 2 (omega arith) (omega arith)) t places (subst (λ v. IsBack n 2 3 v places) d next))
      t after (subst (λ v. IsBack n 2 v 2 after) e next))

  -- the slot before the levels, in which the last input's request for output 2 waits
  pub late_crosses : (t : ℕ) (places : Places) → IsBase n 1 1 l 1 places → accept_of places 0 0 ≡ l
      → distance n (accept_of places l 0) 1 ≤ distance n (accept_of places l 0) 2 → IsLateIn rounds n t places (crosses_by l l ∷ body l)
  late_crosses t places base at near =
      let it = crosses_by l l in
      let suits = suits_crosses_by n places l high (omega arith) at near in
      let step = many_step_of rounds n t places it some base.switch suits some_rounds in
      let after = (decided_in rounds n t places it).places in
      let u = before 1 (l - 1) in
      IsLateBy-before n (decided_in rounds n) t places it (body l)
      (starts_more_sharings (Follows it) l l (1 + 1) (l - (1 + 1))
      (closes l l 1 u ∷ climbs l 1 1 (l - 1) (passes 1 ∷ backs 3 2 (l - 2) (readies_too l 2 ∷ levels l 2 (l - 2)))) (omega arith)
      (crosses_by_shares l l (omega arith) (omega arith)))
      (serving_others rounds n t places it some base.switch suits some_rounds l (omega arith) (inl (refl, refl)) (settles_crosses l l))
      (late_body (t + 1) after (record {
        base = record {
          switch = IsSwitch-after_in rounds n t places it base.switch;
          grant = step.grant_stays 0
              (λ i is. elim is [ inl s ↦ let e = s.1 in omega arith | inr more ↦ elim more [ inl s ↦ let e = s.1 in omega arith | inr none ↦ none ] ])
              ∙ base.grant;
          fresh = λ i i_low i_high. step.accept_stays i
              (λ j is. elim is [ inl s ↦ let e = s.0 in omega arith | inr more ↦ elim more [ inl s ↦ let e = s.0 in omega arith | inr none ↦ none ] ])
              ∙ base.fresh i i_low i_high;
        };
        beyond = omega arith;
        at = step.accepted l 1 (inr (inl (refl, refl))) ∙ mod-eq_of_lt (omega arith);
        held = λ yes. step.granted l 1 (inr (inl (refl, refl)));
      }))
