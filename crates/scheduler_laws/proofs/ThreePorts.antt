-- The schedule of three ports with two rounds or more at line rate: eleven slots, in which a request is served as late as can
-- be. It is that of the family except for the slots in which a request of input 2 for output 2 is made to wait.
use Rattle.std.proofs.Common.{◌≡◌, ℕ, ◌+◌, ◌<◌, ◌≤◌, List, [], ◌∷◌, ◌∙◌, refl, inl, inr, arith}
use Rattle.pointer_state.specs.Places.{Places, grant_of, accept_of}
use Rattle.service_bound.proofs.PostedRuns.{IsSwitch}
use Rattle.scheduler_laws.proofs.Plans.{Plan}
use Rattle.scheduler_laws.proofs.PlannedRuns.{IsLateBy-before, IsLateBy-last}
use Rattle.scheduler_laws.proofs.ManySlots.{decided_in, IsSwitch-after_in, many_step_of, serving_others}
use Rattle.scheduler_laws.proofs.Shapes.{takes, ends, passes, wins, suits_takes, suits_ends, suits_wins}
use Rattle.scheduler_laws.proofs.MoreShapes.{closes, joins, Descent}
use Rattle.scheduler_laws.proofs.ThreeShapes.{meets, waits, leaves, returns_to, suits_meets, suits_waits, suits_leaves, suits_returns}
use Rattle.scheduler_laws.proofs.ThreeShapes.{wins_meets, meets_closes, joins_waits, waits_leaves, leaves_returns, returns_closes}
use Rattle.scheduler_laws.proofs.ThreeShapes.{settles_meets, settles_waits, settles_leaves, settles_returns}
use Rattle.scheduler_laws.proofs.Settled.{settles_takes, settles_ends, settles_wins}
use Rattle.scheduler_laws.proofs.Followings.{passes_takes, takes_ends}
use Rattle.scheduler_laws.proofs.MoreFollowings.{closes_joins, closes_passes}
use Rattle.scheduler_laws.proofs.MoreRoundsFamily.{IsBase, IsBack, IsLateIn, late_closes, late_joins, late_passes}

-- the last six slots
abbrev rest_of : List Plan
rest_of = leaves ∷ returns_to ∷ closes 2 2 1 0 ∷ passes 2 ∷ takes 0 2 ∷ ends 0 ∷ []

-- those after the second
abbrev falls : List Plan
falls = closes 2 2 1 1 ∷ joins 1 1 ∷ waits ∷ rest_of

-- all eleven
abbrev pub three : List Plan
three = wins 1 2 ∷ meets ∷ falls

-- input 2 goes down first, then input 1, and input 2 once more
abbrev two_first : Descent 3 2
two_first = record { p = 1; x = 2; f = 1; some_p = omega arith; above = omega arith; x_in = omega arith; some_f = omega arith; f_in = omega arith }

abbrev one_first : Descent 3 2
one_first = record { p = 1; x = 1; f = 1; some_p = omega arith; above = omega arith; x_in = omega arith; some_f = omega arith; f_in = omega arith }

abbrev two_last : Descent 3 2
two_last = record { p = 2; x = 2; f = 1; some_p = omega arith; above = omega arith; x_in = omega arith; some_f = omega arith; f_in = omega arith }

-- ---- the pointers along them
-- the last two slots
late_last : (rounds t : ℕ) (places : Places) → 1 < rounds → IsBack 3 3 3 2 places → IsLateIn rounds 3 t places (takes 0 2 ∷ ends 0 ∷ [])
late_last rounds t places two back =
    let base = back.base in
    let it = takes 0 2 in
    let suits = suits_takes 3 places 0 2 (omega arith) (omega arith) (omega arith) (inl refl) back.at in
    let step = many_step_of rounds 3 t places it (omega arith) base.switch suits (omega arith) in
    let after = (decided_in rounds 3 t places it).places in
    let switch = IsSwitch-after_in rounds 3 t places it base.switch in
    let grant : grant_of after 0 0 ≡ 0 = step.grant_stays 0 (λ i is. elim is [ inl s ↦ let e = s.1 in omega arith | inr none ↦ none ]) ∙ base.grant in
    let ending = many_step_of rounds 3 (t + 1) after (ends 0) (omega arith) switch (suits_ends 3 after 0 (omega arith) grant) (omega arith) in
    IsLateBy-before 3 (decided_in rounds 3) t places it (ends 0 ∷ []) (takes_ends 2 (omega arith))
    (serving_others rounds 3 t places it (omega arith) base.switch suits (omega arith) 2 (omega arith) (inl (refl, refl)) (settles_takes 2))
    (IsLateBy-last 3 (decided_in rounds 3) (t + 1) after (ends 0) (ending.serving (settles_ends 0)) (inl (refl, refl)))

-- the slot in which input 2 takes output 1 while its request for output 2 waits, and those after it
late_returns : (rounds t : ℕ) (places : Places) → 1 < rounds → IsSwitch 3 places → grant_of places 0 0 ≡ 2 → accept_of places 0 0 ≡ 2
    → grant_of places 2 0 ≡ 0 → accept_of places 2 0 ≡ 0 → IsLateIn rounds 3 t places (returns_to ∷ closes 2 2 1 0 ∷ passes 2 ∷ takes 0 2 ∷ ends 0 ∷ [])
late_returns rounds t places two switch grant at granting other =
    let it = returns_to in
    let suits = suits_returns places at granting other in
    let step = many_step_of rounds 3 t places it (omega arith) switch suits (omega arith) in
    let after = (decided_in rounds 3 t places it).places in
    let later = passes 2 ∷ takes 0 2 ∷ ends 0 ∷ [] in
    let next : IsBase 3 2 2 2 1 after = record {
      switch = IsSwitch-after_in rounds 3 t places it switch;
      grant = step.grant_stays 0
          (λ i is. elim is [ inl s ↦ let e = s.1 in omega arith | inr more ↦ elim more [ inl s ↦ let e = s.1 in omega arith | inr none ↦ none ] ]) ∙ grant;
      fresh = λ i i_low i_high. absurd (omega arith);
    } in
    IsLateBy-before 3 (decided_in rounds 3) t places it (closes 2 2 1 0 ∷ later) returns_closes
    (serving_others rounds 3 t places it (omega arith) switch suits (omega arith) 2 (omega arith) (inl (refl, refl)) settles_returns)
    (late_closes rounds 3 2 two refl (omega arith) two_last 0 later (inl refl) (closes_passes 2 2 1 (omega arith) (omega arith))
    (λ t after closed. late_passes rounds 3 2 two refl (omega arith) 2 (takes 0 2 ∷ ends 0 ∷ []) (omega arith) (omega arith)
    (passes_takes 2 (omega arith)) (λ t after back. late_last rounds t after two back) t after (closed.0.switch, closed.0.grant))
    (t + 1) after (record {
      base = next;
      beyond = omega arith;
      at = step.accepted 2 1 (inr (inl (refl, refl)));
      held = λ yes. step.granted 2 1 (inr (inl (refl, refl)));
    }))

-- the slot in which input 1 takes output 0, and those after it
late_leaves : (rounds t : ℕ) (places : Places) → 1 < rounds → IsSwitch 3 places → grant_of places 0 0 ≡ 1 → IsLateIn rounds 3 t places rest_of
late_leaves rounds t places two switch grant =
    let it = leaves in
    let suits = suits_leaves places grant in
    let step = many_step_of rounds 3 t places it (omega arith) switch suits (omega arith) in
    let after = (decided_in rounds 3 t places it).places in
    IsLateBy-before 3 (decided_in rounds 3) t places it (returns_to ∷ closes 2 2 1 0 ∷ passes 2 ∷ takes 0 2 ∷ ends 0 ∷ [])
    leaves_returns
    (serving_others rounds 3 t places it (omega arith) switch suits (omega arith) 1 (omega arith) (inr (inl (refl, refl))) settles_leaves)
    (late_returns rounds (t + 1) after two (IsSwitch-after_in rounds 3 t places it switch) (step.granted 1 0 (inl (refl, refl)))
    (step.accepted 0 1 (inr (inl (refl, refl)))) (step.granted 2 2 (inr (inr (inl (refl, refl))))) (step.accepted 2 2 (inr (inr (inl (refl, refl))))))

-- the slot in which a request of input 2 for output 2 waits, and those after it
late_waits : (rounds t : ℕ) (places : Places) → 1 < rounds → IsSwitch 3 places → grant_of places 0 0 ≡ 1 → accept_of places 1 0 ≡ 2
    → grant_of places 2 0 ≡ 0 → IsLateIn rounds 3 t places (waits ∷ rest_of)
late_waits rounds t places two switch grant at held =
    let it = waits in
    let suits = suits_waits places grant at held in
    let step = many_step_of rounds 3 t places it (omega arith) switch suits (omega arith) in
    let after = (decided_in rounds 3 t places it).places in
    let granting : grant_of after 0 0 ≡ 1 = step.grant_stays 0
    (λ i is. elim is [ inl s ↦ let e = s.1 in omega arith | inr more ↦ elim more [ inl s ↦ let e = s.1 in omega arith | inr none ↦ none ] ]) ∙ grant in
    IsLateBy-before 3 (decided_in rounds 3) t places it rest_of waits_leaves
    (serving_others rounds 3 t places it (omega arith) switch suits (omega arith) 1 (omega arith) (inr (inl (refl, refl))) settles_waits)
    (late_leaves rounds (t + 1) after two (IsSwitch-after_in rounds 3 t places it switch) granting)

-- the slot in which input 2 takes output 1, and those after it
late_meets : (rounds t : ℕ) (places : Places) → 1 < rounds → IsBase 3 1 1 3 1 places → accept_of places 0 0 ≡ 2 → IsLateIn rounds 3 t places (meets ∷ falls)
late_meets rounds t places two base at =
    let it = meets in
    let suits = suits_meets places at (base.fresh 2 (omega arith) (omega arith)) in
    let step = many_step_of rounds 3 t places it (omega arith) base.switch suits (omega arith) in
    let after = (decided_in rounds 3 t places it).places in
    let next : IsBase 3 1 1 2 1 after = record {
      switch = IsSwitch-after_in rounds 3 t places it base.switch;
      grant = step.grant_stays 0
          (λ i is. elim is [ inl s ↦ let e = s.1 in omega arith | inr more ↦ elim more [ inl s ↦ let e = s.1 in omega arith | inr none ↦ none ] ]) ∙ base.grant;
      fresh = λ i i_low i_high. step.accept_stays i
          (λ j is. elim is [ inl s ↦ let e = s.0 in omega arith | inr more ↦ elim more [ inl s ↦ let e = s.0 in omega arith | inr none ↦ none ] ])
          ∙ base.fresh i i_low (omega arith);
    } in
    IsLateBy-before 3 (decided_in rounds 3) t places it falls meets_closes
    (serving_others rounds 3 t places it (omega arith) base.switch suits (omega arith) 2 (omega arith) (inl (refl, refl)) settles_meets)
    (late_closes rounds 3 2 two refl (omega arith) two_first 1 (joins 1 1 ∷ waits ∷ rest_of) (inr refl)
    (closes_joins 2 2 1 1 (omega arith) (omega arith) (omega arith) refl)
    (λ t after closed. late_joins rounds 3 2 two refl (omega arith) one_first t after (waits ∷ rest_of) (omega arith) closed.0 joins_waits
    (λ after going stays. late_waits rounds (t + 1) after two going.base.switch going.base.grant going.at (stays 2 (λ e. omega arith) ∙ closed.1)))
    (t + 1) after (record {
      base = next;
      beyond = omega arith;
      at = step.accepted 2 1 (inr (inl (refl, refl)));
      held = λ yes. step.granted 2 1 (inr (inl (refl, refl)));
    }))

-- where output 0 and all inputs point at port 1, and output 1 at port 0
pub late_three : (rounds t : ℕ) (places : Places) → 1 < rounds → IsBase 3 1 1 3 1 places → accept_of places 0 0 ≡ 1 → grant_of places 1 0 ≡ 0
    → IsLateIn rounds 3 t places three
late_three rounds t places two base at zero_at =
    let first = wins 1 2 in
    let suits = suits_wins 3 places 1 2 (omega arith) (omega arith) (omega arith) at zero_at in
    let step = many_step_of rounds 3 t places first (omega arith) base.switch suits (omega arith) in
    let after = (decided_in rounds 3 t places first).places in
    let fresh : (i : ℕ) → 1 ≤ i → i < 3 → accept_of after i 0 ≡ 1 = λ i i_low i_high. step.accept_stays i
    (λ j is. elim is [ inl s ↦ let e = s.0 in omega arith | inr none ↦ none ]) ∙ base.fresh i i_low i_high in
    let next : IsBase 3 1 1 3 1 after = record {
      switch = IsSwitch-after_in rounds 3 t places first base.switch;
      grant = step.grant_stays 0 (λ i is. elim is [ inl s ↦ let e = s.1 in omega arith | inr none ↦ none ]) ∙ base.grant;
      fresh = fresh;
    } in
    IsLateBy-before 3 (decided_in rounds 3) t places first (meets ∷ falls) wins_meets
    (serving_others rounds 3 t places first (omega arith) base.switch suits (omega arith) 1 (omega arith) (inl (refl, refl)) (settles_wins 1 2))
    (late_meets rounds (t + 1) after two next (step.accepted 0 1 (inl (refl, refl))))
