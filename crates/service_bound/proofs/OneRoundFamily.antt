-- A family of windows of one round, for every number of ports, in which a request is served as late as can be.
--
-- Output 0 and all inputs point at port 1. "Input x goes down from output a": in each slot it posts output 0
-- and the output that it points at, a, a + 1, .., n - 1, and takes the latter, until it points at output 0.
-- Input 0 posts output 0 in every slot. First it goes down itself. Then each other input x in turn goes down,
-- and takes output 0 in a slot in which input 0 takes output 1, and input 0 goes down again from output 2.
use Rattle.std.proofs.Common.{◌≡◌, ℕ, zero, suc, ◌+◌, ◌-◌, ◌*◌, ◌<◌, ◌∙◌, List, [], ◌∷◌, length, refl, ap, sym, subst, inl, inr, arith}
use Rattle.std.proofs.Math.Nat.{mod-eq_of_lt}
use Rattle.std.proofs.lemmas.Bool.{cases_lt}
use Rattle.pointer_state.specs.Places.{Places}
use Rattle.service_bound.specs.Waits.{longest_service_in_one_round}
use Rattle.service_bound.proofs.Postings.{Posting, IsPosted, zero_posted}
use Rattle.service_bound.proofs.PostedRuns.{Starts, IsLate, IsLate-last}
use Rattle.service_bound.proofs.Descents.{lowers, passes, downs, length-downs, starts_downs, IsStanding, late_downs, late_passes, served_last_slot, IsBeginning}

-- the turns of the k inputs from p on, and the last slot
abbrev pub turns : ℕ → ℕ → ℕ → List Posting
turns n p zero = lowers 0 0 ∷ []
turns n p (suc k) = downs p 1 (n - 1) (passes p ∷ downs 0 2 (n - 2) (turns n (p + 1) k))

-- all slots for n ports
abbrev pub family : ℕ → List Posting
family n = downs 0 1 (n - 1) (turns n 1 (n - 1))

length-turns : (n k p : ℕ) → length (turns n p k) ≡ k * (n - 1 + (1 + (n - 2))) + 1
length-turns n zero p = omega arith
length-turns n (suc k) p =
    let first = length-downs p (n - 1) 1 (passes p ∷ downs 0 2 (n - 2) (turns n (p + 1) k)) in
    let second = length-downs 0 (n - 2) 2 (turns n (p + 1) k) in
    let rest = length-turns n k (p + 1) in
    omega arith

longest-is : (m n u v : ℕ) → n ≡ m + 2 → u ≡ m + 1 → v ≡ m → u + (u * (u + (1 + v)) + 1) ≡ longest_service_in_one_round n
longest-is m n u v en eu ev = rw (en, eu, ev) (omega arith)

pub length-family : (n : ℕ) → 0 < n → length (family n) ≡ longest_service_in_one_round n
length-family n some =
    let all = length-downs 0 (n - 1) 1 (turns n 1 (n - 1)) ∙ ap (λ l. n - 1 + l) (length-turns n (n - 1) 1) in
    elim (cases_lt 1 n) [
      | inl more ↦ all ∙ longest-is (n - 2) n (n - 1) (n - 2) (omega arith) (omega arith) refl
      | inr one ↦ let e : n ≡ 1 = omega arith in subst (λ m. length (family m) ≡ longest_service_in_one_round m) (sym e) refl
    ]

starts_turns : (P : Posting → Type 0) (n k p : ℕ) → ((next : Posting) → P next) → Starts P (turns n p k)
starts_turns P n zero p each = each (lowers 0 0)
starts_turns P n (suc k) p each = starts_downs P p (n - 1) 1 (passes p ∷ downs 0 2 (n - 2) (turns n (p + 1) k)) (λ b. each (lowers p b)) (each (passes p))

module _ (n : ℕ) where
  one : 0 < 1
  one = omega arith

  -- the turns of the inputs from p on, where output 0 points at p and input 0 has gone down
  late_turns : (k p t : ℕ) (places : Places) → 0 < p → p + k ≡ n → IsStanding n places p p n 0 n 1 → IsLate n 1 t places (turns n p k)
  late_turns zero p t places some sum standing = IsLate-last n 1 t places (lowers 0 0) (served_last_slot n 1 one t places (omega arith) standing.switch)
  late_turns (suc k) p t places some sum standing =
      let p_in : p < n = omega arith in
      let later = turns n (p + 1) k in
      let begins : IsStanding n places p (p + 1) n p 1 1 = record {
        switch = standing.switch;
        grant = standing.grant;
        accept = standing.fresh p (omega arith) p_in ∙ sym (mod-eq_of_lt (omega arith));
        fresh = λ i late i_in. standing.fresh i (omega arith) i_in;
      } in
      late_downs n 1 one p (p + 1) n p 1 (passes p ∷ downs 0 2 (n - 2) later) p_in (inl (omega arith)) (inr (some, omega arith)) (inr refl)
      (inl (refl, inl refl))
      (λ t places standing. late_passes n 1 one (downs 0 2 (n - 2) later) p (p + 1) n n 1 t places some p_in (omega arith) standing
      (starts_downs (λ next. 0 < n) 0 (n - 2) 2 later (λ b. omega arith) (starts_turns (λ next. 0 < n) n k (p + 1) (λ next. omega arith)))
      (λ places next. late_downs n 1 one (p + 1) (p + 1) n 0 1 later (omega arith) (inl (omega arith)) (inl refl) (inl refl)
      (starts_turns (λ next. IsPosted next 0 0) n k (p + 1) zero_posted)
      (λ t places standing. late_turns k (p + 1) t places (omega arith) (omega arith) standing) (n - 2) 2 (t + 1) places (omega arith) (omega arith) next))
      (n - 1) 1 t places (omega arith) (omega arith) begins

  pub late_family : (t : ℕ) (places : Places) → 0 < n → IsBeginning n places → IsLate n 1 t places (family n)
  late_family t places some begins =
      late_downs n 1 one 1 1 n 0 1 (turns n 1 (n - 1)) some (inl (omega arith)) (inl refl) (inl refl)
      (starts_turns (λ next. IsPosted next 0 0) n (n - 1) 1 zero_posted)
      (λ t places standing. late_turns (n - 1) 1 t places (omega arith) (omega arith) standing) (n - 1) 1 t places (omega arith) (omega arith) begins
