-- Openings: from all pointers at port 0 and no requests to where the windows of the families begin, at line rate.
use Rattle.std.proofs.Common.{◌≡◌, ℕ, zero, suc, ◌+◌, ◌-◌, ◌%◌, ◌<◌, ◌≤◌, ◌∙◌, List, ◌∷◌, length, drop, refl, ap, sym, subst, inl, inr, arith}
use Rattle.std.proofs.Math.Nat.{mod-eq_of_lt}
use Rattle.std.proofs.lemmas.Bool.{cases_lt}
use Rattle.std_lemmas.proofs.Numbers.{mod_once}
use Rattle.rotating_pick.specs.declared.limits.TheConstants.{MAX_PORTS}
use Rattle.pointer_state.specs.Places.{Places, places_at_first, grant_of, accept_of}
use Rattle.pointer_state.proofs.Moves.{AreAtPorts-at_first}
use Rattle.pointer_state.proofs.Tables.{place_of-at_first}
use Rattle.eslip_rounds.specs.Schedules.{DecidedSlot}
use Rattle.service_bound.specs.Waits.{longest_service_in_one_round}
use Rattle.service_bound.proofs.PostedRuns.{IsSwitch}
use Rattle.scheduler_laws.specs.Reached.{AreFedAtLineRate, ComesLastAtLineRate}
use Rattle.scheduler_laws.proofs.Plans.{Plan}
use Rattle.scheduler_laws.proofs.PlannedSlots.{decided, step_of, IsSwitch-after}
use Rattle.scheduler_laws.proofs.NextPlans.{Follows, Starts}
use Rattle.scheduler_laws.proofs.PlannedRuns.{IsOneEach, Leads, leads_none, leads_before}
use Rattle.scheduler_laws.proofs.OneRoundRuns.{IsLate, comes}
use Rattle.scheduler_laws.proofs.Shapes.{nothing, ends, again, crosses, suits_ends, suits_again}
use Rattle.scheduler_laws.proofs.Followings.{nothing_ends, ends_first, ends_ends, ends_again, again_takes, again_wins}
use Rattle.scheduler_laws.proofs.OneRoundFamily.{turns, length-boths, length-all, IsBeginning, four_on, three, late_four_on, late_three}

-- the k inputs from x on take output 0, then input 0 does, and then come the rest
abbrev pub openings : ℕ → ℕ → List Plan → List Plan
openings x zero rest = again ∷ rest
openings x (suc k) rest = ends x ∷ openings (x + 1) k rest

-- each input asks for one output at most
pub starts_openings : (x k : ℕ) (rest : List Plan) → Starts IsOneEach (openings x k rest)
starts_openings x zero rest = ((λ e. refl, (λ e. refl, tt)), ((λ e. refl, (λ e. refl, tt)), tt))
starts_openings x (suc k) rest = ((λ e. refl, (λ e. refl, tt)), ((λ e. refl, (λ e. refl, tt)), tt))

-- the opening is at line rate
pub follows_openings : (x k : ℕ) (rest : List Plan) → 1 < x + suc k → Starts (Follows (ends x)) (openings (x + 1) k rest)
follows_openings zero zero rest more = absurd (omega arith)
follows_openings zero (suc k) rest more = ends_first
follows_openings (suc x) zero rest more = ends_again (suc x) (omega arith)
follows_openings (suc x) (suc k) rest more = ends_ends (suc x) (omega arith)

-- before it nothing waits
pub starts_first : (n : ℕ) (rest : List Plan) → 1 < n → Starts (Follows nothing) (openings 0 n rest)
starts_first n rest more = let e : n ≡ suc (n - 1) = omega arith in subst (λ k. Starts (Follows nothing) (openings 0 k rest)) (sym e) nothing_ends

-- Output 0 points at port x, the other outputs at port 0, and the inputs below x at port 1. A port n is port 0.
record IsOpened (n : ℕ) (places : Places) (x : ℕ) : Type 0 where
  switch : IsSwitch n places
  grant : grant_of places 0 0 ≡ x % n
  others : (y : ℕ) → 0 < y → grant_of places y 0 ≡ 0
  accepts : (i : ℕ) → i < x → accept_of places i 0 ≡ 1 % n

module _ (n : ℕ) (more : 1 < n) (rest : List Plan) (starts : Starts (Follows again) rest) where
  -- there are ports
  some : 0 < n
  some = omega arith

  -- the opening leads to where the window begins
  opens : (k x t : ℕ) (places : Places) → x + k ≡ n → IsOpened n places x
      → (leads : Leads n (decided n) t places (openings x k rest) rest) × IsBeginning n leads.after × (leads.count ≡ suc k)
  opens zero x t places sum opened =
      let same : x ≡ n = omega arith in
      let round : x % n ≡ 0 = ap (λ v. v % n) same ∙ mod_once n n (omega arith) (omega arith) ∙ omega arith in
      let step = step_of n t places again some opened.switch (suits_again n places some (opened.grant ∙ round)) in
      let after = (decided n t places again).places in (
        leads_before n (decided n) t places again rest rest (record { serving = step.serving; follows = starts }) (leads_none n (decided n) (t + 1) after rest),
        λ m. record {
          switch = IsSwitch-after n t places again opened.switch;
          grant = step.granted 0 0 (inl (refl, refl));
          beyond = omega arith;
          accept = step.accepted 0 0 (inl (refl, refl));
          fresh = λ i late i_in. step.accept_stays i (λ j is. elim is [ inl s ↦ let e = s.0 in omega arith | inr none ↦ none ])
              ∙ opened.accepts i (omega arith) ∙ mod-eq_of_lt (omega arith);
          held = λ yes. step.grant_stays m (λ i is. elim is [ inl s ↦ let e = s.1 in omega arith | inr none ↦ none ]) ∙ opened.others m yes;
        },
        refl,
      )
  opens (suc k) x t places sum opened =
      let x_in : x < n = omega arith in
      let step = step_of n t places (ends x) some opened.switch (suits_ends n places x x_in (opened.grant ∙ mod-eq_of_lt x_in)) in
      let after = (decided n t places (ends x)).places in
      let next : IsOpened n after (x + 1) = record {
        switch = IsSwitch-after n t places (ends x) opened.switch;
        grant = step.granted x 0 (inl (refl, refl));
        others = λ y yes. step.grant_stays y (λ i is. elim is [ inl s ↦ let e = s.1 in omega arith | inr none ↦ none ]) ∙ opened.others y yes;
        accepts = λ i below. elim (cases_lt i x) [
          | inl before ↦ step.accept_stays i (λ j is. elim is [ inl s ↦ let e = s.0 in omega arith | inr none ↦ none ]) ∙ opened.accepts i before
          | inr last ↦ let same : x ≡ i = omega arith in subst (λ v. accept_of after v 0 ≡ 1 % n) same (step.accepted x 0 (inl (refl, refl)))
        ];
      } in
      let later = opens k (x + 1) (t + 1) after (omega arith) next in (
        leads_before n (decided n) t places (ends x) (openings (x + 1) k rest) rest
            (record { serving = step.serving; follows = follows_openings x k rest (omega arith) }) later.0,
        later.1,
        ap suc {x = later.0.count} later.2,
      )

  -- all pointers are at port 0 at first
  IsOpened-at_first : n ≤ MAX_PORTS → IsOpened n (places_at_first n) 0
  unfolding places_at_first
  IsOpened-at_first size = record {
    switch = record { at_ports = AreAtPorts-at_first n some size; ports = refl };
    grant = place_of-at_first 0 0 ∙ sym (mod-eq_of_lt some);
    others = λ y yes. place_of-at_first 0 y;
    accepts = λ i below. absurd (omega arith);
  }

  -- what is late from where the openings lead comes in a schedule from all pointers at port 0
  late_comes : n ≤ MAX_PORTS → ((t : ℕ) (places : Places) → IsBeginning n places → IsLate n t places rest)
      → (slots : List DecidedSlot) × AreFedAtLineRate n slots × ComesLastAtLineRate n 1 (n + 1) slots × (length (drop (n + 1) slots) ≡ length rest)
  late_comes size late =
      let opened = IsOpened-at_first size in
      let found = opens n 0 0 (places_at_first n) (omega arith) opened in
      let leads = found.0 in
      let beginning : IsBeginning n leads.after = found.1 in
      let e : leads.count ≡ n + 1 = found.2 ∙ omega arith in
      subst (λ c. (slots : List DecidedSlot) × AreFedAtLineRate n slots × ComesLastAtLineRate n 1 c slots × (length (drop c slots) ≡ length rest)) e
      (comes n (openings 0 n rest) rest (record {
        switch = opened.switch;
        one = starts_openings 0 n rest;
        first = starts_first n rest more;
        leads = leads;
        later = (beginning 0).switch;
      }) (late leads.count leads.after beginning))

-- the window is reached at line rate
abbrev Reached : ℕ → Type 0
Reached n = (slots : List DecidedSlot) × AreFedAtLineRate n slots × ComesLastAtLineRate n 1 (n + 1) slots
    × (length (drop (n + 1) slots) + 1 ≡ longest_service_in_one_round n)

-- so many slots are those of four ports or more
length-four_on : (n : ℕ) → 3 < n → length (four_on n) ≡ n - 1 + length (turns n 1 2 (n - 2))
length-four_on n more = let all = length-boths 1 (n - 4) 3 (crosses (n - 1) 1 2 ∷ turns n 1 2 (n - 2)) in omega arith

-- four ports or more
four_on_comes : (n : ℕ) → 3 < n → n ≤ MAX_PORTS → Reached n
four_on_comes n more size =
    let found = late_comes n (omega arith) (four_on n) again_takes size (λ t places begins. late_four_on n t places more begins) in
    (found.0, found.1, found.2, ap (λ l. l + 1) (found.3 ∙ length-four_on n more) ∙ length-all n (omega arith))

-- three ports
three_comes : Reached 3
three_comes =
    let found = late_comes 3 (omega arith) three (again_wins 1 1 (omega arith)) (omega arith) late_three in
    (found.0, found.1, found.2, ap (λ l. l + 1) found.3 ∙ length-all 3 (omega arith))

-- for three ports or more
pub one_comes_at_line_rate : (n : ℕ) → 2 < n → n ≤ MAX_PORTS → Reached n
one_comes_at_line_rate n two size = elim (cases_lt 3 n) [
  | inl more ↦ four_on_comes n more size
  | inr few ↦ let e : 3 ≡ n = omega arith in subst Reached e three_comes
]
