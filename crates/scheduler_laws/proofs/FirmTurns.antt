-- Turns of inputs under FIRM, whatever the number of rounds: the slot between two turns, the turn of input 0
-- at the end, and the opening.
--
-- At first each input in turn takes output 0, and input 0 once more, so that output 0 and all inputs point at port 1. Input 0
-- asks output 0 in every slot from then on. In its turn an input goes down: it asks output 0 and slot by slot the output that
-- it points at, takes the latter, and takes output 0 in the end.
use Rattle.std.proofs.Common.{◌≡◌, ℕ, zero, suc, ◌+◌, ◌-◌, ◌%◌, ◌<◌, ◌≤◌, ◌∙◌, List, [], ◌∷◌, length, drop, refl, ap, sym, subst, inl, inr, arith}
use Rattle.std.proofs.Math.Nat.{mod-eq_of_lt}
use Rattle.std.proofs.lemmas.Bool.{cases_lt, cases_eq}
use Rattle.std_lemmas.proofs.Numbers.{mod_once}
use Rattle.rotating_pick.specs.Rotation.{distance}
use Rattle.rotating_pick.specs.declared.limits.TheConstants.{MAX_PORTS}
use Rattle.pointer_state.specs.Places.{Places, places_at_first, grant_of, accept_of}
use Rattle.pointer_state.proofs.Moves.{AreAtPorts-at_first}
use Rattle.pointer_state.proofs.Tables.{place_of-at_first}
use Rattle.eslip_rounds.specs.Schedules.{DecidedSlot}
use Rattle.service_bound.proofs.PostedRuns.{IsSwitch}
use Rattle.scheduler_laws.specs.Reached.{AreFedAtLineRate}
use Rattle.scheduler_laws.specs.ReachedByFirm.{ComesLastByFirmAtLineRate}
use Rattle.scheduler_laws.proofs.Plans.{pair, Each, Plan, asked}
use Rattle.scheduler_laws.proofs.PlannedSlots.{Suits, AreNear}
use Rattle.scheduler_laws.proofs.NextPlans.{Follows, Starts}
use Rattle.scheduler_laws.proofs.PlannedRuns.{IsOneEach, Leads, leads_none, leads_before}
use Rattle.scheduler_laws.proofs.SecondRounds.{IsSettled}
use Rattle.scheduler_laws.proofs.Shapes.{nothing, takes, ends, suits_takes, suits_ends, at_first}
use Rattle.scheduler_laws.proofs.Settled.{settles_takes, settles_ends}
use Rattle.scheduler_laws.proofs.Followings.{takes_ends, nothing_ends, ends_first, ends_ends}
use Rattle.scheduler_laws.proofs.OneRoundFamily.{downs, follows_downs}
use Rattle.scheduler_laws.proofs.FirmSlots.{firm_decided, IsSwitch-after_firm, IsFirmLate, AreFirmLate, firm_step_of, late_first, late_last, firm_comes}

-- input x takes output 0, which input w begins to ask
abbrev pub hands : ℕ → ℕ → Plan
hands x w = record { asks = pair x 0 ∷ pair w 0 ∷ []; serves = pair x 0 ∷ []; twice = [] }

-- as the window begins
ends_hands : (x w : ℕ) → 0 < x → Follows (ends x) (hands 0 w)
ends_hands x w some = record {
  asking = (inr (inl (refl, refl)), tt);
  kept = (inr (inl (refl, refl)), (inl (inl (refl, refl)), tt));
  gains = pair w 0 ∷ [];
  gained = (
    inl (inl (refl, refl), inl (λ e f. omega arith, tt)),
    (inl (inl (refl, refl), inl (λ e f. omega arith, tt)), (inr (inl (refl, refl)), tt)),
  );
  apart = ((λ e. refl, tt), tt);
  held = tt;
  doubled = tt;
}

-- no further round serves anything
settles_hands : (x w : ℕ) → Each (IsSettled (hands x w)) (asked (hands x w))
settles_hands x w = (inr (x, inl (refl, refl)), (inl (0, inl (refl, refl)), (inr (x, inl (refl, refl)), tt)))

-- output 0 points at the input
pub suits_hands : (n : ℕ) (places : Places) (x w : ℕ) → x < n → grant_of places 0 0 ≡ x → Suits n places (hands x w)
suits_hands n places x w x_in at = record {
  placed = ((x_in, omega arith, inr (inl (refl, refl))), tt);
  near = ((λ e. at_first n (grant_of places 0 0) x 0 x_in at, (λ e. omega arith, (λ e. at_first n (grant_of places 0 0) x w x_in at, tt))), tt);
  taken = ((λ e. inl (omega arith), (λ e. inl (omega arith), (λ e. inl (omega arith), tt))), tt);
  done = (inr (inl (x, inl (refl, refl))), (inl (0, inl (refl, refl)), (inr (inl (x, inl (refl, refl))), tt)));
}

-- Output 0 points at input x, which points at output a, and all other inputs point at port 1. A port n is port 0.
pub record IsTurn (n x a : ℕ) (places : Places) : Type 0 where
  pub switch : IsSwitch n places
  pub grant : grant_of places 0 0 ≡ x
  pub accept : accept_of places x 0 ≡ a % n
  pub others : (i : ℕ) → i < n → (i ≡ x → ⊥) → accept_of places i 0 ≡ 1

module _ (rounds n : ℕ) (some_rounds : 0 < rounds) (ports : 1 < n) where
  -- there are ports
  some : 0 < n
  some = omega arith

  -- input x takes output 0, and it is the turn of the input after it, which output 0 points at then
  pub late_hands : (x w a : ℕ) (rest : List Plan) → 0 < x → x < n → (x + 1) % n ≡ w → Starts (Follows (hands x w)) rest
      → AreFirmLate rounds n (IsTurn n w 1) rest → AreFirmLate rounds n (IsTurn n x a) (hands x w ∷ rest)
  late_hands x w a rest some_x x_in next_is starts then t places turn =
      let next_of : (w < n) × (w ≡ x → ⊥) = elim (cases_lt (x + 1) n) [
        | inl short ↦ let e = mod-eq_of_lt short in (omega arith, λ same. omega arith)
        | inr round ↦ let e = mod_once n (x + 1) (omega arith) (omega arith) in (omega arith, λ same. omega arith)
      ] in
      let it = hands x w in
      let suits = suits_hands n places x w x_in turn.grant in
      let step = firm_step_of rounds n t places it some some_rounds turn.switch suits in
      let after = (firm_decided rounds n t places it).places in
      let stays : (i : ℕ) → i < n → (i ≡ x → ⊥) → accept_of after i 0 ≡ 1 = λ i i_in other. step.accept_stays i
      (λ j is. elim is [ inl s ↦ other s.0 | inr none ↦ none ]) ∙ turn.others i i_in other in
      let next : IsTurn n w 1 after = record {
        switch = IsSwitch-after_firm rounds n t places it turn.switch;
        grant = step.granted x 0 (inl (refl, refl)) ∙ next_is;
        accept = stays w next_of.0 next_of.1 ∙ sym (mod-eq_of_lt ports);
        others = λ i i_in other. elim (cases_eq i x) [
          | inl e ↦ subst (λ v. accept_of after v 0 ≡ 1) (sym e) (step.accepted x 0 (inl (refl, refl)) ∙ mod-eq_of_lt ports)
          | inr aside ↦ stays i i_in aside
        ];
      } in
      late_first rounds n t places it some some_rounds turn.switch suits rest x 0 (settles_hands x w) (inl (refl, refl)) (inr (some_x, refl)) starts
      (then (t + 1) after next)

  -- input 0 goes down from output a, where output 0 points at it, and then takes output 0
  pub late_lowers : (k a t : ℕ) (places : Places) → 0 < a → a + k ≡ n → IsSwitch n places → grant_of places 0 0 ≡ 0 → accept_of places 0 0 ≡ a % n
      → IsFirmLate rounds n t places (downs 0 a k (ends 0 ∷ []))
  late_lowers zero a t places some_a sum switch grant at =
      late_last rounds n t places (ends 0) some some_rounds switch (suits_ends n places 0 some grant) (settles_ends 0) (inl (refl, refl))
  late_lowers (suc k) a t places some_a sum switch grant at =
      let a_in : a < n = omega arith in
      let it = takes 0 a in
      let suits = suits_takes n places 0 a some some_a a_in (inl refl) (at ∙ mod-eq_of_lt a_in) in
      let step = firm_step_of rounds n t places it some some_rounds switch suits in
      let near : distance n (grant_of places 0 0) 0 ≤ distance n (grant_of places 0 0) 0 = at_first n (grant_of places 0 0) 0 0 some grant in
      let nearest : AreNear n places it 0 0 = (λ e. near, (λ e. near, (λ e. near, tt))) in
      late_first rounds n t places it some some_rounds switch suits (downs 0 (a + 1) k (ends 0 ∷ [])) 0 a (settles_takes a) (inl (refl, refl))
      (inl (refl, some_a)) (follows_downs 0 a k (n - 1) (ends 0 ∷ []) some_a (omega arith) (takes_ends (n - 1) (omega arith)))
      (late_lowers k (a + 1) (t + 1) (firm_decided rounds n t places it).places (omega arith) (omega arith) (IsSwitch-after_firm rounds n t places it switch)
      (step.held 0 0 (some, some, inl (refl, refl)) nearest (λ is. elim is [ inl s ↦ let e = s.1 in omega arith | inr none ↦ none ]))
      (step.accepted 0 a (inl (refl, refl))))

-- ---- the opening
-- the k inputs from x on take output 0, then input 0 does, and then come the rest
abbrev pub openings : ℕ → ℕ → List Plan → List Plan
openings x zero rest = hands 0 1 ∷ rest
openings x (suc k) rest = ends x ∷ openings (x + 1) k rest

-- the opening is at line rate
pub follows_openings : (x k : ℕ) (rest : List Plan) → 1 < x + suc k → Starts (Follows (ends x)) (openings (x + 1) k rest)
follows_openings zero zero rest more = absurd (omega arith)
follows_openings zero (suc k) rest more = ends_first
follows_openings (suc x) zero rest more = ends_hands (suc x) 1 (omega arith)
follows_openings (suc x) (suc k) rest more = ends_ends (suc x) (omega arith)

-- each input asks for one output at most
pub starts_openings : (x k : ℕ) (rest : List Plan) → Starts IsOneEach (openings x (suc k) rest)
starts_openings x k rest = ((λ e. refl, (λ e. refl, tt)), ((λ e. refl, (λ e. refl, tt)), tt))

-- Output 0 points at port x, and the inputs below x at port 1. A port n is port 0.
record IsOpened (n : ℕ) (places : Places) (x : ℕ) : Type 0 where
  switch : IsSwitch n places
  grant : grant_of places 0 0 ≡ x % n
  accepts : (i : ℕ) → i < x → accept_of places i 0 ≡ 1

-- so many slots are reached
with_length : (rounds n : ℕ) (rest : List Plan) (P : ℕ → Type 0) → P (length rest)
    → (slots : List DecidedSlot) × AreFedAtLineRate n slots × ComesLastByFirmAtLineRate n rounds (n + 1) slots
    × (length (drop (n + 1) slots) ≡ length rest)
    → (slots : List DecidedSlot) × AreFedAtLineRate n slots × ComesLastByFirmAtLineRate n rounds (n + 1) slots × P (length (drop (n + 1) slots))
with_length rounds n rest P long all = (all.0, all.1, all.2, subst P (sym all.3) long)

module _ (rounds n : ℕ) (some_rounds : 0 < rounds) (ports : 1 < n) (rest : List Plan) (starts : Starts (Follows (hands 0 1)) rest) where
  -- the opening leads to where the window begins
  opens : (k x t : ℕ) (places : Places) → x + k ≡ n → IsOpened n places x
      → (leads : Leads n (firm_decided rounds n) t places (openings x k rest) rest) × IsTurn n 1 1 leads.after × (leads.count ≡ suc k)
  opens zero x t places sum opened =
      let same : x ≡ n = omega arith in
      let some : 0 < n = omega arith in
      let round : x % n ≡ 0 = ap (λ v. v % n) same ∙ mod_once n n (omega arith) (omega arith) ∙ omega arith in
      let it = hands 0 1 in
      let step = firm_step_of rounds n t places it some some_rounds opened.switch (suits_hands n places 0 1 some (opened.grant ∙ round)) in
      let after = (firm_decided rounds n t places it).places in
      let stays : (i : ℕ) → 0 < i → i < n → accept_of after i 0 ≡ 1 = λ i more i_in. step.accept_stays i
      (λ j is. elim is [ inl s ↦ let e = s.0 in omega arith | inr none ↦ none ]) ∙ opened.accepts i (omega arith) in (
        leads_before n (firm_decided rounds n) t places it rest rest (record { serving = step.serving (settles_hands 0 1); follows = starts })
            (leads_none n (firm_decided rounds n) (t + 1) after rest),
        record {
          switch = IsSwitch-after_firm rounds n t places it opened.switch;
          grant = step.granted 0 0 (inl (refl, refl)) ∙ mod-eq_of_lt ports;
          accept = stays 1 (omega arith) ports ∙ sym (mod-eq_of_lt ports);
          others = λ i i_in other. elim (cases_lt 0 i) [
            | inl more ↦ stays i more i_in
            | inr none ↦
                let e : 0 ≡ i = omega arith in
                subst (λ v. accept_of after v 0 ≡ 1) e (step.accepted 0 0 (inl (refl, refl)) ∙ mod-eq_of_lt ports)
          ];
        },
        refl,
      )
  opens (suc k) x t places sum opened =
      let x_in : x < n = omega arith in
      let suits = suits_ends n places x x_in (opened.grant ∙ mod-eq_of_lt x_in) in
      let step = firm_step_of rounds n t places (ends x) (omega arith) some_rounds opened.switch suits in
      let after = (firm_decided rounds n t places (ends x)).places in
      let next : IsOpened n after (x + 1) = record {
        switch = IsSwitch-after_firm rounds n t places (ends x) opened.switch;
        grant = step.granted x 0 (inl (refl, refl));
        accepts = λ i below. elim (cases_lt i x) [
          | inl before ↦ step.accept_stays i (λ j is. elim is [ inl s ↦ let e = s.0 in omega arith | inr none ↦ none ]) ∙ opened.accepts i before
          | inr last ↦ let same : x ≡ i = omega arith in subst (λ v. accept_of after v 0 ≡ 1) same (step.accepted x 0 (inl (refl, refl)) ∙ mod-eq_of_lt ports)
        ];
      } in
      let later = opens k (x + 1) (t + 1) after (omega arith) next in (
        leads_before n (firm_decided rounds n) t places (ends x) (openings (x + 1) k rest) rest
            (record { serving = step.serving (settles_ends x); follows = follows_openings x k rest (omega arith) }) later.0,
        later.1,
        ap suc {x = later.0.count} later.2,
      )

  -- all pointers are at port 0 at first
  IsOpened-at_first : n ≤ MAX_PORTS → IsOpened n (places_at_first n) 0
  unfolding places_at_first
  IsOpened-at_first size = record {
    switch = record { at_ports = AreAtPorts-at_first n (omega arith) size; ports = refl };
    grant = place_of-at_first 0 0 ∙ sym (mod-eq_of_lt (omega arith));
    accepts = λ i below. absurd (omega arith);
  }

  -- What is late from where the openings lead comes in a schedule from all pointers at port 0. What its length has, that of
  -- the window has.
  pub firm_late_comes : n ≤ MAX_PORTS → (P : ℕ → Type 0) → P (length rest)
      → AreFirmLate rounds n (IsTurn n 1 1) rest
      → (slots : List DecidedSlot) × AreFedAtLineRate n slots × ComesLastByFirmAtLineRate n rounds (n + 1) slots × P (length (drop (n + 1) slots))
  firm_late_comes size P long late =
      let opened = IsOpened-at_first size in
      let found = opens n 0 0 (places_at_first n) (omega arith) opened in
      let leads = found.0 in
      let turn : IsTurn n 1 1 leads.after = found.1 in
      let d : n ≡ suc (n - 1) = omega arith in
      let one : Starts IsOneEach (openings 0 n rest) = subst (λ k. Starts IsOneEach (openings 0 k rest)) (sym d) (starts_openings 0 (n - 1) rest) in
      let first : Starts (Follows nothing) (openings 0 n rest) = subst (λ k. Starts (Follows nothing) (openings 0 k rest)) (sym d) nothing_ends in
      let e : leads.count ≡ n + 1 = found.2 ∙ omega arith in
      with_length rounds n rest P long
      (subst
      (λ c. (slots : List DecidedSlot) × AreFedAtLineRate n slots × ComesLastByFirmAtLineRate n rounds c slots × (length (drop c slots) ≡ length rest)) e
      (firm_comes rounds n (openings 0 n rest) rest
      (record { switch = opened.switch; one = one; first = first; leads = leads; later = turn.switch }) (late leads.count leads.after turn)))
