-- Openings: from all pointers at port 0 to the pointers that the families begin with.
--
-- Each input in turn asks for output 0 alone and takes it, and input 0 once more. Then all inputs and output 0 point at
-- port 1, and the family follows.
use Rattle.std.proofs.Common.{◌≡◌, ℕ, zero, suc, ◌+◌, ◌%◌, ◌<◌, ◌≤◌, ◌∙◌, List, ◌∷◌, length, take, drop, refl, ap, sym, subst, inl, inr, arith}
use Rattle.std.proofs.Math.Nat.{mod-eq_of_lt}
use Rattle.std.proofs.lemmas.Bool.{cases_lt}
use Rattle.std_lemmas.proofs.Numbers.{mod_once}
use Rattle.service_bound.proofs.Distances.{distance-own}
use Rattle.rotating_pick.specs.Rotation.{distance}
use Rattle.rotating_pick.specs.declared.limits.TheConstants.{MAX_PORTS}
use Rattle.slot_match.specs.Rows.{AreWithin}
use Rattle.pointer_state.specs.Places.{Places, places_at_first, grant_of, accept_of}
use Rattle.pointer_state.proofs.Moves.{AreAtPorts-at_first}
use Rattle.pointer_state.proofs.Tables.{place_of-at_first}
use Rattle.eslip_rounds.specs.Schedules.{DecidedSlot}
use Rattle.service_bound.specs.Windows.{AreKept, places_after}
use Rattle.service_bound.specs.Waits.{longest_service, longest_service_in_one_round}
use Rattle.service_bound.specs.Latest.{IsServedLast, ComesLast}
use Rattle.service_bound.proofs.Postings.{Posting, AreWithin-rows}
use Rattle.service_bound.proofs.PostedRuns.{decided, run, length-run, All-run, IsSwitch, IsSwitch-after, IsSchedule-run, IsLate, IsStep, step_alone}
use Rattle.service_bound.proofs.PostedRuns.{AreKept-before}
use Rattle.service_bound.proofs.Descents.{lowers, Suits-plain, IsBeginning, IsServedLast-run}
use Rattle.service_bound.proofs.OneRoundFamily as one
use Rattle.service_bound.proofs.MoreRoundsFamily as more
use Rattle.service_bound.proofs.TwoPortsFamily as two

-- the k inputs from x on take output 0, then input 0 does, and then come the rest
abbrev openings : ℕ → ℕ → List Posting → List Posting
openings x zero rest = lowers 0 0 ∷ rest
openings x (suc k) rest = lowers x 0 ∷ openings (x + 1) k rest

-- Output 0 points at port x, and the inputs below x at port 1. A port n is port 0.
record IsOpened (n : ℕ) (places : Places) (x : ℕ) : Type 0 where
  switch : IsSwitch n places
  grant : grant_of places 0 0 ≡ x % n
  accepts : (i : ℕ) → i < x → accept_of places i 0 ≡ 1 % n

-- the slots of `rest`, from the pointers `after` on, follow on the first `count` slots of a run
record Follows (n rounds t : ℕ) (places : Places) (ps : List Posting) (count : ℕ) (after : Places) (rest : List Posting) : Type 0 where
  slots : drop count (run n rounds t places ps) ≡ run n rounds (t + count) after rest
  left : places_after places (take count (run n rounds t places ps)) ≡ after
  kept : AreKept n (run n rounds (t + count) after rest) → AreKept n (run n rounds t places ps)

module _ (n rounds : ℕ) (some_rounds : 0 < rounds) (rest : List Posting) where
  step_of : (t x : ℕ) (places : Places) → x < n → IsSwitch n places → grant_of places 0 0 ≡ x → IsStep n rounds t places (lowers x 0)
  step_of t x places x_in switch grant =
      let near : distance n (grant_of places 0 0) x ≡ 0 = ap (λ from. distance n from x) grant ∙ distance-own n x x_in in
      step_alone n rounds t places (lowers x 0) switch
      (record { input_in = x_in; beside_in = omega arith; own_in = omega arith; other_in = omega arith; output_in = omega arith })
      (Suits-plain n places x 0 0 (inr (omega arith)) (inl refl) (inl refl)) some_rounds (inl refl)

  opens : (k x t : ℕ) (places : Places) → 0 < n → x + k ≡ n → IsOpened n places x → (after : Places) × IsBeginning n after
      × Follows n rounds t places (openings x k rest) (suc k) after rest
  opens zero x t places some sum opened =
      let first = decided n rounds t places (lowers 0 0) in
      let round : x % n ≡ 0 = ap (λ v. v % n) sum_is ∙ mod_once n n (omega arith) (omega arith) ∙ omega arith in
      let step = step_of t 0 places some opened.switch (opened.grant ∙ round) in (
        first.places,
        record {
          switch = IsSwitch-after n rounds t places (lowers 0 0) opened.switch;
          grant = step.moving.granted refl;
          accept = step.moving.accepted;
          fresh = λ i low high. step.moving.accept_stays i (λ e. omega arith) (λ none e. omega arith) (λ none e. omega arith) ∙ opened.accepts i (omega arith)
              ∙ mod-eq_of_lt (omega arith);
        },
        record {
          slots = refl;
          left = refl;
          kept = AreKept-before n rounds t places (lowers 0 0) rest step.serving refl;
        },
      ) where
        sum_is : x ≡ n
        sum_is = omega arith
  opens (suc k) x t places some sum opened =
      let x_in : x < n = omega arith in
      let first = decided n rounds t places (lowers x 0) in
      let step = step_of t x places x_in opened.switch (opened.grant ∙ mod-eq_of_lt x_in) in
      let next : IsOpened n first.places (x + 1) = record {
        switch = IsSwitch-after n rounds t places (lowers x 0) opened.switch;
        grant = step.moving.granted refl;
        accepts = λ i below. elim (cases_lt i x) [
          | inl before ↦ step.moving.accept_stays i (λ e. omega arith) (λ none e. omega arith) (λ none e. omega arith) ∙ opened.accepts i before
          | inr last ↦ let same : x ≡ i = omega arith in subst (λ v. accept_of first.places v 0 ≡ 1 % n) same step.moving.accepted
        ];
      } in
      let later = opens k (x + 1) (t + 1) first.places some (omega arith) next in
      let e : t + 1 + suc k ≡ t + suc (suc k) = omega arith in
      let follows = later.2 in (
        later.0,
        later.1,
        record {
          slots = follows.slots ∙ ap (λ s. run n rounds s later.0 rest) e;
          left = follows.left;
          kept = λ kept. AreKept-before n rounds t places (lowers x 0) (openings (x + 1) k rest) step.serving refl
              (follows.kept (subst (λ s. AreKept n (run n rounds s later.0 rest)) (sym e) kept));
        },
      )

  IsOpened-at_first : 0 < n → n ≤ MAX_PORTS → IsOpened n (places_at_first n) 0
  unfolding places_at_first
  IsOpened-at_first some size = record {
    switch = record { at_ports = AreAtPorts-at_first n some size; ports = refl };
    grant = place_of-at_first 0 0 ∙ sym (mod-eq_of_lt some);
    accepts = λ i below. absurd (omega arith);
  }

  -- what is late from where the openings lead comes in a schedule from all pointers at port 0
  comes : 0 < n → n ≤ MAX_PORTS → ((t : ℕ) (places : Places) → IsBeginning n places → IsLate n rounds t places rest) → (slots : List DecidedSlot)
      × ComesLast n rounds (n + 1) 0 0 0 slots × (length (drop (n + 1) slots) ≡ length rest)
  comes some size late =
      let from = places_at_first n in
      let opened = IsOpened-at_first some size in
      let all = openings 0 n rest in
      let slots = run n rounds 0 from all in
      let found = opens n 0 0 from some (omega arith) opened in
      let after = found.0 in
      let follows = found.2 in
      let e : suc n ≡ n + 1 = omega arith in
      let lasts = late (suc n) after found.1 in
      let zero_more : 0 + suc n ≡ suc n = omega arith in
      let dropped : drop (suc n) slots ≡ run n rounds (suc n) after rest = follows.slots ∙ ap (λ s. run n rounds s after rest) zero_more in
      let served : IsServedLast n rounds (suc n) 0 0 0 after (run n rounds (suc n) after rest) =
      IsServedLast-run n rounds (suc n) after rest found.1.switch lasts in
      let there : IsServedLast n rounds (suc n) 0 0 0 (places_after from (take (suc n) slots)) (drop (suc n) slots) =
      subst (λ p. IsServedLast n rounds (suc n) 0 0 0 p (drop (suc n) slots)) (sym follows.left)
      (subst (λ s. IsServedLast n rounds (suc n) 0 0 0 after s) (sym dropped) served) in (
        slots,
        record {
          schedule = IsSchedule-run n rounds 0 from all opened.switch;
          within = All-run n rounds 0 from (AreWithin n) (AreWithin-rows n) all;
          kept = follows.kept (subst (λ s. AreKept n (run n rounds s after rest)) (sym zero_more) lasts.kept);
          last = subst (λ c. IsServedLast n rounds c 0 0 0 (places_after from (take c slots)) (drop c slots)) e there;
        },
        subst (λ c. length (drop c slots) ≡ length rest) e (ap length dropped ∙ length-run n rounds (suc n) after rest),
      )

pub one_comes : (n : ℕ) → 0 < n → n ≤ MAX_PORTS → (slots : List DecidedSlot) × ComesLast n 1 (n + 1) 0 0 0 slots
    × (length (drop (n + 1) slots) ≡ longest_service_in_one_round n)
one_comes n some size =
    let found = comes n 1 (omega arith) (one.family n) some size (λ t places begins. one.late_family n t places some begins) in
    (found.0, found.1, found.2 ∙ one.length-family n some)

pub more_come : (n rounds : ℕ) → 2 < n → n ≤ MAX_PORTS → 1 < rounds → (slots : List DecidedSlot) × ComesLast n rounds (n + 1) 0 0 0 slots
    × (length (drop (n + 1) slots) ≡ longest_service n)
more_come n rounds three size many =
    let found = comes n rounds (omega arith) (more.family n) (omega arith) size (λ t places begins. more.late_family n rounds many three t places begins) in
    (found.0, found.1, found.2 ∙ more.length-family n three)

pub two_come : (rounds : ℕ) → 0 < rounds → (slots : List DecidedSlot) × ComesLast 2 rounds 3 0 0 0 slots × (length (drop 3 slots) ≡ 3)
two_come rounds some = comes 2 rounds some two.family (omega arith) (omega arith) (λ t places begins. two.late_family rounds some t places begins)
