-- The first failure of a file is the first slot that may not follow, with the first reason for it.
use Rattle.std.proofs.Common.{◌≡◌, ◌↔◌, ℕ, zero, suc, ◌+◌, ◌-◌, ◌<◌, ◌≤◌, ◌⊎◌, ◌∙◌, Bool, true, false, List, [], ◌∷◌, Option, None, Some, All, refl}
use Rattle.std.proofs.Common.{sym, ap, subst, inl, inr, arith, if◌then◌else◌}
use Rattle.std.specs.List.{find, range_with_len}
use Rattle.std.specs.Option.{option_map, option_or}
use Rattle.std.proofs.lemmas.Bool.{cases_Bool, cases_eq, cond-true, cond-false, not-false, not_from_true}
use Rattle.slot_match.specs.declared.matching.Fed.{Fed}
use Rattle.slot_match.specs.Rows.{row_of}
use Rattle.slot_match.specs.Matches.{fed_of}
use Rattle.slot_match.specs.Parts.{served_of}
use Rattle.eslip_rounds.specs.Schedulers.{Scheduler, IsScheduler}
use Rattle.slot_histories.specs.Tests.{keeps_rest}
use Rattle.slot_histories.proofs.KeepingTests.{Decides-keeps_rest}
use Rattle.journal_check.specs.declared.verdict.Reason.{Reason}
use Rattle.journal_check.specs.declared.verdict.Reason.TheVariants.{AfterEnd, More, Keeps, Output, NoEnd}
use Rattle.journal_check.specs.declared.verdict.Failure.{Failure}
use Rattle.journal_check.specs.Files.{FileSlot, JournalFile, rows_of, mores_of}
use Rattle.journal_check.specs.Texts.{IsFileSlot, IsFile}
use Rattle.journal_check.specs.Lawful.{Before, at_first, decided_in, after_slot, first_of, lacks_more, breaks, is_alike, differs, post_failure}
use Rattle.journal_check.specs.Lawful.{output_failure, failure_in, failure_or, failure_from, MayFollow, first_failure_under}
use Rattle.journal_check.specs.Failures.{HasMore, KeepsRow, IsFedAsDecided, HoldsBelow, IsFirstWithout, FailsBy, FailsFirst, IsFirstFailureUnder}
use Rattle.journal_check.proofs.Goods.{AreRows, IsGood, sound_slot, good_after, good_at_first}
use Rattle.journal_check.proofs.LawfulFiles.{none_of, none_map, going_on, lacks_none, Decides-alike, no_failure}

-- ---- the first number with a test
record IsFound (test : ℕ → Bool) (a n k : ℕ) : Type 0 where
  low : a ≤ k
  high : k < a + n
  holds : test k ≡ true
  none : (i : ℕ) → a ≤ i → i < k → test i ≡ false

found : (test : ℕ → Bool) (a n k : ℕ) → find test (range_with_len a n) ≡ Some k → IsFound test a n k
found test a zero k e = absurd (cc)
found test a (suc n) k e = elim (cases_Bool (test a)) [
  | inl here ↦
      let same : Some a ≡ Some k = sym (cond-true (test a) (Some a) (find test (range_with_len (a + 1) n)) here) ∙ e in
      let is : a ≡ k = cc in
      record { low = omega (arith, is); high = omega (arith, is); holds = ap test (sym is) ∙ here; none = λ i low less. absurd (omega (arith, is)) }
  | inr gone ↦
      let rest = found test (a + 1) n k (sym (cond-false (test a) (Some a) (find test (range_with_len (a + 1) n)) gone) ∙ e) in
      let low = rest.low in
      let high = rest.high in
      record {
        low = omega arith;
        high = omega arith;
        holds = rest.holds;
        none = λ i from less. elim (cases_eq i a) [ inl same ↦ ap test same ∙ gone | inr apart ↦ rest.none i (omega arith) less ];
      }
]

finds : (test : ℕ → Bool) (a n k : ℕ) → IsFound test a n k → find test (range_with_len a n) ≡ Some k
finds test a zero k is = absurd (let low = is.low in let high = is.high in omega arith)
finds test a (suc n) k is =
    let low = is.low in
    let high = is.high in
    elim (cases_eq a k) [
      | inl same ↦ cond-true (test a) (Some a) (find test (range_with_len (a + 1) n)) (ap test same ∙ is.holds) ∙ ap Some same
      | inr apart ↦
          cond-false (test a) (Some a) (find test (range_with_len (a + 1) n)) (is.none a (omega arith) (omega arith))
          ∙ finds test (a + 1) n k (record { low = omega arith; high = omega arith; holds = is.holds; none = λ i from less. is.none i (omega arith) less })
    ]

first_is : (n : ℕ) (test : ℕ → Bool) (Holds : ℕ → Type 0) → ((i : ℕ) → i < n → (test i ≡ false) ↔ Holds i) → (k : ℕ)
    → (first_of n test ≡ Some k) ↔ IsFirstWithout n Holds k
first_is n test Holds tells k = (
  λ e.
      let is = found test 0 n k e in
      let high : k < n = let h = is.high in omega arith in
      record {
        inside = high;
        fails = λ h. absurd (let no = (tells k high).1 h in let both : true ≡ false = sym is.holds ∙ no in cc);
        earlier = λ i less. (tells i (omega arith)).0 (is.none i (omega arith) less);
      },
  λ first.
      let inside = first.inside in
      finds test 0 n k (record {
        low = omega arith;
        high = omega arith;
        holds = elim (cases_Bool (test k)) [ inl yes' ↦ yes' | inr no' ↦ absurd (first.fails ((tells k inside).0 no')) ];
        none = λ i from less. (tells i (omega arith)).1 (first.earlier i less);
      }),
)

-- ---- the first of two choices
record IsSecond {X : Type 0} (a b : Option X) (x : X) : Type 0 where
  none : a ≡ None
  some : b ≡ Some x

some_or : {X : Type 0} (a b : Option X) (x : X) → option_or a b ≡ Some x → (a ≡ Some x) ⊎ IsSecond a b x
some_or None b x e = inr (record { none = refl; some = e })
some_or (Some y) b x e = inl e

or_first : {X : Type 0} (a b : Option X) (x : X) → a ≡ Some x → option_or a b ≡ Some x
or_first a b x e = ap (λ o. option_or o b) e

or_second : {X : Type 0} (a b : Option X) (x : X) → a ≡ None → b ≡ Some x → option_or a b ≡ Some x
or_second a b x none some = ap (λ o. option_or o b) none ∙ some

-- what a number was made of
record IsMade (f : ℕ → Reason) (o : Option ℕ) (r : Reason) : Type 0 where
  k : ℕ
  is : o ≡ Some k
  made : f k ≡ r

some_map : (f : ℕ → Reason) (o : Option ℕ) (r : Reason) → option_map f o ≡ Some r → IsMade f o r
some_map f None r e = absurd (cc)
some_map f (Some k) r e = record { k = k; is = refl; made = cc }

ended : (b : Bool) (r : Reason) → (if b then None else Some AfterEnd) ≡ Some r → (b ≡ false) × (AfterEnd ≡ r)
ended true r e = absurd (cc)
ended false r e = (refl, cc)

-- ---- why a slot fails
module _ (scheduler : Scheduler) (n rounds t : ℕ) (before : Before) (slot : FileSlot) (rows : AreRows n before.rows) where
  abbrev decided : List (Option Fed)
  decided = (decided_in scheduler n rounds t before slot).matched

  tells_more : (i : ℕ) → i < n → (lacks_more (rows_of slot) (mores_of slot) i ≡ false) ↔ HasMore slot i
  tells_more i below = lacks_none n (rows_of slot) (mores_of slot) i

  tells_keeps : (i : ℕ) → i < n → (breaks n before.matched before.rows (rows_of slot) i ≡ false) ↔ KeepsRow before slot i
  tells_keeps i below =
      let kept = keeps_rest n (served_of before.matched i) (row_of before.rows i) (row_of (rows_of slot) i) in
      let tells = Decides-keeps_rest n (served_of before.matched i) (row_of before.rows i) (rows.within i below) (rows.levels i below)
      (row_of (rows_of slot) i) in
      (λ e. tells.0 (not-false kept e), λ h. not_from_true kept (tells.1 h))

  tells_fed : (j : ℕ) → j < n → (differs slot.matched decided j ≡ false) ↔ IsFedAsDecided scheduler n rounds t before slot j
  tells_fed j below =
      let alike = is_alike (fed_of slot.matched j) (fed_of decided j) in
      let tells = Decides-alike (fed_of slot.matched j) (fed_of decided j) in
      (λ e. tells.0 (not-false alike e), λ h. not_from_true alike (tells.1 h))

  all_below : (test : ℕ → Bool) (Holds : ℕ → Type 0) (f : ℕ → Reason) → ((i : ℕ) → i < n → (test i ≡ false) ↔ Holds i)
      → (option_map f (first_of n test) ≡ None) ↔ HoldsBelow n Holds
  all_below test Holds f tells = (
    λ e i below. (tells i below).0 ((none_of n test).0 ((none_map f (first_of n test)).0 e) i below),
    λ all. (none_map f (first_of n test)).1 ((none_of n test).1 (λ i below. (tells i below).1 (all i below))),
  )

  abbrev end_reason : Option Reason
  end_reason = if before.going then None else Some AfterEnd

  abbrev more_reason : Option Reason
  more_reason = option_map More (first_of n (lacks_more (rows_of slot) (mores_of slot)))

  abbrev keeps_reason : Option Reason
  keeps_reason = option_map Keeps (first_of n (breaks n before.matched before.rows (rows_of slot)))

  abbrev output_reason : Option Reason
  output_reason = option_map Output (first_of n (differs slot.matched decided))

  more_none : (more_reason ≡ None) ↔ HoldsBelow n (HasMore slot)
  more_none = all_below (lacks_more (rows_of slot) (mores_of slot)) (HasMore slot) More tells_more

  keeps_none : (keeps_reason ≡ None) ↔ HoldsBelow n (KeepsRow before slot)
  keeps_none = all_below (breaks n before.matched before.rows (rows_of slot)) (KeepsRow before slot) Keeps tells_keeps

  by_more : (r : Reason) → before.going ≡ true → more_reason ≡ Some r → FailsBy scheduler n rounds t before slot r
  by_more r going e =
      let made = some_map More (first_of n (lacks_more (rows_of slot) (mores_of slot))) r e in
      subst (FailsBy scheduler n rounds t before slot) made.made
      (going, (first_is n (lacks_more (rows_of slot) (mores_of slot)) (HasMore slot) tells_more made.k).0 made.is)

  by_keeps : (r : Reason) → before.going ≡ true → HoldsBelow n (HasMore slot) → option_or keeps_reason None ≡ Some r
      → FailsBy scheduler n rounds t before slot r
  by_keeps r going more e = elim (some_or keeps_reason None r e) [
    | inl is ↦
        let made = some_map Keeps (first_of n (breaks n before.matched before.rows (rows_of slot))) r is in
        subst (FailsBy scheduler n rounds t before slot) made.made
        (going, more, (first_is n (breaks n before.matched before.rows (rows_of slot)) (KeepsRow before slot) tells_keeps made.k).0 made.is)
    | inr nothing ↦ absurd (let never = nothing.some in cc)
  ]

  by_output : (r : Reason) → before.going ≡ true → HoldsBelow n (HasMore slot) → HoldsBelow n (KeepsRow before slot) → output_reason ≡ Some r
      → FailsBy scheduler n rounds t before slot r
  by_output r going more keeps e =
      let made = some_map Output (first_of n (differs slot.matched decided)) r e in
      subst (FailsBy scheduler n rounds t before slot) made.made
      (going, more, keeps, (first_is n (differs slot.matched decided) (IsFedAsDecided scheduler n rounds t before slot) tells_fed made.k).0 made.is)

  by_posts : (r : Reason) → post_failure n before (rows_of slot) (mores_of slot) ≡ Some r → FailsBy scheduler n rounds t before slot r
  unfolding post_failure
  by_posts r e = elim (some_or end_reason (option_or more_reason (option_or keeps_reason None)) r e) [
    | inl is ↦ let over = ended before.going r is in subst (FailsBy scheduler n rounds t before slot) over.1 over.0
    | inr after ↦
        let going = (going_on n before.going).0 after.none in
        elim (some_or more_reason (option_or keeps_reason None) r after.some) [
          | inl is ↦ by_more r going is
          | inr later ↦ by_keeps r going (more_none.0 later.none) later.some
        ]
  ]

  posts_hold : post_failure n before (rows_of slot) (mores_of slot) ≡ None
      → (before.going ≡ true) × HoldsBelow n (HasMore slot) × HoldsBelow n (KeepsRow before slot)
  unfolding post_failure
  posts_hold e =
      let first = none_parts end_reason (option_or more_reason (option_or keeps_reason None)) e in
      let second = none_parts more_reason (option_or keeps_reason None) first.1 in
      let third = none_parts keeps_reason None second.1 in
      ((going_on n before.going).0 first.0, more_none.0 second.0, keeps_none.0 third.0) where
        none_parts : (a b : Option Reason) → option_or a b ≡ None → (a ≡ None) × (b ≡ None)
        none_parts None b none = (refl, none)
        none_parts (Some x) b none = absurd (cc)

  -- the reason is the first
  pub fails_by : (r : Reason) → failure_in scheduler n rounds t before slot ≡ Some r → FailsBy scheduler n rounds t before slot r
  unfolding failure_in output_failure
  fails_by r e = elim (some_or (post_failure n before (rows_of slot) (mores_of slot)) output_reason r e) [
    | inl is ↦ by_posts r is
    | inr after ↦ let hold = posts_hold after.none in by_output r hold.0 hold.1 hold.2 after.some
  ]

  -- and the first reason is told
  pub reason_is : (r : Reason) → FailsBy scheduler n rounds t before slot r → failure_in scheduler n rounds t before slot ≡ Some r
  unfolding failure_in output_failure post_failure
  reason_is AfterEnd ends =
      let is : end_reason ≡ Some AfterEnd = ap (λ (b : Bool). if b then None else Some AfterEnd) ends in
      or_first (option_or end_reason (option_or more_reason (option_or keeps_reason None))) output_reason AfterEnd
      (or_first end_reason (option_or more_reason (option_or keeps_reason None)) AfterEnd is)
  reason_is (More i) fails =
      let is : more_reason ≡ Some (More i) = ap (option_map More)
      ((first_is n (lacks_more (rows_of slot) (mores_of slot)) (HasMore slot) tells_more i).1 fails.1) in
      or_first (option_or end_reason (option_or more_reason (option_or keeps_reason None))) output_reason (More i)
      (or_second end_reason (option_or more_reason (option_or keeps_reason None)) (More i) ((going_on n before.going).1 fails.0)
      (or_first more_reason (option_or keeps_reason None) (More i) is))
  reason_is (Keeps i) fails =
      let is : keeps_reason ≡ Some (Keeps i) = ap (option_map Keeps)
      ((first_is n (breaks n before.matched before.rows (rows_of slot)) (KeepsRow before slot) tells_keeps i).1 fails.2) in
      or_first (option_or end_reason (option_or more_reason (option_or keeps_reason None))) output_reason (Keeps i)
      (or_second end_reason (option_or more_reason (option_or keeps_reason None)) (Keeps i) ((going_on n before.going).1 fails.0)
      (or_second more_reason (option_or keeps_reason None) (Keeps i) (more_none.1 fails.1) (or_first keeps_reason None (Keeps i) is)))
  reason_is (Output j) fails =
      let is : output_reason ≡ Some (Output j) = ap (option_map Output)
      ((first_is n (differs slot.matched decided) (IsFedAsDecided scheduler n rounds t before slot) tells_fed j).1 fails.3) in
      or_second (option_or end_reason (option_or more_reason (option_or keeps_reason None))) output_reason (Output j)
      (both_none end_reason (option_or more_reason (option_or keeps_reason None)) ((going_on n before.going).1 fails.0)
      (both_none more_reason (option_or keeps_reason None) (more_none.1 fails.1) (both_none keeps_reason None (keeps_none.1 fails.2) refl))) is where
        both_none : (a b : Option Reason) → a ≡ None → b ≡ None → option_or a b ≡ None
        both_none a b first second = ap (λ o. option_or o b) first ∙ second
  reason_is NoEnd fails = absurd fails

-- ---- the first slot that fails
abbrev pub failure : ℕ → Reason → Failure
failure at reason = record { slot = at; reason = reason }

end_is : (b : Bool) (t at : ℕ) (r : Reason)
    → ((if b then Some (failure (t - 1) NoEnd) else None) ≡ Some (failure at r)) ↔ ((b ≡ true) × (at ≡ t - 1) × (r ≡ NoEnd))
end_is true t at r = (
  λ e. let same : failure (t - 1) NoEnd ≡ failure at r = cc in (refl, sym (ap (λ (f : Failure). f.slot) same), sym (ap (λ (f : Failure). f.reason) same)),
  λ p. ap (λ k. Some (failure k NoEnd)) (sym p.1) ∙ ap (λ q. Some (failure at q)) (sym p.2),
)
end_is false t at r = (λ e. absurd (cc), λ p. absurd (let never = p.0 in cc))

module _ (scheduler : Scheduler) (n rounds t : ℕ) (before : Before) (slot : FileSlot) (slots : List FileSlot) (good : IsGood n before)
    (file : IsFileSlot n slot) (at : ℕ) (r : Reason) where
  abbrev later : Option Failure
  later = failure_from scheduler n rounds (t + 1) (after_slot scheduler n rounds t before slot) slots

  -- this slot fails, or one that comes later
  by_reason : (o : Option Reason) → failure_in scheduler n rounds t before slot ≡ o
      → (failure_in scheduler n rounds t before slot ≡ None) ↔ MayFollow scheduler n rounds t before slot
      → (MayFollow scheduler n rounds t before slot → (later ≡ Some (failure at r))
      ↔ FailsFirst scheduler n rounds (t + 1) (after_slot scheduler n rounds t before slot) slots at r)
      → (failure_or t o later ≡ Some (failure at r)) ↔ FailsFirst scheduler n rounds t before (slot ∷ slots) at r
  by_reason None is here next = (
    λ e. let follows = here.0 is in inr (follows, (next follows).0 e),
    λ s. elim s [
      | inl fails ↦ absurd (let some = reason_is scheduler n rounds t before slot good.rows r fails.1 in let both : None ≡ Some r = sym is ∙ some in cc)
      | inr follows ↦ (next follows.0).1 follows.1
    ],
  )
  by_reason (Some reason) is here next = (
    λ e.
        let same : failure t reason ≡ failure at r = cc in
        let why : reason ≡ r = ap (λ (f : Failure). f.reason) same in
        inl (sym (ap (λ (f : Failure). f.slot) same), fails_by scheduler n rounds t before slot good.rows r (is ∙ ap Some why)),
    λ s. elim s [
      | inl fails ↦
          let some = reason_is scheduler n rounds t before slot good.rows r fails.1 in
          let both : Some reason ≡ Some r = sym is ∙ some in
          let why : reason ≡ r = cc in
          ap (λ k. Some (failure k reason)) (sym fails.0) ∙ ap (λ q. Some (failure at q)) why
      | inr follows ↦ absurd (let none = here.1 follows.0 in let both : None ≡ Some reason = sym none ∙ is in cc)
    ],
  )

module _ (scheduler : Scheduler) (scheduling : IsScheduler scheduler) (n rounds : ℕ) where
  pub fails_from : (t : ℕ) (before : Before) (slots : List FileSlot) → IsGood n before → All (IsFileSlot n) slots → (at : ℕ) (r : Reason)
      → (failure_from scheduler n rounds t before slots ≡ Some (failure at r)) ↔ FailsFirst scheduler n rounds t before slots at r
  fails_from t before [] good each at r = end_is before.going t at r
  fails_from t before (slot ∷ slots) good each at r =
      let file : IsFileSlot n slot = each 0 slot (omega arith) in
      let rest : All (IsFileSlot n) slots = λ k d below. each (suc k) d (omega arith) in
      let sound = sound_slot scheduler scheduling n rounds t before slot good file in
      by_reason scheduler n rounds t before slot slots good file at r (failure_in scheduler n rounds t before slot) refl
      (no_failure n scheduler rounds t before slot good.rows file.outputs sound.matches.count)
      (λ follows. fails_from (t + 1) (after_slot scheduler n rounds t before slot) slots
      (good_after scheduler scheduling n rounds t before slot good file follows.decided) rest at r)

pub file_fails : (scheduler : Scheduler) → IsScheduler scheduler → (file : JournalFile) → IsFile file → (at : ℕ) (r : Reason)
    → (first_failure_under scheduler file ≡ Some (failure at r)) ↔ IsFirstFailureUnder scheduler file at r
unfolding first_failure_under IsFirstFailureUnder
file_fails scheduler scheduling file good at r =
    fails_from scheduler scheduling file.ports file.rounds 0 (at_first file.ports) file.slots
    (good_at_first file.ports good.ports_some good.ports_few) good.slots at r
