-- A file has no failure exactly where it is lawful.
use Rattle.std.proofs.Common.{◌≡◌, ◌↔◌, ℕ, zero, suc, ◌+◌, ◌-◌, ◌<◌, ◌≤◌, ◌⊎◌, ◌==◌, ◌&&◌, ◌∙◌, not, Bool, true, false, List, [], ◌∷◌, length, Option}
use Rattle.std.proofs.Common.{None, Some, Ok, Result, All, refl, sym, ap, inl, inr, arith, slice_index_or, if◌then◌else◌}
use Rattle.std.specs.Bool.{Decides}
use Rattle.std.specs.List.{find, range_with_len}
use Rattle.std.specs.Option.{option_map, option_or}
use Rattle.std.proofs.lemmas.Bool.{cases_Bool, cases_eq, cond-true, cond-false, and_from, and_parts, not-false, not_from_true}
use Rattle.std.proofs.lemmas.Bool.Decides.{Decides-eqb}
use Rattle.slot_match.specs.declared.rows.Row.{Row}
use Rattle.slot_match.specs.declared.matching.Fed.{Fed}
use Rattle.slot_match.specs.Rows.{row_of, IsEmptyRow}
use Rattle.slot_match.specs.Matches.{fed_of}
use Rattle.slot_match.specs.Parts.{served_of}
use Rattle.eslip_rounds.specs.Decisions.{is_kind}
use Rattle.eslip_rounds.proofs.Testing.{Decides-kind}
use Rattle.eslip_rounds.specs.Schedulers.{Scheduler, IsScheduler}
use Rattle.slot_histories.specs.Tests.{is_empty, keeps_rest}
use Rattle.slot_histories.proofs.SetTests.{Decides-is_empty}
use Rattle.slot_histories.proofs.KeepingTests.{Decides-keeps_rest}
use Rattle.journal_check.specs.declared.verdict.Reason.{Reason}
use Rattle.journal_check.specs.declared.verdict.Reason.TheVariants.{AfterEnd, More, Keeps, Output, NoEnd}
use Rattle.journal_check.specs.declared.verdict.Failure.{Failure}
use Rattle.journal_check.specs.declared.verdict.JournalFault.{JournalFault}
use Rattle.journal_check.specs.declared.verdict.Verdict.{Verdict}
use Rattle.journal_check.specs.Files.{FileSlot, JournalFile, rows_of, mores_of}
use Rattle.journal_check.specs.Lawful.{Before, at_first, decided_in, after_slot, first_of, lacks_more, breaks, is_alike, differs, post_failure}
use Rattle.journal_check.specs.Lawful.{output_failure, failure_in, failure_or, failure_from, MayFollow, MayFollowAll, first_failure_under, IsLawfulUnder}
use Rattle.journal_check.proofs.Goods.{AreRows, IsGood, sound_slot, good_after, good_at_first}
use Rattle.journal_check.specs.Texts.{IsFileSlot, IsFile, file_text}
use Rattle.journal_check.specs.Verdicts.{yes_on, verdict_by, answer_by, answer_under}
use Rattle.journal_check.proofs.FilesAgain.{journal_again}

-- no number below n is found exactly where none has the test
none_from : (test : ℕ → Bool) (a n : ℕ) → (find test (range_with_len a n) ≡ None) ↔ ((k : ℕ) → a ≤ k → k < a + n → test k ≡ false)
none_from test a zero = (λ e k low high. absurd (omega arith), λ all. refl)
none_from test a (suc n) =
    let rest = none_from test (a + 1) n in
    elim (cases_Bool (test a)) [
      | inl here ↦ (
        λ e. absurd (let same : Some a ≡ None = sym (cond-true (test a) (Some a) (find test (range_with_len (a + 1) n)) here) ∙ e in cc),
        λ all. absurd (let no : test a ≡ false = all a (omega arith) (omega arith) in let same : true ≡ false = sym here ∙ no in cc),
      )
      | inr gone ↦
          let step : find test (range_with_len a (suc n)) ≡ find test (range_with_len (a + 1) n) =
          cond-false (test a) (Some a) (find test (range_with_len (a + 1) n)) gone in (
            λ e k low high. elim (cases_eq k a) [
              | inl same ↦ ap test same ∙ gone
              | inr apart ↦ rest.0 (sym step ∙ e) k (omega arith) (omega arith)
            ],
            λ all. step ∙ rest.1 (λ k low high. all k (omega arith) (omega arith)),
          )
    ]

pub none_of : (n : ℕ) (test : ℕ → Bool) → (first_of n test ≡ None) ↔ ((k : ℕ) → k < n → test k ≡ false)
none_of n test =
    let range = none_from test 0 n in
    (λ e k below. range.0 e k (omega arith) (omega arith), λ all. range.1 (λ k low high. all k (omega arith)))

-- nothing comes of two choices exactly where nothing comes of either
none_or : {X : Type 0} (a b : Option X) → (option_or a b ≡ None) ↔ ((a ≡ None) × (b ≡ None))
none_or None b = (λ e. (refl, e), λ p. p.1)
none_or (Some x) b = (λ e. absurd (cc), λ p. absurd (let h = p.0 in cc))

pub none_map : {X Y : Type 0} (f : X → Y) (o : Option X) → (option_map f o ≡ None) ↔ (o ≡ None)
none_map f None = (λ e. refl, λ e. refl)
none_map f (Some x) = (λ e. absurd (cc), λ e. absurd (cc))

-- ---- alike

pub Decides-alike : (a b : Option Fed) → Decides (is_alike a b) (a ≡ b)
Decides-alike None None = (λ e. refl, λ e. refl)
Decides-alike None (Some b) = (λ e. absurd (cc), λ e. absurd (cc))
Decides-alike (Some a) None = (λ e. absurd (cc), λ e. absurd (cc))
Decides-alike (Some a) (Some b) = (
  λ e.
      let p = and_parts (a.input == b.input) (a.level == b.level && is_kind a.kind b.kind) e in
      let q = and_parts (a.level == b.level) (is_kind a.kind b.kind) p.1 in
      let input : a.input ≡ b.input = (Decides-eqb a.input b.input).0 p.0 in
      let level : a.level ≡ b.level = (Decides-eqb a.level b.level).0 q.0 in
      let kind : a.kind ≡ b.kind = (Decides-kind a.kind b.kind).0 q.1 in
      ap (λ (x : ℕ). let f : Fed = record { input = x; level = a.level; kind = a.kind } in Some f) input
      ∙ ap (λ (x : ℕ). let f : Fed = record { input = b.input; level = x; kind = a.kind } in Some f) level
      ∙ ap (λ k. let f : Fed = record { input = b.input; level = b.level; kind = k } in Some f) kind,
  λ e.
      let same : a ≡ b = cc in
      and_from (a.input == b.input) (a.level == b.level && is_kind a.kind b.kind) ((Decides-eqb a.input b.input).1 (ap (λ (f : Fed). f.input) same))
      (and_from (a.level == b.level) (is_kind a.kind b.kind) ((Decides-eqb a.level b.level).1 (ap (λ (f : Fed). f.level) same))
      ((Decides-kind a.kind b.kind).1 (ap (λ (f : Fed). f.kind) same))),
)

-- lists of one length with the same elements are one
same_lists : (xs ys : List (Option Fed)) → length xs ≡ length ys → ((j : ℕ) → j < length xs → fed_of xs j ≡ fed_of ys j) → xs ≡ ys
same_lists [] [] len each = refl
same_lists [] (y ∷ ys) len each = absurd (omega arith)
same_lists (x ∷ xs) [] len each = absurd (omega arith)
same_lists (x ∷ xs) (y ∷ ys) len each =
    let head : x ≡ y = each 0 (omega arith) in
    let tail : xs ≡ ys = same_lists xs ys (omega arith) (λ j below. each (suc j) (omega arith)) in
    ap (λ (z : Option Fed). z ∷ xs) head ∙ ap (λ (zs : List (Option Fed)). y ∷ zs) tail

module _ (n : ℕ) where
  pub no_output_failure : (matched decided : List (Option Fed)) → length matched ≡ n → length decided ≡ n → (output_failure n matched decided ≡ None)
      ↔ (matched ≡ decided)
  unfolding output_failure
  no_output_failure matched decided long also =
      let none = none_of n (differs matched decided) in
      let mapped = none_map Output (first_of n (differs matched decided)) in (
        λ e. same_lists matched decided (omega arith)
            (λ j below. (Decides-alike (fed_of matched j) (fed_of decided j)).0
            (not-false (is_alike (fed_of matched j) (fed_of decided j)) (none.0 (mapped.0 e) j (omega arith)))),
        λ same. mapped.1 (none.1 (λ j below. not_from_true (is_alike (fed_of matched j) (fed_of decided j))
            ((Decides-alike (fed_of matched j) (fed_of decided j)).1 (ap (λ (xs : List (Option Fed)). fed_of xs j) same)))),
      )

  pub going_on : (b : Bool) → ((if b then None else Some AfterEnd) ≡ None) ↔ (b ≡ true)
  going_on true = (λ e. refl, λ e. refl)
  going_on false = (λ e. absurd (cc), λ e. absurd (cc))

  pub lacks_none : (rows : List Row) (more : List Bool) (i : ℕ)
      → (lacks_more rows more i ≡ false) ↔ (IsEmptyRow (row_of rows i) ⊎ (slice_index_or more i false ≡ true))
  lacks_none rows more i =
      let tells = Decides-is_empty (row_of rows i) in
      let m = slice_index_or more i false in
      let e = is_empty (row_of rows i) in
      elim (cases_Bool m) [
        | inl said ↦ (λ h. inr said, λ h. ap (λ (b : Bool). not b && not e) said)
        | inr silent ↦ elim (cases_Bool e) [
          | inl empty ↦ (λ h. inl (tells.0 empty), λ h. ap (λ (b : Bool). not b && not e) silent ∙ ap not empty)
          | inr some ↦ (
            λ h. absurd (let t : (not m && not e) ≡ true = and_from (not m) (not e) (ap not silent) (ap not some) in let same : true ≡ false = sym t ∙ h in cc),
            λ s. elim s [
              | inl none ↦ absurd (let t = tells.1 none in let same : true ≡ false = sym t ∙ some in cc)
              | inr said ↦ absurd (let same : true ≡ false = sym said ∙ silent in cc)
            ],
          )
        ]
      ]

  -- a slot has no failure exactly where it may follow
  pub no_failure : (scheduler : Scheduler) (rounds t : ℕ) (before : Before) (slot : FileSlot) → AreRows n before.rows → length slot.matched ≡ n
      → length (decided_in scheduler n rounds t before slot).matched ≡ n
      → (failure_in scheduler n rounds t before slot ≡ None) ↔ MayFollow scheduler n rounds t before slot
  unfolding failure_in post_failure
  no_failure scheduler rounds t before slot rows long also =
      let new = rows_of slot in
      let more = mores_of slot in
      let decided = (decided_in scheduler n rounds t before slot).matched in
      let a : Option Reason = if before.going then None else Some AfterEnd in
      let b = option_map More (first_of n (lacks_more new more)) in
      let c = option_map Keeps (first_of n (breaks n before.matched before.rows new)) in
      let whole = none_or (post_failure n before new more) (output_failure n slot.matched decided) in
      let ends = none_or a (option_or b (option_or c None)) in
      let lacks = none_or b (option_or c None) in
      let keeps = none_or c None in
      let outputs = no_output_failure slot.matched decided long also in
      let card_lacks = none_of n (lacks_more new more) in
      let card_breaks = none_of n (breaks n before.matched before.rows new) in
      let tells = λ (i : ℕ) (below : i < n). Decides-keeps_rest n (served_of before.matched i) (row_of before.rows i) (rows.within i below)
      (rows.levels i below) (row_of new i) in (
        λ e.
            let p = whole.0 e in
            let q = ends.0 p.0 in
            let r = lacks.0 q.1 in
            let s = keeps.0 r.1 in
            record {
              goes_on = (going_on before.going).0 q.0;
              more = λ i below. (lacks_none new more i).0 (card_lacks.0 ((none_map More (first_of n (lacks_more new more))).0 r.0) i below);
              keeps = λ i below. (tells i below).0
                  (not-false (keeps_rest n (served_of before.matched i) (row_of before.rows i) (row_of new i))
                  (card_breaks.0 ((none_map Keeps (first_of n (breaks n before.matched before.rows new))).0 s.0) i below));
              decided = outputs.0 p.1;
            },
        λ h. whole.1 (
          ends.1 (
            (going_on before.going).1 h.goes_on,
            lacks.1 (
              (none_map More (first_of n (lacks_more new more))).1 (card_lacks.1 (λ i below. (lacks_none new more i).1 (h.more i below))),
              keeps.1 (
                (none_map Keeps (first_of n (breaks n before.matched before.rows new))).1
                    (card_breaks.1 (λ i below. not_from_true (keeps_rest n (served_of before.matched i) (row_of before.rows i) (row_of new i))
                    ((tells i below).1 (h.keeps i below)))),
                refl,
              ),
            ),
          ),
          outputs.1 h.decided,
        ),
      )

  none_later : (t : ℕ) (here : Option Reason) (later : Option Failure) → (failure_or t here later ≡ None) ↔ ((here ≡ None) × (later ≡ None))
  none_later t None later = (λ e. (refl, e), λ p. p.1)
  none_later t (Some reason) later = (λ e. absurd (cc), λ p. absurd (let h = p.0 in cc))

  none_going : (b : Bool) (f : Failure) → ((if b then Some f else None) ≡ None) ↔ (b ≡ false)
  none_going true f = (λ e. absurd (cc), λ e. absurd (cc))
  none_going false f = (λ e. refl, λ e. refl)

module _ (scheduler : Scheduler) (scheduling : IsScheduler scheduler) (n rounds : ℕ) where
  pub no_failure_from : (t : ℕ) (before : Before) (slots : List FileSlot) → IsGood n before → All (IsFileSlot n) slots
      → (failure_from scheduler n rounds t before slots ≡ None) ↔ MayFollowAll scheduler n rounds t before slots
  no_failure_from t before [] good each = none_going n before.going (record { slot = t - 1; reason = NoEnd })
  no_failure_from t before (slot ∷ slots) good each =
      let file : IsFileSlot n slot = each 0 slot (omega arith) in
      let rest : All (IsFileSlot n) slots = λ k d below. each (suc k) d (omega arith) in
      let sound = sound_slot scheduler scheduling n rounds t before slot good file in
      let here = no_failure n scheduler rounds t before slot good.rows file.outputs sound.matches.count in
      let later = failure_from scheduler n rounds (t + 1) (after_slot scheduler n rounds t before slot) slots in
      let both = none_later n t (failure_in scheduler n rounds t before slot) later in
      let next = λ (follows : MayFollow scheduler n rounds t before slot). no_failure_from (t + 1) (after_slot scheduler n rounds t before slot) slots
      (good_after scheduler scheduling n rounds t before slot good file follows.decided) rest in (
        λ e. let p = both.0 e in let follows = here.0 p.0 in (follows, (next follows).0 p.1),
        λ h. both.1 (here.1 h.0, (next h.0).1 h.1),
      )

pub file_failure : (scheduler : Scheduler) → IsScheduler scheduler → (file : JournalFile) → IsFile file
    → (first_failure_under scheduler file ≡ None) ↔ IsLawfulUnder scheduler file
unfolding first_failure_under IsLawfulUnder
file_failure scheduler scheduling file good = no_failure_from scheduler scheduling file.ports file.rounds 0 (at_first file.ports) file.slots
    (good_at_first file.ports good.ports_some good.ports_few) good.slots

-- a lawful file is answered yes
pub lawful_answer : (scheduler : Scheduler) → IsScheduler scheduler → (file : JournalFile) → IsFile file → IsLawfulUnder scheduler file
    → answer_under scheduler (file_text file) ≡ Ok (yes_on file)
unfolding answer_under
lawful_answer scheduler scheduling file good lawful =
    ap (answer_by scheduler) (journal_again file good)
    ∙ ap (λ (f : Option Failure). let a : Result Verdict JournalFault = Ok (verdict_by file f) in a) ((file_failure scheduler scheduling file good).1 lawful)
