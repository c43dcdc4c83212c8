-- One slot more is judged.
use Rattle.std.proofs.Common.{◌≡◌, ℕ, ◌+◌, ◌≤◌, ◌∙◌, List, [], ◌∷◌, ◌++◌, length, take, map, replicate, true, Option, None, Some, refl, sym, ap}
use Rattle.std.proofs.Common.{subst, append_assoc}
use Rattle.std.specs.List.{range_with_len}
use Rattle.std.proofs.lemmas.List.{map-append, append-nil, length_push, take-replicate, get_or-replicate, length-replicate}
use Rattle.slot_match.specs.Rows.{empty_row, no_row, IsWithin, IsOfLevels, AreWithin}
use Rattle.slot_match.specs.Matches.{unmatched}
use Rattle.pointer_state.specs.Places.{places_at_first}
use Rattle.eslip_rounds.specs.Schedulers.{Scheduler}
use Rattle.slot_histories.proofs.EventTests.{IsEmptyRow-empty}
use Rattle.rotating_pick.specs.declared.limits.TheConstants.{LEVELS}
use Rattle.named_schedulers.specs.Named.{decision_named}
use Rattle.service_bound.specs.Waits.{NotedSlot, longest_wait}
use Rattle.service_bound.specs.MeterSteps.{HasNoted}
use Rattle.journal_check.specs.declared.slots.SlotRead.{SlotRead}
use Rattle.journal_check.specs.declared.verdict.Failure.{Failure}
use Rattle.journal_check.specs.declared.verdict.Reason.{Reason}
use Rattle.journal_check.specs.declared.judge.Judge.{Judge}
use Rattle.journal_check.specs.Files.{FileSlot, JournalFile}
use Rattle.journal_check.specs.Lawful.{Before, at_first, after_slot, failure_in, failure_or, failure_from, first_failure_under}
use Rattle.journal_check.specs.Verdicts.{noted_of, longest_waits, verdict_by, verdict_under}
use Rattle.journal_check.specs.declared.verdict.Verdict.TheVariants.{Yes, No}
use Rattle.journal_check.specs.Steps.{IsSlotRead, before_of, failure_with, IsJudged}

pub first_rows_within : (n : ℕ) → n ≤ 64 → AreWithin n (take n (replicate 64 empty_row))
first_rows_within n few =
    let rows = take-replicate n 64 empty_row few in
    subst (AreWithin n) (sym rows) (record {
      count = length-replicate n empty_row;
      ports = λ i below. subst (IsWithin n) (sym (get_or-replicate n i empty_row no_row below))
          (λ level j kind has. absurd (IsEmptyRow-empty level j kind has));
      levels = λ i below. subst IsOfLevels (sym (get_or-replicate n i empty_row no_row below)) (λ level j kind has. absurd (IsEmptyRow-empty level j kind has));
    })

-- what is before the first slot
pub before_first : (n : ℕ) (b : Before) → n ≤ 64 → b.rows ≡ take n (replicate 64 empty_row) → b.matched ≡ unmatched n → b.going ≡ true
    → b.places ≡ places_at_first n → b ≡ at_first n
unfolding at_first
before_first n b few rows matched going places = λ j. record {
  rows = (rows ∙ take-replicate n 64 empty_row few) j;
  matched = matched j;
  going = going j;
  places = places j;
}

-- what was noted of a slot is what stands in the file
pub noted_same : (n t : ℕ) (read : SlotRead) (value : FileSlot) (old new : Judge) → IsSlotRead n read value
    → before_of n new ≡ after_slot (decision_named old.scheduler) n old.rounds t (before_of n old) value
    → let noted : NotedSlot = record { rows = take n read.rows; matched = new.matched } in noted ≡ noted_of value
unfolding after_slot
noted_same n t read value old new is next = λ j. record { rows = is.rows j; matched = (next j).matched }

module _ (scheduler : Scheduler) where
  module _ (n rounds : ℕ) (slots : List FileSlot) (value : FileSlot) (old new : Judge) (judged : IsJudged scheduler n rounds slots old) where
    -- the failure of all slots, where this one and others follow
    so_far : (more : List FileSlot)
        → failure_from scheduler n rounds 0 (at_first n) ((slots ++ value ∷ []) ++ more)
        ≡ failure_with scheduler n rounds (length slots) old old.failure (value ∷ more)
    so_far more = ap (failure_from scheduler n rounds 0 (at_first n)) (append_assoc slots (value ∷ []) more) ∙ judged.found (value ∷ more)

    -- this slot may follow
    pub passed : old.failure ≡ None → new.failure ≡ None → failure_in scheduler n rounds (length slots) (before_of n old) value ≡ None
        → before_of n new ≡ after_slot scheduler n rounds (length slots) (before_of n old) value
        → ((noted : List NotedSlot) → HasNoted old.meter noted → HasNoted new.meter (noted ++ noted_of value ∷ []))
        → IsJudged scheduler n rounds (slots ++ value ∷ []) new
    passed was is why next notes =
        let count : length slots + 1 ≡ length (slots ++ value ∷ []) = sym (length_push slots value) in
        record {
          found = λ more.
              so_far more ∙ ap (λ (f : Option Failure). failure_with scheduler n rounds (length slots) old f (value ∷ more)) was
              ∙ ap (λ (r : Option Reason). failure_or (length slots) r
              (failure_from scheduler n rounds (length slots + 1) (after_slot scheduler n rounds (length slots) (before_of n old) value) more)) why
              ∙ ap (λ (b : Before). failure_from scheduler n rounds (length slots + 1) b more) (sym next)
              ∙ ap (λ (k : ℕ). failure_from scheduler n rounds k (before_of n new) more) count
              ∙ sym (ap (λ (f : Option Failure). failure_with scheduler n rounds (length (slots ++ value ∷ [])) new f more) is);
          noted = λ none. subst (HasNoted new.meter) (sym (map-append noted_of slots (value ∷ []))) (notes (map noted_of slots) (judged.noted was));
        }

  -- before the first slot
  pub begin_judged : (n rounds : ℕ) (judge : Judge) → before_of n judge ≡ at_first n → judge.failure ≡ None → HasNoted judge.meter []
      → IsJudged scheduler n rounds [] judge
  begin_judged n rounds judge same none noted = record {
    found = λ more. ap (λ (b : Before). failure_from scheduler n rounds 0 b more) (sym same)
        ∙ sym (ap (λ (f : Option Failure). failure_with scheduler n rounds 0 judge f more) none);
    noted = λ h. noted;
  }

  -- the first failure of a file of which all slots are judged
  pub whole_failure : (file : JournalFile) (judge : Judge) → IsJudged scheduler file.ports file.rounds file.slots judge
      → first_failure_under scheduler file ≡ failure_with scheduler file.ports file.rounds (length file.slots) judge judge.failure []
  unfolding first_failure_under
  whole_failure file judge judged = ap (failure_from scheduler file.ports file.rounds 0 (at_first file.ports)) (sym (append-nil file.slots)) ∙ judged.found []

  pub no_failure_so_far : (n rounds t : ℕ) (judge : Judge) (f : Option Failure) → None ≡ failure_with scheduler n rounds t judge f [] → f ≡ None
  no_failure_so_far n rounds t judge None e = refl
  no_failure_so_far n rounds t judge (Some failure) e = absurd (cc)

  pub no_verdict : (file : JournalFile) (judge : Judge) (failure : Failure) (slots : ℕ) → slots ≡ length file.slots
      → IsJudged scheduler file.ports file.rounds file.slots judge → Some failure ≡ failure_with scheduler file.ports file.rounds slots judge judge.failure []
      → No failure.slot failure.reason ≡ verdict_under scheduler file
  no_verdict file judge failure slots count judged e =
      ap (verdict_by file) (e ∙ ap (λ (k : ℕ). failure_with scheduler file.ports file.rounds k judge judge.failure []) count
      ∙ sym (whole_failure file judge judged))

  pub yes_verdict : (file : JournalFile) (judge : Judge) (slots : ℕ) (waits : List ℕ) → slots ≡ length file.slots
      → IsJudged scheduler file.ports file.rounds file.slots judge → None ≡ failure_with scheduler file.ports file.rounds slots judge judge.failure []
      → ((noted : List NotedSlot) → HasNoted judge.meter noted → waits ≡ map (λ level. longest_wait file.ports level noted) (range_with_len 0 LEVELS))
      → Yes slots waits ≡ verdict_under scheduler file
  unfolding longest_waits
  yes_verdict file judge slots waits count judged e are =
      let none : judge.failure ≡ None = no_failure_so_far file.ports file.rounds slots judge judge.failure e in
      let first : None ≡ first_failure_under scheduler file = e ∙ ap (λ (k : ℕ). failure_with scheduler file.ports file.rounds k judge judge.failure []) count
      ∙ sym (whole_failure file judge judged) in
      ap (λ (k : ℕ). Yes k waits) count
      ∙ ap (λ (xs : List ℕ). Yes (length file.slots) xs) (are (map noted_of file.slots) (judged.noted none))
      ∙ ap (verdict_by file) first
