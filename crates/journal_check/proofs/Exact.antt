-- The answer to bytes says exactly what they are.
use Rattle.std.proofs.Common.{◌≡◌, ◌↔◌, ◌∙◌, ℕ, ◌+◌, ◌<◌, List, [], ◌∷◌, map, length, Option, None, Some, All, Result, Ok, Err, refl, sym, ap}
use Rattle.std.specs.List.{range_with_len}
use Rattle.rotating_pick.specs.declared.limits.TheConstants.{LEVELS}
use Rattle.slot_match.specs.declared.matching.Fed.{Fed}
use Rattle.eslip_rounds.specs.Schedulers.{Scheduler, IsScheduler}
use Rattle.service_bound.specs.Waits.{NotedSlot, noted_of as noted_of_decided, longest_wait}
use Rattle.journal_check.specs.declared.verdict.Reason.{Reason}
use Rattle.journal_check.specs.declared.verdict.Failure.{Failure}
use Rattle.journal_check.specs.declared.verdict.JournalFault.{JournalFault}
use Rattle.journal_check.specs.declared.verdict.Verdict.{Verdict}
use Rattle.journal_check.specs.declared.verdict.Verdict.TheVariants.{Yes, No}
use Rattle.journal_check.specs.Files.{FileSlot, JournalFile, rows_of, journal_in}
use Rattle.journal_check.specs.Texts.{IsFile}
use Rattle.journal_check.specs.Lawful.{Before, at_first, decided_in, after_slot, decided_from, decided_slots_under, MayFollowAll}
use Rattle.journal_check.specs.Lawful.{first_failure_under, IsLawfulUnder}
use Rattle.journal_check.specs.Verdicts.{noted_of, longest_waits, verdict_by, answer_by, answer_under}
use Rattle.journal_check.specs.Failures.{schedule_waits_under, AreLawfulUnder, AreNotLawfulUnder}
use Rattle.journal_check.proofs.FilesAgain.{journal_again}
use Rattle.journal_check.proofs.FilesSpelled.{told_is_spelled}
use Rattle.journal_check.proofs.ReadFiles.{told_is_file}
use Rattle.journal_check.proofs.LawfulFiles.{file_failure, lawful_answer}
use Rattle.journal_check.proofs.FirstFailures.{failure, file_fails}

module _ (scheduler : Scheduler) (scheduling : IsScheduler scheduler) where
  -- ---- the waits of a lawful file are those of its schedule
  noted_alike : (n rounds t : ℕ) (before : Before) (slots : List FileSlot) → MayFollowAll scheduler n rounds t before slots
      → map noted_of_decided (decided_from scheduler n rounds t before.places slots) ≡ map noted_of slots
  unfolding after_slot
  noted_alike n rounds t before [] lawful = refl
  noted_alike n rounds t before (slot ∷ slots) lawful =
      let rest = noted_alike n rounds (t + 1) (after_slot scheduler n rounds t before slot) slots lawful.1 in
      let later = map noted_of_decided (decided_from scheduler n rounds (t + 1) (decided_in scheduler n rounds t before slot).places slots) in
      ap (λ (m : List (Option Fed)). let noted : NotedSlot = record { rows = rows_of slot; matched = m } in noted ∷ later) (sym lawful.0.decided)
      ∙ ap (λ (xs : List NotedSlot). noted_of slot ∷ xs) rest

  waits_are : (file : JournalFile) → IsLawfulUnder scheduler file → longest_waits file ≡ schedule_waits_under scheduler file
  unfolding longest_waits decided_slots_under IsLawfulUnder at_first
  waits_are file lawful =
      ap (λ (noted : List NotedSlot). map (λ level. longest_wait file.ports level noted) (range_with_len 0 LEVELS))
      (sym (noted_alike file.ports file.rounds 0 (at_first file.ports) file.slots lawful))

  -- ---- what the answer to a file tells
  abbrev answer : Verdict → Result Verdict JournalFault
  answer verdict = Ok verdict

  yes_told : (bytes : List ℕ) (file : JournalFile) → All (λ b. b < 256) bytes → journal_in bytes ≡ Ok file
      → (slots : ℕ) (longest : List ℕ) (f : Option Failure) → first_failure_under scheduler file ≡ f → answer (verdict_by file f) ≡ answer (Yes slots longest)
      → AreLawfulUnder scheduler bytes slots longest
  yes_told bytes file small is slots longest None none e =
      let good : IsFile file = told_is_file bytes file is in
      let lawful : IsLawfulUnder scheduler file = (file_failure scheduler scheduling file good).0 none in
      let same : Yes (length file.slots) (longest_waits file) ≡ Yes slots longest = cc in
      let count : length file.slots ≡ slots = cc in
      let waits : longest_waits file ≡ longest = cc in
      record {
        file = file;
        good = good;
        spelled = told_is_spelled bytes file small is;
        lawful = lawful;
        count = sym count;
        waits = sym waits
            ∙ waits_are file lawful;
      }
  yes_told bytes file small is slots longest (Some f) fails e = absurd (cc)

  no_told : (bytes : List ℕ) (file : JournalFile) → All (λ b. b < 256) bytes → journal_in bytes ≡ Ok file
      → (at : ℕ) (reason : Reason) (f : Option Failure) → first_failure_under scheduler file ≡ f → answer (verdict_by file f) ≡ answer (No at reason)
      → AreNotLawfulUnder scheduler bytes at reason
  no_told bytes file small is at reason None none e = absurd (cc)
  no_told bytes file small is at reason (Some f) fails e =
      let good : IsFile file = told_is_file bytes file is in
      let same : No f.slot f.reason ≡ No at reason = cc in
      let slot : f.slot ≡ at = cc in
      let why : f.reason ≡ reason = cc in
      let first : first_failure_under scheduler file ≡ Some (failure at reason) = fails ∙ ap (λ k. Some (failure k f.reason)) slot
      ∙ ap (λ r. Some (failure at r)) why in
      record { file = file; good = good; spelled = told_is_spelled bytes file small is; first = (file_fails scheduler scheduling file good at reason).0 first }

  yes_read : (bytes : List ℕ) → All (λ b. b < 256) bytes → (slots : ℕ) (longest : List ℕ) (r : Result JournalFile ℕ) → journal_in bytes ≡ r
      → answer_by scheduler r ≡ answer (Yes slots longest) → AreLawfulUnder scheduler bytes slots longest
  yes_read bytes small slots longest (Ok file) is e = yes_told bytes file small is slots longest (first_failure_under scheduler file) refl e
  yes_read bytes small slots longest (Err at) is e = absurd (cc)

  no_read : (bytes : List ℕ) → All (λ b. b < 256) bytes → (at : ℕ) (reason : Reason) (r : Result JournalFile ℕ) → journal_in bytes ≡ r
      → answer_by scheduler r ≡ answer (No at reason) → AreNotLawfulUnder scheduler bytes at reason
  no_read bytes small at reason (Ok file) is e = no_told bytes file small is at reason (first_failure_under scheduler file) refl e
  no_read bytes small at reason (Err bad) is e = absurd (cc)

  pub yes_exact : (bytes : List ℕ) (slots : ℕ) (longest : List ℕ) → All (λ b. b < 256) bytes
      → (answer_under scheduler bytes ≡ Ok (Yes slots longest)) ↔ AreLawfulUnder scheduler bytes slots longest
  unfolding answer_under
  yes_exact bytes slots longest small = (
    yes_read bytes small slots longest (journal_in bytes) refl,
    λ are.
        ap (answer_under scheduler) are.spelled ∙ lawful_answer scheduler scheduling are.file are.good are.lawful
        ∙ ap (λ k. answer (Yes k (longest_waits are.file))) (sym are.count)
        ∙ ap (λ waits. answer (Yes slots waits)) (waits_are are.file are.lawful ∙ sym are.waits),
  )

  pub no_exact : (bytes : List ℕ) (at : ℕ) (reason : Reason) → All (λ b. b < 256) bytes
      → (answer_under scheduler bytes ≡ Ok (No at reason)) ↔ AreNotLawfulUnder scheduler bytes at reason
  unfolding answer_under
  no_exact bytes at reason small = (
    no_read bytes small at reason (journal_in bytes) refl,
    λ are.
        ap (answer_under scheduler) are.spelled ∙ ap (answer_by scheduler) (journal_again are.file are.good)
        ∙ ap (λ (f : Option Failure). answer (verdict_by are.file f)) ((file_fails scheduler scheduling are.file are.good at reason).1 are.first),
  )
