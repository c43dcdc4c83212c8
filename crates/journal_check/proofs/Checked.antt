-- All slots of a file, read and judged one after another, and the answer to the file.
use Rattle.std.proofs.Common.{◌≡◌, ℕ, ◌<◌, ◌≤◌, ◌∙◌, List, [], ◌∷◌, length, drop, Result, Ok, Err, refl, ap, arith}
use Rattle.std.specs.List.{range_with_len}
use Rattle.std.proofs.lemmas.List.{length-drop, nil_from_length}
use Rattle.eslip_rounds.specs.Schedulers.{Scheduler}
use Rattle.scheduler_names.specs.declared.names.SchedulerName.{SchedulerName}
use Rattle.named_schedulers.specs.Named.{decision_named}
use Rattle.journal_check.specs.declared.header.Header.{Header}
use Rattle.journal_check.specs.declared.judge.Judge.{Judge}
use Rattle.journal_check.specs.declared.verdict.Verdict.{Verdict}
use Rattle.journal_check.specs.declared.verdict.JournalFault.{JournalFault}
use Rattle.journal_check.specs.declared.verdict.JournalFault.TheVariants.{Bad}
use Rattle.journal_check.specs.Fields.{Reading, each_in}
use Rattle.journal_check.specs.Files.{FileSlot, JournalFile, slot_in, header_in, end_in, file_in, place_in, told_by, journal_in}
use Rattle.journal_check.specs.Verdicts.{verdict_under, answer_by, answer_under}
use Rattle.journal_check.specs.Steps.{IsRead, IsBadAt, IsFor, IsJudged}
use Rattle.journal_check.proofs.Loops.{with_front, left_in, step_err}

module _ (name : SchedulerName) where
  -- the first t slots are read and judged, and the next stands at `at`
  pub record AreSlotsJudged (n rounds total : ℕ) (bytes : List ℕ) (t at : ℕ) (judge : Judge) : Type 0 where
    pub slots : List FileSlot
    pub count : length slots ≡ t
    pub within : at ≤ length bytes
    pub whole : each_in (λ k. slot_in n) (range_with_len 0 total) (drop 12 bytes) ≡ with_front slots (left_in (λ k. slot_in n) t total (drop at bytes))
    pub named : judge.scheduler ≡ name
    pub judged : IsJudged (decision_named name) n rounds slots judge
    pub ready : IsFor n rounds t judge

  module _ (n rounds total : ℕ) (bytes : List ℕ) where
    pub slots_fail : (t at bad : ℕ) (judge : Judge) → t < total → AreSlotsJudged n rounds total bytes t at judge → IsBadAt (slot_in n) bytes at bad
        → IsBadAt (each_in (λ t. slot_in n) (range_with_len 0 total)) bytes 12 bad
    slots_fail t at bad judge below so_far here = record {
      within = here.within;
      fails = so_far.whole ∙ step_err (λ k. slot_in n) so_far.slots t total (drop at bytes) (drop bad bytes) below here.fails;
    }

-- ---- the answer

module _ (scheduler : Scheduler) (bytes : List ℕ) where
  bad_answer : (bad : ℕ) → bad ≤ length bytes → file_in bytes ≡ Err (drop bad bytes) → answer_under scheduler bytes ≡ Err (Bad bad)
  unfolding answer_under journal_in
  bad_answer bad within e =
      let place : place_in bytes (drop bad bytes) ≡ bad = omega (arith, length-drop bad bytes) in
      ap (λ (r : Reading JournalFile). answer_by scheduler (told_by bytes r)) e ∙ ap (λ (at : ℕ). let a : Result Verdict JournalFault = Err (Bad at) in a) place

  header_fails : (bad : ℕ) → header_in bytes ≡ Err (drop bad bytes) → file_in bytes ≡ Err (drop bad bytes)
  unfolding file_in
  header_fails bad e = rw e refl

  pub header_bad : (bad : ℕ) → IsBadAt header_in bytes 0 bad → answer_under scheduler bytes ≡ Err (Bad bad)
  header_bad bad here = bad_answer bad here.within (header_fails bad here.fails)

  module _ (header : Header) (read : IsRead header_in bytes 0 header 12) where
    slots_fails : (bad : ℕ) → each_in (λ t. slot_in header.ports) (range_with_len 0 header.slots) (drop 12 bytes) ≡ Err (drop bad bytes)
        → file_in bytes ≡ Err (drop bad bytes)
    unfolding file_in
    slots_fails bad e = rw read.reads (rw e refl)

    pub slots_bad : (bad : ℕ) → IsBadAt (each_in (λ t. slot_in header.ports) (range_with_len 0 header.slots)) bytes 12 bad
        → answer_under scheduler bytes ≡ Err (Bad bad)
    slots_bad bad here = bad_answer bad here.within (slots_fails bad here.fails)

    module _ (slots : List FileSlot) (end : ℕ) (all : IsRead (each_in (λ t. slot_in header.ports) (range_with_len 0 header.slots)) bytes 12 slots end) where
      some_left : (xs : List ℕ) → 0 < length xs → end_in xs ≡ Err xs
      some_left [] some = absurd (omega arith)
      some_left (x ∷ xs) some = refl

      end_fails : end < length bytes → file_in bytes ≡ Err (drop end bytes)
      unfolding file_in
      end_fails below = rw read.reads (rw all.reads (rw (some_left (drop end bytes) (omega (arith, length-drop end bytes))) refl))

      pub end_bad : end < length bytes → answer_under scheduler bytes ≡ Err (Bad end)
      end_bad below = bad_answer end (omega arith) (end_fails below)

      abbrev pub whole_file : JournalFile
      whole_file = record { ports = header.ports; rounds = header.rounds; slots = slots }

      file_read : length bytes ≤ end → file_in bytes ≡ Ok (whole_file, [])
      unfolding file_in
      file_read over = let none : drop end bytes ≡ [] = nil_from_length (drop end bytes) (omega (arith, length-drop end bytes)) in
          rw read.reads (rw all.reads (rw none refl))

      pub whole_answer : length bytes ≤ end → answer_under scheduler bytes ≡ Ok (verdict_under scheduler whole_file)
      unfolding answer_under journal_in
      whole_answer over = ap (λ (r : Reading JournalFile). answer_by scheduler (told_by bytes r)) (file_read over)
