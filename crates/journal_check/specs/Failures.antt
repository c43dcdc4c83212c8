-- What the answer to a file says, in the words of lawful files: the waits of the schedule of a lawful file, and the first
-- failure of another, with what holds before it.
-- What ends in `under` or `Under` is of any scheduler.
use Rattle.std.specs.Prelude.{◌≡◌, ℕ, ◌+◌, ◌-◌, ◌<◌, ◌⊎◌, true, false, List, [], ◌∷◌, length, map, slice_index_or}
use Rattle.std.specs.List.{range_with_len}
use Rattle.rotating_pick.specs.declared.limits.TheConstants.{LEVELS}
use Rattle.slot_match.specs.Rows.{row_of, IsEmptyRow}
use Rattle.slot_match.specs.Matches.{fed_of}
use Rattle.slot_match.specs.Keeping.{KeepsRest, Gives}
use Rattle.slot_match.specs.Parts.{served_of}
use Rattle.eslip_rounds.specs.Schedulers.{Scheduler}
use Rattle.service_bound.specs.Waits.{noted_of, longest_wait}
use Rattle.journal_check.specs.declared.verdict.Reason.{Reason}
use Rattle.journal_check.specs.declared.verdict.Reason.TheVariants.{AfterEnd, More, Keeps, Output, NoEnd}
use Rattle.journal_check.specs.Files.{FileSlot, JournalFile, rows_of, mores_of}
use Rattle.journal_check.specs.Texts.{IsFile, file_text}
use Rattle.journal_check.specs.Lawful.{Before, at_first, decided_in, after_slot, decided_slots_under, MayFollow, IsLawfulUnder}

-- the longest wait of each level in the schedule that the file's rows give
abbrev pub schedule_waits_under : Scheduler → JournalFile → List ℕ
schedule_waits_under scheduler file =
    map (λ level. longest_wait file.ports level (map noted_of (decided_slots_under scheduler file))) (range_with_len 0 LEVELS)

-- card i's row is empty, or its post says that more is to come
abbrev pub HasMore : FileSlot → ℕ → Type 0
HasMore slot i = IsEmptyRow (row_of (rows_of slot) i) ⊎ (slice_index_or (mores_of slot) i false ≡ true)

-- card i's row keeps its row of the slot before, of which the match served its part
abbrev pub KeepsRow : Before → FileSlot → ℕ → Type 0
KeepsRow before slot i = KeepsRest (Gives (served_of before.matched i)) (row_of before.rows i) (row_of (rows_of slot) i)

-- output j is fed as the scheduler decides
abbrev pub IsFedAsDecided : Scheduler → ℕ → ℕ → ℕ → Before → FileSlot → ℕ → Type 0
IsFedAsDecided scheduler n rounds t before slot j = fed_of slot.matched j ≡ fed_of (decided_in scheduler n rounds t before slot).matched j

-- this holds of all numbers below n
abbrev pub HoldsBelow : ℕ → (ℕ → Type 0) → Type 0
HoldsBelow n Holds = (i : ℕ) → i < n → Holds i

-- k is the first number below n of which this does not hold
pub record IsFirstWithout (n : ℕ) (Holds : ℕ → Type 0) (k : ℕ) : Type 0 where
  pub inside : k < n
  pub fails : Holds k → ⊥
  pub earlier : HoldsBelow k Holds

-- Slot t fails for this reason, and for none that comes before it: no more was to come; the first card that lacks `more`;
-- the first card whose row does not keep the one before; the first output that is not fed as is decided.
abbrev pub FailsBy : Scheduler → ℕ → ℕ → ℕ → Before → FileSlot → Reason → Type 0
FailsBy scheduler n rounds t before slot AfterEnd = before.going ≡ false
FailsBy scheduler n rounds t before slot (More i) = (before.going ≡ true) × IsFirstWithout n (HasMore slot) i
FailsBy scheduler n rounds t before slot (Keeps i) = (before.going ≡ true) × HoldsBelow n (HasMore slot) × IsFirstWithout n (KeepsRow before slot) i
FailsBy scheduler n rounds t before slot (Output j) =
    (before.going ≡ true) × HoldsBelow n (HasMore slot) × HoldsBelow n (KeepsRow before slot)
    × IsFirstWithout n (IsFedAsDecided scheduler n rounds t before slot) j
FailsBy scheduler n rounds t before slot NoEnd = ⊥

-- Of the slots from slot t on this one is the first that fails, for this reason: it fails, and each before it may follow what
-- is before it; or all may follow, and after the last one more is to come.
abbrev pub FailsFirst : Scheduler → ℕ → ℕ → ℕ → Before → List FileSlot → ℕ → Reason → Type 0
FailsFirst scheduler n rounds t before [] at reason = (before.going ≡ true) × (at ≡ t - 1) × (reason ≡ NoEnd)
FailsFirst scheduler n rounds t before (slot ∷ slots) at reason =
    ((at ≡ t) × FailsBy scheduler n rounds t before slot reason)
    ⊎ (MayFollow scheduler n rounds t before slot × FailsFirst scheduler n rounds (t + 1) (after_slot scheduler n rounds t before slot) slots at reason)

-- this slot of the file is the first that fails, for this reason
unfoldable pub IsFirstFailureUnder : Scheduler → JournalFile → ℕ → Reason → Type 0
IsFirstFailureUnder scheduler file at reason = FailsFirst scheduler file.ports file.rounds 0 (at_first file.ports) file.slots at reason

-- The bytes are those of a lawful file of so many slots, and these are the longest waits in its schedule.
pub record AreLawfulUnder (scheduler : Scheduler) (bytes : List ℕ) (slots : ℕ) (longest : List ℕ) : Type 0 where
  pub file : JournalFile
  pub good : IsFile file
  pub spelled : bytes ≡ file_text file
  pub lawful : IsLawfulUnder scheduler file
  pub count : slots ≡ length file.slots
  pub waits : longest ≡ schedule_waits_under scheduler file

-- The bytes are those of a file of which this slot is the first that fails, for this reason.
pub record AreNotLawfulUnder (scheduler : Scheduler) (bytes : List ℕ) (at : ℕ) (reason : Reason) : Type 0 where
  pub file : JournalFile
  pub good : IsFile file
  pub spelled : bytes ≡ file_text file
  pub first : IsFirstFailureUnder scheduler file at reason
