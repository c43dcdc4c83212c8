-- What the steps of a check answer: what stands at a place in the bytes or where the first bad field is, and what
-- is known of the slots so far.
use Rattle.std.specs.Prelude.{◌≡◌, ◌≢◌, ℕ, ◌+◌, ◌-◌, ◌<◌, ◌≤◌, ◌++◌, slice_index, List, Option, None, Some, Ok, Err, length, drop, take, map}
use Rattle.slot_match.specs.Rows.{AreWithin}
use Rattle.eslip_rounds.specs.Schedulers.{Scheduler}
use Rattle.service_bound.specs.MeterSteps.{HasNoted}
use Rattle.journal_check.specs.declared.header.Header.{Header}
use Rattle.journal_check.specs.declared.slots.SlotRead.{SlotRead}
use Rattle.journal_check.specs.declared.verdict.Failure.{Failure}
use Rattle.journal_check.specs.declared.judge.Judge.{Judge}
use Rattle.journal_check.specs.Fields.{Reading}
use Rattle.journal_check.specs.Files.{FileSlot, rows_of, mores_of}
use Rattle.journal_check.specs.Lawful.{Before, at_first, failure_from}
use Rattle.journal_check.specs.Verdicts.{noted_of}

-- from place `at` on the bytes read as x, and go on at place `next`
pub record IsRead {X : Type 0} (read : List ℕ → Reading X) (bytes : List ℕ) (at : ℕ) (x : X) (next : ℕ) : Type 0 where
  pub within : next ≤ length bytes
  pub reads : read (drop at bytes) ≡ Ok (x, drop next bytes)

-- from place `at` on the first bad field is at place `bad`
pub record IsBadAt {X : Type 0} (read : List ℕ → Reading X) (bytes : List ℕ) (at bad : ℕ) : Type 0 where
  pub within : bad ≤ length bytes
  pub fails : read (drop at bytes) ≡ Err (drop bad bytes)

-- the first n places keep what stands in the slot of a file
pub record IsSlotRead (n : ℕ) (read : SlotRead) (slot : FileSlot) : Type 0 where
  pub rows : take n read.rows ≡ rows_of slot
  pub more : take n read.more ≡ mores_of slot
  pub outputs : take n read.fed ≡ slot.matched

-- what a file's header may tell
pub record IsHeader (header : Header) : Type 0 where
  pub ports_some : 0 < header.ports
  pub ports_few : header.ports ≤ 64
  pub rounds_some : 0 < header.rounds
  pub rounds_few : header.rounds ≤ 64
  pub slots_some : 0 < header.slots
  pub slots_few : header.slots ≤ 262145

-- what the next slot is judged by
abbrev pub before_of : ℕ → Judge → Before
before_of n judge = record { rows = take n judge.rows; matched = judge.matched; going = judge.going; places = judge.pointers }

-- the first failure of all slots, where this is the one of the slots so far and these slots follow slot t
abbrev pub failure_with : Scheduler → ℕ → ℕ → ℕ → Judge → Option Failure → List FileSlot → Option Failure
failure_with scheduler n rounds t judge None slots = failure_from scheduler n rounds t (before_of n judge) slots
failure_with scheduler n rounds t judge (Some failure) slots = Some failure

-- what a judge keeps is for n ports and these rounds, the rows of the slot before name none but the ports, and its meter has noted no more than t slots
pub record IsFor (n rounds t : ℕ) (judge : Judge) : Type 0 where
  pub ports_some : 0 < n
  pub ports_few : n ≤ 64
  pub rounds_some : 0 < rounds
  pub rounds_few : rounds ≤ 64
  pub rounds_are : judge.rounds ≡ rounds
  pub rows : AreWithin n (take n judge.rows)
  pub matched : length judge.matched ≡ n
  pub pointers : judge.pointers.ports ≡ n
  pub meter : judge.meter.ports ≡ n
  pub count : judge.meter.count ≤ t

-- the slots so far are judged: their first failure is known, whatever follows, and where they have none their waits
-- are noted
pub record IsJudged (scheduler : Scheduler) (n rounds : ℕ) (slots : List FileSlot) (judge : Judge) : Type 0 where
  pub found : (more : List FileSlot)
      → failure_from scheduler n rounds 0 (at_first n) (slots ++ more) ≡ failure_with scheduler n rounds (length slots) judge judge.failure more
  pub noted : judge.failure ≡ None → HasNoted judge.meter (map noted_of slots)

-- bit k is that of one of the first `count` sets, from bit `first` on, and the set is not empty
pub record IsFlag (sets : List ℕ) (first count k : ℕ) : Type 0 where
  pub from : first ≤ k
  pub below : k < first + count
  pub some : slice_index sets (k - first) ≢ 0
