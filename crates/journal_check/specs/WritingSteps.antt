-- What a writer of a journal file has of it, slot by slot.
use Rattle.std.specs.Prelude.{◌≡◌, ◌≤◌, ℕ, List, ◌++◌, length}
use Rattle.std.specs.List.{flat_map}
use Rattle.journal_check.specs.declared.limits.TheConstants.{MAX_JOURNAL_BYTES}
use Rattle.journal_check.specs.Files.{JournalFile}
use Rattle.journal_check.specs.Texts.{header_text, slot_text, file_text}

-- the setup, how many slots there are so far, how many bytes their file has, and those that are kept of it
pub record WriterValue : Type 0 where
  pub ports : ℕ
  pub rounds : ℕ
  pub slots : ℕ
  pub len : ℕ
  pub bytes : List ℕ

-- The writer is at this file: it counts its slots and its bytes, and keeps all bytes, with 0 in place of the number of
-- slots, while these are no more than a file may have.
pub record IsWriting (file : JournalFile) (writer : WriterValue) : Type 0 where
  pub ports : writer.ports ≡ file.ports
  pub rounds : writer.rounds ≡ file.rounds
  pub slots : writer.slots ≡ length file.slots
  pub len : writer.len ≡ length (file_text file)
  pub bytes : writer.len ≤ MAX_JOURNAL_BYTES → writer.bytes ≡ header_text file.ports file.rounds 0 ++ flat_map slot_text file.slots
