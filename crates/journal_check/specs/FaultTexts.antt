-- The texts of faults.
use Rattle.std.specs.Prelude.{ℕ, List, ◌++◌, codes, decimal}
use Rattle.journal_check.specs.declared.verdict.JournalFault.{JournalFault}
use Rattle.journal_check.specs.declared.verdict.JournalFault.TheVariants.{Bad, OutOfMemory}

-- the text that `Display` prints of a fault
abbrev pub text_of : JournalFault → List ℕ
text_of (Bad at) = codes "bad at " ++ decimal at
text_of OutOfMemory = codes "out of memory"
