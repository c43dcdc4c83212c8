-- The texts of faults.
use Rattle.std.specs.Prelude.{ℕ, List, codes}
use Rattle.switch_words.specs.declared.fault.WordsFault.{WordsFault}
use Rattle.switch_words.specs.declared.fault.WordsFault.TheVariants.{Usage, OutOfMemory}

-- the text that `Display` prints of a fault
abbrev pub text_of : WordsFault → List ℕ
text_of Usage = codes "usage"
text_of OutOfMemory = codes "out of memory"
