-- The words of how the rounds of a slot were used.
use Rattle.islip_rounds.specs.declared.numbers.RoundsUsed.{RoundsUsed}
use Rattle.scheduler_c.specs.declared.words.RoundsWords.{RoundsWords}

-- the numbers that the words are
abbrev pub numbers_from : RoundsWords → RoundsUsed
numbers_from words = record { used = words.used; first = words.first; last_added = words.last_added }
