-- A call for one slot of four levels, by what is passed and by what comes back.
use Rattle.std.specs.Prelude.{◌≡◌, ℕ, List, length}
use Rattle.slot_match.specs.declared.rows.Row.{Row}
use Rattle.slot_match.specs.Rows.{AreWithin}
use Rattle.pointer_state.specs.declared.caller_tables.PointerTables.{PointerTables}
use Rattle.pointer_state.specs.CallerTables.{AreInRange, places_from}
use Rattle.eslip_rounds.specs.Slots.{Decision}
use Rattle.scheduler_c.specs.declared.words.RoundsWords.{RoundsWords}
use Rattle.scheduler_c.specs.declared.feeds.FeedWords.{FeedWords}
use Rattle.scheduler_c.specs.Words.{IsSize}
use Rattle.scheduler_c.specs.Numbers.{numbers_from}
use Rattle.scheduler_c.specs.Feeds.{matched_from}

-- what is passed may be: there is a row for each of n inputs, which names none but the outputs, all pointers are
-- at ports, and there are words for n outputs
pub record IsCall (n rounds : ℕ) (rows : List Row) (pointers : PointerTables) (feeds : List FeedWords) : Type 0 where
  pub size : IsSize n rounds
  pub within : AreWithin n rows
  pub in_range : AreInRange n pointers
  pub outputs : length feeds ≡ n

-- the decision that comes back for n ports: the match, the numbers, and where the pointers are after it
abbrev pub decision_from : ℕ → List FeedWords → RoundsWords → PointerTables → Decision
decision_from n feeds used pointers = record { matched = matched_from feeds; numbers = numbers_from used; places = places_from n pointers }
