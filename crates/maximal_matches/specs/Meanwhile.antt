-- What is served while a queue waits, counted in slots.
use Rattle.std.specs.Prelude.{ℕ, ◌&&◌, not, is_some, List, count_by}
use Rattle.std.specs.List.{list_any}
use Rattle.rotating_pick.specs.declared.kinds.Kind.TheVariants.{Uni}
use Rattle.slot_match.specs.Matches.{fed_of}
use Rattle.slot_match.specs.Parts.{is_from}
use Rattle.eslip_rounds.specs.Decisions.{is_fed}
use Rattle.service_bound.specs.Waits.{NotedSlot, is_waiting}

-- in how many of the slots queue (i, j, level) waits
abbrev pub slots_waited : List NotedSlot → ℕ → ℕ → ℕ → ℕ
slots_waited slots i j level = count_by (λ slot. is_waiting slot i j level) slots

-- in how many its input is matched, but not for this queue
abbrev pub slots_sent_another : List NotedSlot → ℕ → ℕ → ℕ → ℕ
slots_sent_another slots i j level = count_by (λ slot. list_any (is_from i) slot.matched && not (is_fed i level Uni (fed_of slot.matched j))) slots

-- in how many output j is matched, but with another input than i
abbrev pub slots_fed_by_another : List NotedSlot → ℕ → ℕ → ℕ
slots_fed_by_another slots i j = count_by (λ slot. is_some (fed_of slot.matched j) && not (is_from i (fed_of slot.matched j))) slots
