-- Waits: for how many slots, one after the other, a unicast queue was posted and not served.
use Rattle.std.specs.Prelude.{◌≡◌, ℕ, ◌+◌, ◌-◌, ◌*◌, ◌/◌, ◌==◌, ◌&&◌, Bool, false, not, nat_lt, max, if◌then◌else◌, List, [], ◌∷◌, Option}
use Rattle.std.specs.List.{flat_map, range_with_len}
use Rattle.rotating_pick.specs.declared.kinds.Kind.TheVariants.{Uni}
use Rattle.slot_match.specs.declared.rows.Row.{Row}
use Rattle.slot_match.specs.declared.matching.Fed.{Fed}
use Rattle.slot_match.specs.Rows.{row_of}
use Rattle.slot_match.specs.Matches.{fed_of}
use Rattle.eslip_rounds.specs.Decisions.{is_named, is_fed}
use Rattle.eslip_rounds.specs.Schedules.{DecidedSlot}

-- what is noted of a slot: its rows and its match
pub record NotedSlot : Type 0 where
  pub rows : List Row
  pub matched : List (Option Fed)

-- what is noted of a decided slot
abbrev pub noted_of : DecidedSlot → NotedSlot
noted_of slot = record { rows = slot.rows; matched = slot.decision.matched }

-- whether queue (i, j, level) waits in the slot: it is posted there, and not matched there as unicast of the level
abbrev pub is_waiting : NotedSlot → ℕ → ℕ → ℕ → Bool
is_waiting slot i j level = is_named (row_of slot.rows i) level Uni j && not (is_fed i level Uni (fed_of slot.matched j))

-- no queue waits in the slot
abbrev pub NoneWaits : NotedSlot → Type 0
NoneWaits slot = (i j level : ℕ) → is_waiting slot i j level ≡ false

-- the wait of the queue in the slot, where it was `before` in the slot before
abbrev pub wait_in : NotedSlot → ℕ → ℕ → ℕ → ℕ → ℕ
wait_in slot before i j level = if is_waiting slot i j level then before + 1 else 0

-- the waits of the queue slot by slot, where it was `before` before them
abbrev pub waits_from : ℕ → List NotedSlot → ℕ → ℕ → ℕ → List ℕ
waits_from before [] i j level = []
waits_from before (slot ∷ slots) i j level = wait_in slot before i j level ∷ waits_from (wait_in slot before i j level) slots i j level

-- the greatest of some numbers, and 0 of none
abbrev pub greatest : List ℕ → ℕ
greatest [] = 0
greatest (x ∷ xs) = max x (greatest xs)

-- the longest wait of the level: the greatest of all queues of a switch of n ports, in all slots
unfoldable pub longest_wait : ℕ → ℕ → List NotedSlot → ℕ
longest_wait n level slots = greatest (flat_map (λ i. flat_map (λ j. waits_from 0 slots i j level) (range_with_len 0 n)) (range_with_len 0 n))

-- In how many slots a unicast request of n ports is served at the latest, where nothing of a better level
-- and no multicast of its own is posted. Nothing is cut off by the subtraction: n is at most n * n.
abbrev pub longest_service : ℕ → ℕ
longest_service n = n * (n * n - n + 2) / 2

-- The same where slots have one round: 2 * n * n - 3 * n + 2, with the sum first, so that for one port too
-- nothing is cut off.
abbrev pub longest_service_in_one_round : ℕ → ℕ
longest_service_in_one_round n = 2 * n * n + 2 - 3 * n

-- the same by the number of rounds of a slot
abbrev pub longest_service_by : ℕ → ℕ → ℕ
longest_service_by n rounds = if rounds == 1 then longest_service_in_one_round n else longest_service n

-- The same for slots at line rate, where from one slot to the next each input begins to ask for at most one output: from
-- three ports on one slot less. Of two ports with two rounds or more these are three, whatever begins.
abbrev pub longest_service_at_line_rate : ℕ → ℕ → ℕ
longest_service_at_line_rate n rounds =
    if nat_lt 2 n then longest_service_by n rounds - 1 else (if n == 2 && not (rounds == 1) then 3 else longest_service_by n rounds)
