-- Meters: what a meter of waits keeps of the slots that it has noted.
use Rattle.std.specs.Prelude.{◌≡◌, ℕ, ◌+◌, ◌-◌, ◌*◌, ◌<◌, ◌≤◌, ◌==◌, Bool, true, false, max, if◌then◌else◌, List, [], ◌∷◌, Option, None}
use Rattle.std.specs.Prelude.{length, map, replicate, slice_index, slice_index_or}
use Rattle.std.specs.List.{flat_map, range_with_len}
use Rattle.std.specs.Int.{bit_at}
use Rattle.rotating_pick.specs.PortSets.{Has}
use Rattle.rotating_pick.specs.declared.limits.TheConstants.{LEVELS, MAX_PORTS}
use Rattle.slot_match.specs.declared.matching.Fed.{Fed}
use Rattle.slot_match.specs.declared.matching.Served.{Served}
use Rattle.slot_match.specs.Matches.{IsMatch}
use Rattle.slot_match.specs.Parts.{served_of}
use Rattle.service_bound.specs.Waits.{NotedSlot, is_waiting, waits_from, greatest}

-- what is kept of the queues of one input at a level: the outputs whose queue waits, for each output the
-- slot in which its queue began to wait, and the longest wait that has ended
pub record Queues : Type 0 where
  pub waiting : ℕ
  pub began : List ℕ
  pub ended : ℕ

-- a meter: the ports of the switch, how many slots were noted, and for each input the queues of each level
pub record Meter : Type 0 where
  pub ports : ℕ
  pub count : ℕ
  pub queues : List Queues

-- the queues of an input at a level, before any slot
abbrev pub queues_at_first : Queues
queues_at_first = record { waiting = 0; began = replicate MAX_PORTS 0; ended = 0 }

-- the place of an input's queues of the level among all
abbrev pub place_of : ℕ → ℕ → ℕ
place_of i level = LEVELS * i + level

-- the queues at a place
abbrev pub queues_at : List Queues → ℕ → Queues
queues_at queues place = slice_index_or queues place queues_at_first

-- the wait of the queue to output j after `count` slots: the slots since it began, if it waits
abbrev pub wait_at : Queues → ℕ → ℕ → ℕ
wait_at queues count j = if bit_at queues.waiting j == 1 then count - slice_index queues.began j else 0

-- the greatest of the waits of these outputs after `count` slots, where the waits began in these slots
abbrev pub longest_of : List ℕ → ℕ → ℕ → ℕ
longest_of began outputs count =
    greatest (map (wait_at (record { waiting = outputs; began = began; ended = 0 }) count) (range_with_len 0 (length began)))

-- the longest wait of the queues so far: the longest that has ended, or the longest that goes on
abbrev pub longest_at : Queues → ℕ → ℕ
longest_at queues count = max queues.ended (longest_of queues.began queues.waiting count)

-- these outputs are some of the queues', whose waits began in the first `count` slots
abbrev pub HaveBegun : List ℕ → ℕ → ℕ → Type 0
HaveBegun began outputs count = (j : ℕ) → Has outputs j → (j < length began) × (slice_index began j < count)

-- the queues after `count` slots
pub record AreBegun (count : ℕ) (queues : Queues) : Type 0 where
  pub long : length queues.began ≡ MAX_PORTS
  pub begun : HaveBegun queues.began queues.waiting count

-- what one slot more, in which the queues with the test wait, makes of the queues
pub record NotesSlot (count : ℕ) (waits_now : ℕ → Bool) (old new : Queues) : Type 0 where
  pub long : length new.began ≡ length old.began
  pub begun : HaveBegun new.began new.waiting (count + 1)
  pub among : (j : ℕ) → Has new.waiting j → waits_now j ≡ true
  pub waits : (j : ℕ) → wait_at new (count + 1) j ≡ (if waits_now j then wait_at old count j + 1 else 0)
  pub longest : longest_at new (count + 1) ≡ max (longest_at old count) (longest_of new.began new.waiting (count + 1))

-- the wait of the queue in the last of the slots, and 0 before the first
abbrev pub wait_after : List NotedSlot → ℕ → ℕ → ℕ → ℕ
wait_after slots i j level = slice_index (waits_from 0 slots i j level) (length slots - 1)

-- the n queues of input i at the level stand as after these slots: each waits as in the last one, and
-- the longest wait is the greatest of all
pub record HaveNoted (n : ℕ) (slots : List NotedSlot) (i level : ℕ) (queues : Queues) : Type 0 where
  pub long : length queues.began ≡ MAX_PORTS
  pub begun : HaveBegun queues.began queues.waiting (length slots)
  pub among : (j : ℕ) → Has queues.waiting j → j < n
  pub waits : (j : ℕ) → j < n → wait_at queues (length slots) j ≡ wait_after slots i j level
  pub longest : longest_at queues (length slots) ≡ greatest (flat_map (λ j. waits_from 0 slots i j level) (range_with_len 0 n))

-- the meter has noted these slots
pub record HasNoted (meter : Meter) (slots : List NotedSlot) : Type 0 where
  pub some : 0 < meter.ports
  pub size : meter.ports ≤ MAX_PORTS
  pub count : meter.count ≡ length slots
  pub long : length meter.queues ≡ LEVELS * meter.ports
  pub queues : (i level : ℕ) → i < meter.ports → level < LEVELS → HaveNoted meter.ports slots i level (queues_at meter.queues (place_of i level))

-- these are the parts of the n inputs in the match
pub record HasParts (n : ℕ) (matched : List (Option Fed)) (parts : List (Option Served)) : Type 0 where
  pub whole : IsMatch n matched
  pub each : (i : ℕ) → i < n → slice_index_or parts i None ≡ served_of matched i

-- whether the queue waited in the last of these slots; before the first it did not
abbrev pub was_waiting : List NotedSlot → ℕ → ℕ → ℕ → Bool
was_waiting [] i j level = false
was_waiting (slot ∷ []) i j level = is_waiting slot i j level
was_waiting (slot ∷ next ∷ slots) i j level = was_waiting (next ∷ slots) i j level

-- the queues of the n inputs that are not members of `news` wait in the slot as in the last of those before
abbrev pub WaitsAreKept : ℕ → ℕ → List NotedSlot → NotedSlot → Type 0
WaitsAreKept n news slots slot = (i j level : ℕ) → i < n → level < LEVELS → (Has news i → ⊥) → is_waiting slot i j level ≡ was_waiting slots i j level
