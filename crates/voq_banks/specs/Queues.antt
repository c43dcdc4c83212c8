-- The unicast queues of an input, one for each output and level: lists of cells.
use Rattle.std.specs.Prelude.{◌≡◌, ℕ, ◌+◌, ◌*◌, ◌<◌, List, [], length, map, slice_index, slice_index_or}
use Rattle.rotating_pick.specs.declared.limits.TheConstants.{LEVELS}
use Rattle.cell_cutter.specs.declared.cell.CellName.{CellName}

-- the queues of an input: the ports of its switch, the most cells that each queue may have, the cells
-- that wait in each, and how many packets may still enter each
pub record Queues : Type 0 where
  pub ports : ℕ
  pub depth : ℕ
  pub queues : List (List CellName)
  pub spare : List ℕ

-- the place of the queue of an output and a level among all
abbrev pub place_of : ℕ → ℕ → ℕ
place_of output level = LEVELS * output + level

-- the cells that wait for the output at the level, the first to leave first
abbrev pub queue_at : Queues → ℕ → ℕ → List CellName
queue_at all output level = slice_index_or all.queues (place_of output level) []

-- how many packets may still enter that queue
abbrev pub spare_at : Queues → ℕ → ℕ → ℕ
spare_at all output level = slice_index all.spare (place_of output level)

-- a cell waits for the output at the level
abbrev pub Waits : Queues → ℕ → ℕ → Type 0
Waits all output level = 0 < length (queue_at all output level)

-- queues of which none has a cell, where `room` says how many packets will enter each
abbrev pub empty_queues : ℕ → ℕ → List ℕ → Queues
empty_queues ports depth room = record { ports = ports; depth = depth; queues = map (λ _. []) room; spare = room }

-- all stays but the queue of one output and level
pub record OthersStay (output level : ℕ) (old new : Queues) : Type 0 where
  pub ports : new.ports ≡ old.ports
  pub depth : new.depth ≡ old.depth
  pub queues : (j l : ℕ) → l < LEVELS → ((j ≡ output) × (l ≡ level) → ⊥) → queue_at new j l ≡ queue_at old j l
  pub spare : (j l : ℕ) → l < LEVELS → ((j ≡ output) × (l ≡ level) → ⊥) → spare_at new j l ≡ spare_at old j l
