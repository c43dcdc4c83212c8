-- The multicast queues of an input, one for each level: lists of cells with their fan-outs.
use Rattle.std.specs.Prelude.{◌≡◌, ◌≢◌, ◌↔◌, ℕ, ◌-◌, List, [], ◌∷◌, ◌++◌, Option, Some, None, map, drop, slice_index_or}
use Rattle.cell_cutter.specs.declared.cell.CellName.{CellName}
use Rattle.rotating_pick.specs.PortSets.{Has}
use Rattle.voq_banks.specs.declared.ring.QueuedCell.{QueuedCell}
use Rattle.voq_banks.specs.CellQueues.{cells_with_fan}

-- a cell, and all outputs that it goes to
abbrev pub FanCell : Type 0
FanCell = QueuedCell ℕ

-- a queue: the cells that wait, those outputs of the first one's fan-out that were not served yet (none
-- where no cell waits), and how many packets may still enter
pub record FanQueue : Type 0 where
  pub cells : List FanCell
  pub rest : ℕ
  pub spare : ℕ

-- the queues of an input, level by level, with the ports of its switch and the most cells of each
pub record Queues : Type 0 where
  pub ports : ℕ
  pub depth : ℕ
  pub queues : List FanQueue

-- the name of the first cell
abbrev pub first_name : List FanCell → Option CellName
first_name [] = None
first_name (cell ∷ cells) = Some cell.name

-- the whole fan-out of the first cell
abbrev pub first_fan : List FanCell → ℕ
first_fan [] = 0
first_fan (cell ∷ cells) = cell.fan

-- the rest of the head's fan-out where cells of this fan-out have entered: theirs where no cell waited
abbrev pub rest_with : List FanCell → ℕ → ℕ → ℕ
rest_with [] rest fan = fan
rest_with (cell ∷ cells) rest fan = rest

-- a queue that the cells of a packet have entered
abbrev pub queue_with : FanQueue → ℕ → ℕ → ℕ → FanQueue
queue_with queue packet cells fan = record {
  cells = queue.cells ++ cells_with_fan packet cells fan;
  rest = rest_with queue.cells queue.rest fan;
  spare = queue.spare - 1;
}

-- an empty queue that `packets` packets will enter
abbrev pub empty_queue : ℕ → FanQueue
empty_queue packets = record { cells = []; rest = 0; spare = packets }

-- the queue of a level
abbrev pub queue_at : Queues → ℕ → FanQueue
queue_at all level = slice_index_or all.queues level (empty_queue 0)

-- queues of which none has a cell, where `room` says how many packets will enter each
abbrev pub empty_queues : ℕ → ℕ → List ℕ → Queues
empty_queues ports depth room = record { ports = ports; depth = depth; queues = map empty_queue room }

-- the head has left: the next cell, if any, is head with its whole fan-out
pub record HeadLeaves (old new : FanQueue) : Type 0 where
  pub cells : new.cells ≡ drop 1 old.cells
  pub rest : new.rest ≡ first_fan new.cells

-- the head stays, and some outputs are out of the rest of its fan-out
pub record HeadStays (served : ℕ) (old new : FanQueue) : Type 0 where
  pub cells : new.cells ≡ old.cells
  pub rest : (output : ℕ) → Has new.rest output ↔ (Has old.rest output × (Has served output → ⊥))

-- all stays but the queue of one level
pub record OthersStay (level : ℕ) (old new : Queues) : Type 0 where
  pub ports : new.ports ≡ old.ports
  pub depth : new.depth ≡ old.depth
  pub queues : (l : ℕ) → l ≢ level → queue_at new l ≡ queue_at old l
