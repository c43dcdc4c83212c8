-- Queues of cells: what waits in a switch of made traffic, and what its inputs ask for.
use Rattle.std.specs.Prelude.{◌≡◌, ℕ, ◌+◌, ◌*◌, ◌^◌, ◌<◌, ◌≤◌, ◌==◌, ◌&&◌, Bool, false, nat_lt, if◌then◌else◌}
use Rattle.std.specs.Prelude.{List, [], ◌∷◌, ◌++◌, length, map, drop, replicate, slice_get, slice_index_or, slice_set, sum_by, Option, None, Some}
use Rattle.std.specs.List.{range_with_len}
use Rattle.rotating_pick.specs.declared.limits.TheConstants.{LEVELS, MAX_PORTS}
use Rattle.slot_match.specs.declared.rows.Row.{Row}
use Rattle.slot_match.specs.Parts.{set_of}
use Rattle.arrival_queues.specs.declared.cell.ArrivedCell.{ArrivedCell}
use Rattle.arrival_queues.specs.declared.limits.TheConstants.{MAX_CELLS}
use Rattle.arrival_queues.specs.declared.queueing.Queueing.{Queueing}
use Rattle.arrival_queues.specs.declared.queueing.Queueing.TheVariants.{ByPair, ByInput, ByOutput}

-- how many queues a switch of n ports has
abbrev pub queue_count : Queueing → ℕ → ℕ
queue_count ByPair n = n * n
queue_count ByInput n = n
queue_count ByOutput n = n

-- the queue of the cells from input i to output j, in a switch of n ports
abbrev pub queue_of : Queueing → ℕ → ℕ → ℕ → ℕ
queue_of ByPair n i j = i * n + j
queue_of ByInput n i j = i
queue_of ByOutput n i j = j

-- the queues of a switch: its ports, which cells wait in one queue, the most cells that a queue has, and the cells of
-- each queue, the first to leave first
pub record Queues : Type 0 where
  pub ports : ℕ
  pub queueing : Queueing
  pub depth : ℕ
  pub cells : List (List ArrivedCell)

-- before slot 0 no cell waits
abbrev pub empty_queues : Queueing → ℕ → ℕ → Queues
empty_queues queueing ports depth = record {
  ports = ports;
  queueing = queueing;
  depth = depth;
  cells = replicate (queue_count queueing ports) [];
}

-- the queue of the cells from input i to output j
abbrev pub queue_for : Queues → ℕ → ℕ → ℕ
queue_for queues i j = queue_of queues.queueing queues.ports i j

-- the cells of queue q
abbrev pub queue_at : Queues → ℕ → List ArrivedCell
queue_at queues q = slice_index_or queues.cells q []

-- the cells of the queue that a cell enters
abbrev pub queue_entered : Queues → ArrivedCell → List ArrivedCell
queue_entered queues cell = queue_at queues (queue_for queues cell.input cell.output)

-- the queues, where queue q has these cells
abbrev pub queues_where : Queues → ℕ → List ArrivedCell → Queues
queues_where queues q cells = record queues { cells = slice_set queues.cells q cells }

-- whether a cell finds room
abbrev pub has_room : Queues → ArrivedCell → Bool
has_room queues cell = nat_lt (length (queue_entered queues cell)) queues.depth

-- how many cells its queue has where a cell came, with this one; None where it is dropped
abbrev pub length_with : Queues → ArrivedCell → Option ℕ
length_with queues cell = if has_room queues cell then Some (length (queue_entered queues cell) + 1) else None

-- the queues after a cell came: it is the last of its queue, or is dropped where that has no room
unfoldable pub queues_with : Queues → ArrivedCell → Queues
queues_with queues cell =
    if has_room queues cell then
    queues_where queues (queue_for queues cell.input cell.output) (queue_entered queues cell ++ cell ∷ [])
    else queues

-- the first cell of queue q, None where none waits
abbrev pub head_of : Queues → ℕ → Option ArrivedCell
head_of queues q = slice_get (queue_at queues q) 0

-- the queues after the first cell of queue q left, where one waits
unfoldable pub queues_without_head : Queues → ℕ → Queues
queues_without_head queues q = queues_where queues q (drop 1 (queue_at queues q))

-- whether there is a cell, and it is from input i to output j
abbrev pub is_between : ℕ → ℕ → Option ArrivedCell → Bool
is_between i j None = false
is_between i j (Some cell) = (cell.input == i) && (cell.output == j)

-- whether input i asks for output j: a cell from it to there is the first of its queue
abbrev pub is_asked : Queues → ℕ → ℕ → Bool
is_asked queues i j = is_between i j (head_of queues (queue_for queues i j))

-- the row of an input that asks for these outputs: as unicast of level 0
abbrev pub row_asking : ℕ → Row
row_asking outputs = record { uni = outputs ∷ 0 ∷ 0 ∷ 0 ∷ []; multi = replicate LEVELS 0 }

-- the row of each input
unfoldable pub rows_of : Queues → List Row
rows_of queues = map (λ i. row_asking (set_of queues.ports (is_asked queues i))) (range_with_len 0 queues.ports)

-- how many cells wait
unfoldable pub held_count : Queues → ℕ
held_count queues = sum_by length queues.cells

-- the sum of the slots in which they came
unfoldable pub sum_of_arrivals : Queues → ℕ
sum_of_arrivals queues = sum_by (sum_by (λ cell. cell.arrival)) queues.cells

-- a cell of queue q: its ports are those of the switch, its queue is this one, and its slot is a number of 32 bits
pub record IsInQueue (queues : Queues) (q : ℕ) (cell : ArrivedCell) : Type 0 where
  pub input : cell.input < queues.ports
  pub output : cell.output < queues.ports
  pub place : queue_for queues cell.input cell.output ≡ q
  pub arrival : cell.arrival < 2 ^ 32

-- queues as they can be: the numbers are in their ranges, no queue has more cells than its depth, and each cell is in its
-- queue
pub record AreQueues (queues : Queues) : Type 0 where
  pub some : 0 < queues.ports
  pub size : queues.ports ≤ MAX_PORTS
  pub room : queue_count queues.queueing queues.ports * queues.depth ≤ MAX_CELLS
  pub count : length queues.cells ≡ queue_count queues.queueing queues.ports
  pub within : (q : ℕ) → length (queue_at queues q) ≤ queues.depth
  pub own : (q k : ℕ) (cell : ArrivedCell) → slice_get (queue_at queues q) k ≡ Some cell → IsInQueue queues q cell

-- a cell has the ports that the queue of the cells from input i to output j tells
abbrev pub HasPorts : Queueing → ℕ → ℕ → ArrivedCell → Type 0
HasPorts ByPair i j cell = (cell.input ≡ i) × (cell.output ≡ j)
HasPorts ByInput i j cell = cell.input ≡ i
HasPorts ByOutput i j cell = cell.output ≡ j
