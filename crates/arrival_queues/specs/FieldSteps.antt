-- How queues are kept: a ring of slots, and beside it one of the ports that the queue does not tell.
use Rattle.std.specs.Prelude.{◌≡◌, ℕ, ◌+◌, ◌/◌, ◌%◌, ◌^◌, ◌<◌, List, [], ◌∷◌, ◌++◌, Option, None, Some, length, map, drop, slice_index, slice_index_or}
use Rattle.circular_buffer.specs.Buffer.{Buffer}
use Rattle.slot_match.specs.declared.rows.Row.{Row}
use Rattle.unicast_slots.specs.RowSteps.{AsksToo}
use Rattle.arrival_queues.specs.declared.cell.ArrivedCell.{ArrivedCell}
use Rattle.arrival_queues.specs.declared.queueing.Queueing.{Queueing}
use Rattle.arrival_queues.specs.declared.queueing.Queueing.TheVariants.{ByPair, ByInput, ByOutput}
use Rattle.arrival_queues.specs.Queues.{AreQueues, Queues, held_count, rows_of, sum_of_arrivals}

-- ---- one queue
-- a queue: what its cells share, the ports of its cells where it tells them, the most cells that it has, and its cells
pub record QueueValue : Type 0 where
  pub queueing : Queueing
  pub input : ℕ
  pub output : ℕ
  pub depth : ℕ
  pub cells : List ArrivedCell

-- the cell of a slot, and of a port where the queue does not tell it
abbrev pub cell_told : Queueing → ℕ → ℕ → ℕ → ℕ → ArrivedCell
cell_told ByPair input output slot port = record { arrival = slot; input = input; output = output }
cell_told ByInput input output slot port = record { arrival = slot; input = input; output = port }
cell_told ByOutput input output slot port = record { arrival = slot; input = port; output = output }

-- the cells of some slots, with the ports beside them
abbrev pub cells_told : Queueing → ℕ → ℕ → List ℕ → List ℕ → List ArrivedCell
cells_told queueing input output [] ports = []
cells_told queueing input output (slot ∷ slots) ports =
    cell_told queueing input output slot (slice_index ports 0) ∷ cells_told queueing input output slots (drop 1 ports)

-- the queue that two rings stand for
abbrev pub queue_kept : Queueing → ℕ → ℕ → Buffer ℕ → Buffer ℕ → QueueValue
queue_kept queueing input output slots ports = record {
  queueing = queueing;
  input = input;
  output = output;
  depth = slots.capacity;
  cells = cells_told queueing input output slots.items ports.items;
}

-- there are as many ports as slots, and room for as many, where the queue does not tell both
abbrev pub AreBeside : Queueing → Buffer ℕ → Buffer ℕ → Type 0
AreBeside ByPair slots ports = Unit {0}
AreBeside ByInput slots ports = (length ports.items ≡ length slots.items) × (ports.capacity ≡ slots.capacity)
AreBeside ByOutput slots ports = (length ports.items ≡ length slots.items) × (ports.capacity ≡ slots.capacity)

-- the rings of a queue
pub record AreRings (queueing : Queueing) (slots ports : Buffer ℕ) : Type 0 where
  pub room : slots.capacity < 2 ^ 32
  pub beside : AreBeside queueing slots ports

-- how many ports a queue has places for
abbrev pub places_of_ports : Queueing → ℕ → ℕ
places_of_ports ByPair depth = 0
places_of_ports ByInput depth = depth
places_of_ports ByOutput depth = depth

-- a queue without a cell
abbrev pub empty_queue : Queueing → ℕ → ℕ → ℕ → QueueValue
empty_queue queueing input output depth = record { queueing = queueing; input = input; output = output; depth = depth; cells = [] }

-- a queue had room for a cell, which is its last now, and has so many cells with it
pub record HasEntered (old new : QueueValue) (slot port count : ℕ) : Type 0 where
  pub room : length old.cells < old.depth
  pub longer : count ≡ length old.cells + 1
  pub queue : new ≡ record old { cells = old.cells ++ cell_told old.queueing old.input old.output slot port ∷ [] }

-- ---- all queues
-- the input that queue q of a switch of n ports tells, and its output
abbrev pub input_told : Queueing → ℕ → ℕ → ℕ
input_told ByPair n q = q / n
input_told ByInput n q = q
input_told ByOutput n q = q

abbrev pub output_told : Queueing → ℕ → ℕ → ℕ
output_told ByPair n q = q % n
output_told ByInput n q = q
output_told ByOutput n q = q

-- queue q as it is made
abbrev pub queue_made : Queueing → ℕ → ℕ → ℕ → QueueValue
queue_made queueing n depth q = empty_queue queueing (input_told queueing n q) (output_told queueing n q) depth

-- the port of a cell that its queue does not tell; 0 where it tells both
abbrev pub port_untold : Queueing → ℕ → ℕ → ℕ
port_untold ByPair input output = 0
port_untold ByInput input output = output
port_untold ByOutput input output = input

-- the cells of each queue
abbrev pub cells_of : List QueueValue → List (List ArrivedCell)
cells_of queues = map (λ queue. queue.cells) queues

-- the queues of a switch, as they are kept
abbrev pub queues_kept : ℕ → Queueing → ℕ → List QueueValue → Queues
queues_kept ports queueing depth queues = record { ports = ports; queueing = queueing; depth = depth; cells = cells_of queues }

-- the rows, where a cell asks too, if there is one
abbrev pub AsksFor : List Row → List Row → Option ArrivedCell → Type 0
AsksFor old new None = new ≡ old
AsksFor old new (Some cell) = AsksToo old new cell.input cell.output

-- queue q is kept as it was made, except for its cells
pub record IsOwn (queues : Queues) (q : ℕ) (queue : QueueValue) : Type 0 where
  pub queueing : queue.queueing ≡ queues.queueing
  pub input : queue.input ≡ input_told queues.queueing queues.ports q
  pub output : queue.output ≡ output_told queues.queueing queues.ports q
  pub depth : queue.depth ≡ queues.depth

-- the fields of the queues of a switch: each queue is kept as it was made, and what is kept beside them is theirs
pub record AreKept (queues : Queues) (kept : List QueueValue) (rows : List Row) (held arrivals : ℕ) : Type 0 where
  pub whole : AreQueues queues
  pub own : (q : ℕ) (queue : QueueValue) → q < length kept → IsOwn queues q (slice_index_or kept q queue)
  pub asked : rows ≡ rows_of queues
  pub held_is : held ≡ held_count queues
  pub arrivals_are : arrivals ≡ sum_of_arrivals queues
