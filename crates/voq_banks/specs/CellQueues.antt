-- A queue of cells of limited depth.
use Rattle.std.specs.Prelude.{ℕ, ◌+◌, ◌-◌, ◌==◌, List, [], ◌++◌, map}
use Rattle.std.specs.List.{range_with_len}
use Rattle.cell_cutter.specs.declared.cell.CellName.{CellName}
use Rattle.voq_banks.specs.declared.ring.QueuedCell.{QueuedCell}

-- the cells of a packet, in order, the last one marked
abbrev pub names_of_packet : ℕ → ℕ → List CellName
names_of_packet packet cells =
    map (λ k. record { packet = packet; number = k; last = k + 1 == cells }) (range_with_len 0 cells)

-- the most cells that may wait, those that wait (the first to leave first), and how many packets may
-- still enter
pub record CellQueue (F : Type 0) : Type 0 where
  pub depth : ℕ
  pub cells : List (QueuedCell F)
  pub spare : ℕ

module _ {F : Type 0} where
  -- those, each with what the queue keeps of the packet
  abbrev pub cells_with_fan : ℕ → ℕ → F → List (QueuedCell F)
  cells_with_fan packet cells fan = map (λ name. record { name = name; fan = fan }) (names_of_packet packet cells)

  -- a queue with no cell, of at most `depth` cells, which `room` packets will enter
  abbrev pub empty_queue : ℕ → ℕ → CellQueue F
  empty_queue depth room = record { depth = depth; cells = []; spare = room }

  -- a queue that a packet has entered
  abbrev pub queue_with : CellQueue F → ℕ → ℕ → F → CellQueue F
  queue_with queue packet cells fan = record {
    depth = queue.depth;
    cells = queue.cells ++ cells_with_fan packet cells fan;
    spare = queue.spare - 1;
  }
