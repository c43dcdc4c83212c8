-- How a queue of cells is kept: a ring of packets, if any will enter.
use Rattle.std.specs.Prelude.{ℕ, ◌+◌, ◌≤◌, List, [], Option, Some, None, length, min}
use Rattle.circular_buffer.specs.Buffer.{Buffer}
use Rattle.voq_banks.specs.declared.ring.Waiting.{Waiting}
use Rattle.voq_banks.specs.CellQueues.{CellQueue}
use Rattle.voq_banks.specs.RunSteps.{cells_left, IsQueue}

module _ {F : Type 0} where
  -- the packets in a ring: none where there is no ring
  abbrev pub packets_in : Option (Buffer (Waiting F)) → List (Waiting F)
  packets_in None = []
  packets_in (Some ring) = ring.items

  -- how many packets a ring takes
  abbrev pub capacity_of : Option (Buffer (Waiting F)) → ℕ
  capacity_of None = 0
  capacity_of (Some ring) = ring.capacity

  -- the queue that a ring stands for, where `gone` cells of its first packet have left
  abbrev pub queue_of : ℕ → ℕ → ℕ → Option (Buffer (Waiting F)) → CellQueue F
  queue_of depth gone spare ring = record { depth = depth; cells = cells_left gone (packets_in ring); spare = spare }

  -- The fields of a queue. Its ring takes all packets that may still enter, and no more than the depth: each that waits
  -- has a cell, so there are never more.
  pub record IsRing (depth gone count spare : ℕ) (ring : Option (Buffer (Waiting F))) : Type 0 where
    pub queue : IsQueue gone count (packets_in ring)
    pub within : count ≤ depth
    pub taken : min (length (packets_in ring) + spare) depth ≤ capacity_of ring
    pub needed : capacity_of ring ≤ depth
