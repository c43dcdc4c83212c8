-- How the queues of an input are kept: for each level a ring, and the rest of the head's fan-out.
use Rattle.std.specs.Prelude.{◌≡◌, ◌≢◌, ℕ, ◌<◌, ◌≤◌, List, [], ◌∷◌, length, map, slice_index_or}
use Rattle.rotating_pick.specs.PortSets.{Has, IsAmong}
use Rattle.rotating_pick.specs.declared.limits.TheConstants.{LEVELS}
use Rattle.voq_banks.specs.CellQueues.{CellQueue}
use Rattle.multicast_queue.specs.FanQueues.{FanCell, FanQueue, Queues, empty_queue, queue_with}

-- a queue, and the most cells that it may have
pub record Kept : Type 0 where
  pub depth : ℕ
  pub queue : FanQueue

-- what a ring and a rest stand for
abbrev pub kept_of : CellQueue ℕ → ℕ → Kept
kept_of ring rest =
    record { depth = ring.depth; queue = record { cells = ring.cells; rest = rest; spare = ring.spare } }

-- an empty one that `packets` packets will enter
abbrev pub empty_kept : ℕ → ℕ → Kept
empty_kept depth packets = record { depth = depth; queue = empty_queue packets }

-- one that the cells of a packet have entered
abbrev pub kept_with : Kept → ℕ → ℕ → ℕ → Kept
kept_with kept packet cells fan = record { depth = kept.depth; queue = queue_with kept.queue packet cells fan }

-- the queues that these stand for
abbrev pub queues_in : ℕ → ℕ → List Kept → Queues
queues_in ports depth kept = record { ports = ports; depth = depth; queues = map (λ k. k.queue) kept }

-- the one of a level
abbrev pub kept_at : List Kept → ℕ → Kept
kept_at kept level = slice_index_or kept level (empty_kept 0 0)

-- each cell goes somewhere, and to ports of the switch alone
abbrev pub HaveFans : ℕ → List FanCell → Type 0
HaveFans ports [] = Unit {0}
HaveFans ports (cell ∷ cells) = ((cell.fan ≢ 0) × IsAmong ports cell.fan) × HaveFans ports cells

-- the rest of the head's fan-out: some outputs of it, none where no cell waits
abbrev pub IsRest : ℕ → List FanCell → Type 0
IsRest rest [] = rest ≡ 0
IsRest rest (cell ∷ cells) = (rest ≢ 0) × ((output : ℕ) → Has rest output → Has cell.fan output)

-- a queue has the depth of all, no more cells, fan-outs, and the rest of one
pub record IsKept (ports depth : ℕ) (kept : Kept) : Type 0 where
  pub deep : kept.depth ≡ depth
  pub within : length kept.queue.cells ≤ depth
  pub fans : HaveFans ports kept.queue.cells
  pub rests : IsRest kept.queue.rest kept.queue.cells

-- the queues of the four levels
pub record AreKept (ports depth : ℕ) (kept : List Kept) : Type 0 where
  pub long : length kept ≡ LEVELS
  pub each : (level : ℕ) → level < LEVELS → IsKept ports depth (kept_at kept level)
