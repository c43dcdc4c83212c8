-- How the queues of an input are kept: a ring each, and for each level the outputs that are waited for.
use Rattle.std.specs.Prelude.{◌≡◌, ℕ, ◌*◌, ◌<◌, ◌≤◌, ◌↔◌, List, length, map, slice_index, slice_index_or}
use Rattle.rotating_pick.specs.PortSets.{Has}
use Rattle.rotating_pick.specs.declared.limits.TheConstants.{LEVELS, MAX_PORTS}
use Rattle.cell_cutter.specs.declared.cell.CellName.{CellName}
use Rattle.voq_banks.specs.CellQueues.{CellQueue, empty_queue}
use Rattle.voq_banks.specs.Queues.{Queues, Waits}

-- a queue of which nothing is kept beside the names of its cells
abbrev pub Kept : Type 0
Kept = CellQueue (Unit {0})

-- the names of the cells that wait
abbrev pub names_of : Kept → List CellName
names_of kept = map (λ cell. cell.name) kept.cells

-- the queues that rings stand for
abbrev pub queues_in : ℕ → ℕ → List Kept → Queues
queues_in ports depth kept =
    record { ports = ports; depth = depth; queues = map names_of kept; spare = map (λ k. k.spare) kept }

-- the ring at a place
abbrev pub ring_at : List Kept → ℕ → Kept
ring_at kept place = slice_index_or kept place (empty_queue 0 0)

-- a queue has the depth of all, and no more cells
pub record HasDepth (depth : ℕ) (kept : Kept) : Type 0 where
  pub deep : kept.depth ≡ depth
  pub within : length kept.cells ≤ depth

-- a set of outputs for each level: those whose queue has a cell
abbrev pub AreMasks : Queues → List ℕ → Type 0
AreMasks all masks =
    (level output : ℕ) → level < LEVELS → Has (slice_index masks level) output ↔ ((output < all.ports) × Waits all output level)

-- the fields of the queues of an input
pub record AreKept (ports depth : ℕ) (kept : List Kept) (masks : List ℕ) : Type 0 where
  pub size : ports ≤ MAX_PORTS
  pub long : length kept ≡ LEVELS * ports
  pub deep : (place : ℕ) → place < length kept → HasDepth depth (ring_at kept place)
  pub waiting : AreMasks (queues_in ports depth kept) masks
