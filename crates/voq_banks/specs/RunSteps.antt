-- A list of packets that stands for the list of their cells.
use Rattle.std.specs.Prelude.{◌≡◌, ℕ, ◌+◌, ◌<◌, ◌≤◌, ◌==◌, List, [], ◌∷◌, length, map, drop}
use Rattle.std.specs.List.{range_with_len, flat_map}
use Rattle.cell_cutter.specs.declared.sizes.TheConstants.{MAX_FORWARDED_CELLS}
use Rattle.voq_banks.specs.declared.ring.QueuedCell.{QueuedCell}
use Rattle.voq_banks.specs.declared.ring.Waiting.{Waiting}

module _ {F : Type 0} where
  -- cell k of a packet
  abbrev pub cell_of : Waiting F → ℕ → QueuedCell F
  cell_of waiting k = record {
    name = record { packet = waiting.packet; number = k; last = k + 1 == waiting.cells };
    fan = waiting.fan;
  }

  -- the cells of a packet, in order
  abbrev pub run_of : Waiting F → List (QueuedCell F)
  run_of waiting = map (cell_of waiting) (range_with_len 0 waiting.cells)

  -- the cells of all packets, in order, without the first `gone`
  abbrev pub cells_left : ℕ → List (Waiting F) → List (QueuedCell F)
  cells_left gone packets = drop gone (flat_map run_of packets)

  -- `gone` cells of the first packet have gone, and not all
  abbrev pub IsBegun : ℕ → List (Waiting F) → Type 0
  IsBegun gone [] = gone ≡ 0
  IsBegun gone (waiting ∷ packets) = gone < waiting.cells

  -- a packet has cells, and not too many
  abbrev pub IsSized : Waiting F → Type 0
  IsSized waiting = (0 < waiting.cells) × (waiting.cells ≤ MAX_FORWARDED_CELLS)

  -- all packets do
  abbrev pub AreSized : List (Waiting F) → Type 0
  AreSized [] = Unit {0}
  AreSized (waiting ∷ packets) = IsSized waiting × AreSized packets

  -- packets that wait, of the first of which `gone` cells have left, so that `count` cells wait
  pub record IsQueue (gone count : ℕ) (packets : List (Waiting F)) : Type 0 where
    pub begun : IsBegun gone packets
    pub sized : AreSized packets
    pub counted : count ≡ length (cells_left gone packets)
