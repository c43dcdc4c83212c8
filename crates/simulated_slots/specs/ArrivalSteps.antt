-- What comes in a slot, and what it makes of the queues and of what was counted.
use Rattle.std.specs.Prelude.{◌≡◌, ℕ, ◌+◌, ◌*◌, ◌<◌, ◌≤◌, Bool, max, if◌then◌else◌, List, []}
use Rattle.std.specs.Prelude.{◌++◌, length, map, filter_map, option_map, slice_get, take, drop, Option, Some, All}
use Rattle.rotating_pick.specs.declared.limits.TheConstants.{MAX_PORTS}
use Rattle.service_bound.specs.Waits.{greatest}
use Rattle.made_traffic.specs.Sources.{SourceValue, next_source}
use Rattle.arrival_queues.specs.declared.cell.ArrivedCell.{ArrivedCell}
use Rattle.arrival_queues.specs.Queues.{Queues}
use Rattle.simulated_slots.specs.declared.arrivals.Arrivals.{Arrivals}
use Rattle.simulated_slots.specs.Slots.{all_entered, dropped, lengths}
use Rattle.simulated_slots.specs.TableSteps.{HasCounted}

-- these where the slot is measured, and else none
abbrev pub where_measured : {X : Type 0} → Bool → List X → List X
where_measured measured xs = if measured then xs else []

-- every cell that waits came before slot t
abbrev pub AllCame : ℕ → Queues → Type 0
AllCame t queues = All (All (λ cell. cell.arrival < t)) queues.cells

-- these are of a switch of n ports, after at most `most` cells
pub record AreArrivals (n most : ℕ) (arrivals : Arrivals) : Type 0 where
  pub ports : arrivals.queues.ports ≡ n
  pub arrived : length arrivals.arrived.counts ≡ n
  pub dropped : length arrivals.dropped.counts ≡ n
  pub few : arrivals.arrived.total ≤ most
  pub few_dropped : arrivals.dropped.total ≤ most

-- a cell more changes no size, and no count by more than one
pub record KeepSizes (old new : Arrivals) : Type 0 where
  pub arrived : length new.arrived.counts ≡ length old.arrived.counts
  pub dropped : length new.dropped.counts ≡ length old.dropped.counts
  pub few : new.arrived.total ≤ old.arrived.total + 1
  pub few_dropped : new.dropped.total ≤ old.dropped.total + 1

-- What these cells make of what came, where their slot is measured or not: all enter their queues or are dropped, and each
-- is counted.
pub record HaveCome (measured : Bool) (cells : List ArrivedCell) (old new : Arrivals) : Type 0 where
  pub queues : new.queues ≡ all_entered old.queues cells
  pub arrived : (numbers : List ℕ) → HasCounted old.arrived numbers → HasCounted new.arrived (numbers ++ where_measured measured (map (λ c. c.input) cells))
  pub dropped : (numbers : List ℕ) → HasCounted old.dropped numbers
      → HasCounted new.dropped (numbers ++ where_measured measured (map (λ c. c.input) (dropped old.queues cells)))
  pub peak : new.peak ≡ max old.peak (greatest (lengths old.queues cells))

-- a source for each of n inputs, of traffic of as many ports
pub record AreSources (n : ℕ) (sources : List SourceValue) : Type 0 where
  pub count : length sources ≡ n
  pub inputs : (k : ℕ) (source : SourceValue) → slice_get sources k ≡ Some source → source.input ≡ k
  pub ports : (k : ℕ) (source : SourceValue) → slice_get sources k ≡ Some source → source.traffic.ports ≡ n

-- the cell that comes from a source in slot t, if one comes
abbrev pub cell_from : ℕ → SourceValue → Option ArrivedCell
cell_from t source = option_map (λ j. record { arrival = t; input = source.input; output = j }) (next_source source).state.output

-- the cells that come from these sources in slot t, in their order
abbrev pub cells_from : ℕ → List SourceValue → List ArrivedCell
cells_from t sources = filter_map (cell_from t) sources

-- the cells of the first k of these sources have come, of which each has told of one slot more
pub record HaveTold (measured : Bool) (t k : ℕ) (before now : List SourceValue) (old new : Arrivals) : Type 0 where
  pub sources : now ≡ map next_source (take k before) ++ drop k before
  pub come : HaveCome measured (cells_from t (take k before)) old new
  pub sizes : AreArrivals old.queues.ports (MAX_PORTS * t + k) new
  pub came : AllCame (t + 1) new.queues
