-- What single steps of the calls do.
use Rattle.std.specs.Prelude.{◌≡◌, ℕ, ◌+◌, ◌-◌, ◌<◌, ◌≤◌, min, max, nat_lt, if◌then◌else◌, List, map, Option, None, Some, length}
use Rattle.rotating_pick.specs.declared.limits.TheConstants.{MAX_PORTS}
use Rattle.cell_cutter.specs.declared.cell.CellName.{CellName}
use Rattle.slot_match.specs.declared.matching.Served.{Served}
use Rattle.slot_histories.specs.Tests.{has}
use Rattle.card_core.specs.StateSteps.{MayLeave, Leaves}
use Rattle.output_queued.specs.declared.coming.Coming.{Coming}
use Rattle.output_queued.specs.declared.tally.Tally.{Tally}
use Rattle.output_queued.specs.Ideal.{total}
use Rattle.output_queued.specs.Switches.{card_for, cells_from, IsComing, IsInput}
use Rattle.output_queued.specs.NotingSteps.{Source, State, source_at, tally_at, IsBefore, IsIn}

-- what a slot makes of what is counted at an output, to which it feeds so many cells
pub record Ticks (slot fed : ℕ) (old new : Tally) : Type 0 where
  pub came : new.came ≡ old.came
  pub given : new.given ≡ old.given + min 1 (old.came - old.given)
  pub ran : new.ran ≡ old.ran + fed
  pub ends : new.line.ends ≡ (if nat_lt old.given new.given then slot + 1 else old.line.ends)
  pub runs : new.line.runs ≡ (if nat_lt old.ran new.ran then slot + 1 else old.line.runs)
  pub lead : new.line.lead ≡ max old.line.lead (new.given - new.ran)
  pub extra : new.line.extra ≡ old.line.extra + (new.given - new.ran)

-- how many cells a packet that was admitted brings to output j
abbrev pub cells_to : Option Coming → ℕ → ℕ
cells_to None j = 0
cells_to (Some c) j = if has c.fan j then c.cells else 0

-- ---- an input
-- what the packets of an input bring to a switch of so many ports and queues of so many cells
pub record IsPart (ports depth : ℕ) (coming : List Coming) : Type 0 where
  pub some : 0 < ports
  pub size : ports ≤ MAX_PORTS
  pub deep : 0 < depth
  pub input : IsInput ports coming

-- what was served may be taken off the input's queues
abbrev pub MayTake : Option Served → Source → Type 0
MayTake None source = Unit {0}
MayTake (Some part) source = MayLeave part.kind source.banks source.fans part

-- the input has the same packets, of which as many have come
pub record SamePackets (old new : Source) : Type 0 where
  pub coming : new.coming ≡ old.coming
  pub next : new.next ≡ old.next

-- what was served is taken off its queue
abbrev pub HasTaken : Option Served → Source → Source → Type 0
HasTaken None old new = new ≡ old
HasTaken (Some part) old new = SamePackets old new × ((name : CellName) × Leaves part.kind part name old.banks old.fans new.banks new.fans)

-- the packet of slot `slot` is in its queue, if there is one and it fits; it brings these cells to each output
pub record HasEntered (ports depth slot : ℕ) (served : List (Option Served)) (old new : Source) (admitted : Option Coming) : Type 0 where
  pub coming : new.coming ≡ old.coming
  pub queues : IsIn (card_for ports depth old.coming) new served
  pub cells : (j : ℕ) → cells_from (card_for ports depth old.coming) served j slot ≡ cells_to admitted j

-- the packet that was admitted is one of the input's
abbrev pub IsAdmissible : ℕ → Option Coming → Type 0
IsAdmissible ports None = Unit {0}
IsAdmissible ports (Some c) = IsComing ports c

-- ---- all inputs
-- the inputs stand before the packets of slot `slot`, with these parts served
pub record Stand (ports depth slot : ℕ) (sources : List Source) (served : ℕ → List (Option Served)) : Type 0 where
  pub count : length sources ≡ ports
  pub parts : (i : ℕ) → i < ports → IsPart ports depth (source_at sources i).coming
  pub long : (i : ℕ) → i < ports → length (served i) ≡ slot
  pub before : (i : ℕ) → i < ports → IsBefore (card_for ports depth (source_at sources i).coming) (source_at sources i) (served i)

-- the cells that the first k inputs bring to output j in slot `slot`
abbrev pub cells_of_first : ℕ → ℕ → List Source → (ℕ → List (Option Served)) → ℕ → ℕ → ℕ → ℕ
cells_of_first ports depth sources served j slot k = total (λ i. cells_from (card_for ports depth (source_at sources i).coming) (served i) j slot) k

-- the tally with so many cells more
abbrev pub with_cells : Tally → ℕ → Tally
with_cells tally cells = record { came = tally.came + cells; given = tally.given; ran = tally.ran; line = tally.line }

-- the first k inputs have let in their packets of slot `slot`, and these are counted
pub record HaveEntered (ports depth slot k : ℕ) (served : ℕ → List (Option Served)) (old new : List Source) (counted now : List Tally) : Type 0 where
  pub count : length new ≡ length old
  pub coming : (i : ℕ) → (source_at new i).coming ≡ (source_at old i).coming
  pub entered : (i : ℕ) → i < k → IsIn (card_for ports depth (source_at old i).coming) (source_at new i) (served i)
  pub left : (i : ℕ) → k ≤ i → source_at new i ≡ source_at old i
  pub tallies : (j : ℕ) → tally_at now j ≡ with_cells (tally_at counted j) (cells_of_first ports depth old served j slot k)

-- the switch is the same: its ports, the most cells of a queue, and the packets of each input
pub record SameSwitch (old new : State) : Type 0 where
  pub ports : new.ports ≡ old.ports
  pub depth : new.depth ≡ old.depth
  pub coming : map (λ source. source.coming) new.sources ≡ map (λ source. source.coming) old.sources
