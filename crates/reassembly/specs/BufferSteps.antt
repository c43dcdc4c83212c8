-- A buffer holds the bytes of a flow until the next message begins.
use Rattle.std.specs.Prelude.{◌≡◌, ℕ, ◌+◌, ◌*◌, ◌≤◌, length, List, [], ◌++◌, map, if◌then◌else◌, ◌==◌}
use Rattle.rotating_pick.specs.declared.limits.TheConstants.{MAX_PORTS}
use Rattle.reassembly.specs.declared.limits.TheConstants.{FLOWS_PER_INPUT}
use Rattle.cell_cutter.specs.declared.cell.Cell.{Cell}
use Rattle.cell_cutter.specs.Cells.{used_bytes}
use Rattle.reassembly.specs.Flows.{Flow, Flows}

-- the bytes of the last message that was begun, whole or not, and the number of the next cell
pub record Stored : Type 0 where
  pub size : ℕ
  pub bytes : List ℕ
  pub next : ℕ

-- the bytes to which the next cell adds: none where it begins a message
abbrev pub begun : Stored → List ℕ
begun stored = if stored.next == 0 then [] else stored.bytes

-- the flow that a buffer stands for
abbrev pub flow_in : Stored → Flow
flow_in stored = record { size = stored.size; bytes = begun stored; next = stored.next }

-- the flows that buffers stand for
abbrev pub flows_in : ℕ → List Stored → Flows
flows_in ports buffers = record { ports = ports; flows = map flow_in buffers }

-- a buffer after a cell of its flow
abbrev pub stored_with : Stored → Cell → Stored
stored_with stored cell = record {
  size = stored.size;
  bytes = begun stored ++ used_bytes cell;
  next = if cell.last then 0 else cell.number + 1;
}

-- a buffer for each flow of an input, and no more inputs than a switch has
abbrev pub HasBuffers : ℕ → List Stored → Type 0
HasBuffers ports buffers = (length buffers ≡ FLOWS_PER_INPUT * ports) × (ports ≤ MAX_PORTS)
