-- A flow takes the cells of a message, one after the other.
use Rattle.std.specs.Prelude.{ℕ, ◌*◌, List, take}
use Rattle.cell_cutter.specs.declared.sizes.TheConstants.{PAYLOAD_BYTES}
use Rattle.reassembly.specs.Flows.{Flow}

-- a flow in which the first k cells of a message stand
abbrev pub begun_with : ℕ → List ℕ → ℕ → Flow
begun_with size message k = record { size = size; bytes = take (PAYLOAD_BYTES * k) message; next = k }
