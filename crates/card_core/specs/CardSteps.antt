-- What single calls make of a card.
use Rattle.std.specs.Prelude.{◌≡◌, ℕ, ◌+◌, ◌*◌, ◌≤◌, Bool, [], ◌∷◌, ◌++◌, length, Option, None, Some, slice_index_or, if◌then◌else◌}
use Rattle.cell_cutter.specs.declared.cell.Cell.{Cell}
use Rattle.cell_cutter.specs.declared.sizes.TheConstants.{PAYLOAD_BYTES}
use Rattle.reassembly.specs.Flows.{Flows, fresh, flow_of, bytes_with, after_cell}
use Rattle.card_core.specs.States.{State}
use Rattle.card_core.specs.Cards.{Received, CardState}

abbrev pub card_of : State → Received → Bool → CardState
card_of sends receives done = record { sends = sends; receives = receives; done = done }

-- each flow's bytes are those of full cells
abbrev pub AreFull : Flows → Type 0
AreFull all = (place : ℕ) → length (slice_index_or all.flows place (fresh 0)).bytes ≡ PAYLOAD_BYTES * (slice_index_or all.flows place (fresh 0)).next

-- a list of this length has room for so many
abbrev pub IsRoom : ℕ → ℕ → ℕ → Type 0
IsRoom len room capacity = (len ≤ room) × (room ≤ capacity)

-- and for no more
abbrev pub IsExactRoom : ℕ → ℕ → ℕ → Type 0
IsExactRoom len room capacity = (len ≤ room) × (capacity ≡ room)

-- what a card keeps after a cell
abbrev pub received_with : Received → Cell → Received
received_with r cell = record {
  flows = after_cell r.flows cell;
  body = if cell.last then r.body ++ bytes_with (flow_of r.flows cell) cell else r.body;
  lens = if cell.last then r.lens ++ length (bytes_with (flow_of r.flows cell) cell) ∷ [] else r.lens;
  cells = r.cells + 1;
  body_room = r.body_room;
  packet_room = r.packet_room;
}

abbrev pub received_any : Received → Option Cell → Received
received_any r None = r
received_any r (Some cell) = received_with r cell
