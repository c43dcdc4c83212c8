-- What the packets of a port bring to each output, as far as a pass over them has come: the words of the calls inside.
use Rattle.std.specs.Prelude.{ℕ, ◌+◌, ◌*◌, ◌≤◌, max, if◌then◌else◌, List, [], fold, replicate, slice_index, slice_index_or, slice_set}
use Rattle.cell_cutter.specs.declared.sizes.TheConstants.{MAX_MESSAGE_BYTES}
use Rattle.reassembly.specs.declared.limits.TheConstants.{FLOWS_PER_INPUT}
use Rattle.switch_plan.specs.declared.limits.TheConstants.{MAX_PORT_PACKETS}
use Rattle.card_core.specs.declared.plan.Planned.{Planned}
use Rattle.switch_plan.specs.declared.port_rooms.PortRoom.{PortRoom}
use Rattle.switch_plan.specs.Totals.{goes_to, flow_of, message_length}

-- nothing came
abbrev pub no_room : PortRoom
no_room = record { sizes = replicate FLOWS_PER_INPUT 0; bytes = 0; messages = 0 }

-- what stands where no output is
abbrev pub beyond : PortRoom
beyond = record { sizes = []; bytes = 0; messages = 0 }

-- what came to an output
abbrev pub room_at : List PortRoom → ℕ → PortRoom
room_at rooms output = slice_index_or rooms output beyond

-- with a message of a flow
abbrev pub with_message : ℕ → ℕ → PortRoom → PortRoom
with_message flow length room = record {
  sizes = slice_set room.sizes flow (max (slice_index room.sizes flow) length);
  bytes = room.bytes + length;
  messages = room.messages + 1;
}

-- with a packet, where it goes to the output
abbrev pub with_packet : ℕ → PortRoom → Planned → PortRoom
with_packet output room packet =
    if goes_to output packet then with_message (flow_of packet) (message_length packet) room else room

-- what packets bring to an output
abbrev pub room_for : ℕ → List Planned → PortRoom
room_for output packets = fold (with_packet output) no_room packets

-- so little that no count is too great
pub record AreFew (room : PortRoom) : Type 0 where
  pub bytes : room.bytes ≤ MAX_PORT_PACKETS * MAX_MESSAGE_BYTES
  pub messages : room.messages ≤ MAX_PORT_PACKETS
