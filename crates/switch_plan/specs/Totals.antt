-- What the packets of all ports take: slots, cells, and what comes to each output.
use Rattle.std.specs.Prelude.{ℕ, ◌+◌, ◌*◌, max, nat_lt, ◌==◌, ◌&&◌, Bool, if◌then◌else◌, List, map, flat_map, fold, sum_by, count_by, count_ones}
use Rattle.std.specs.List.{range_with_len}
use Rattle.std.specs.Int.{bit_at}
use Rattle.cell_cutter.specs.declared.sizes.TheConstants.{MESSAGE_HEADER_BYTES}
use Rattle.cell_cutter.specs.Kinds.{kind_byte}
use Rattle.cell_cutter.specs.Messages.{cells_of_packet}
use Rattle.line_pace.specs.Arrivals.{slots_taken}
use Rattle.reassembly.specs.declared.limits.TheConstants.{FLOWS_PER_INPUT}
use Rattle.card_core.specs.declared.plan.Planned.{Planned}
use Rattle.card_core.specs.Plans.{kind_of, queue_of}

-- ---- the limits by the number of ports
-- the most arrival slots of a port, and the most cells of all packets, counted for each output: half as many over 32 ports
abbrev pub most_for : ℕ → ℕ
most_for ports = if nat_lt 32 ports then 65536 else 131072

-- ---- slots and cells
-- the arrival slots of a port: the last packet's and one
abbrev pub slots_of : List Planned → ℕ
slots_of packets = slots_taken (map (λ packet. packet.arrival) packets)

-- the cells that a packet brings to its outputs
abbrev pub work_of : Planned → ℕ
work_of packet = cells_of_packet packet.len * count_ones packet.fan

-- those of all packets
abbrev pub total_work : List (List Planned) → ℕ
total_work ports = sum_by (sum_by work_of) ports

-- how many packets go nowhere
abbrev pub total_aside : List (List Planned) → ℕ
total_aside ports = sum_by (count_by (λ packet. packet.fan == 0)) ports

-- the greatest number of arrival slots
abbrev pub greatest_slots : List (List Planned) → ℕ
greatest_slots ports = fold (λ most packets. max most (slots_of packets)) 0 ports

-- a run ends before this slot
abbrev pub max_slots_of : List (List Planned) → ℕ
max_slots_of ports = greatest_slots ports + total_work ports + 1

-- ---- what comes to an output
-- the packet goes to this output
abbrev pub goes_to : ℕ → Planned → Bool
goes_to output packet = bit_at packet.fan output == 1

-- the bytes of its message
abbrev pub message_length : Planned → ℕ
message_length packet = MESSAGE_HEADER_BYTES + packet.len

-- its flow among those of its input
abbrev pub flow_of : Planned → ℕ
flow_of packet = 2 * packet.level + kind_byte (kind_of (queue_of packet))

-- the greatest message that an input sends to an output in a flow, 0 where it sends none
abbrev pub greatest_message : ℕ → ℕ → List Planned → ℕ
greatest_message output flow packets =
    fold (λ most packet. if goes_to output packet && (flow_of packet == flow) then max most (message_length packet) else most) 0 packets

-- those of all flows of all inputs
abbrev pub sizes_for : ℕ → List (List Planned) → List ℕ
sizes_for output ports =
    flat_map (λ packets. map (λ flow. greatest_message output flow packets) (range_with_len 0 FLOWS_PER_INPUT)) ports

-- the bytes that a packet brings to an output
abbrev pub bytes_to : ℕ → Planned → ℕ
bytes_to output packet = if goes_to output packet then message_length packet else 0

-- the bytes of all messages to an output
abbrev pub body_room_for : ℕ → List (List Planned) → ℕ
body_room_for output ports = sum_by (sum_by (bytes_to output)) ports

-- and their number
abbrev pub packet_room_for : ℕ → List (List Planned) → ℕ
packet_room_for output ports = sum_by (count_by (goes_to output)) ports
