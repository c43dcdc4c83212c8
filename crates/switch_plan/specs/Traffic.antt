-- A job's captures, and their packets as they come to the switch.
use Rattle.std.specs.Prelude.{◌≡◌, ℕ, ◌+◌, ◌*◌, ◌<◌, min, nat_lt, not, is_none, ◌&&◌, Bool, if◌then◌else◌, List, [], ◌∷◌, length, map, fold, Option}
use Rattle.std.specs.Prelude.{None, Some, slice_index_or, unwrap_or}
use Rattle.std.specs.List.{list_any, zip}
use Rattle.cell_cutter.specs.declared.sizes.TheConstants.{MAX_FORWARDED_BYTES}
use Rattle.cell_cutter.specs.Messages.{cells_of_packet}
use Rattle.line_pace.specs.declared.pace.Stamp.{Stamp}
use Rattle.line_pace.specs.declared.pace.Pace.{Pace}
use Rattle.line_pace.specs.declared.pace.Pace.TheVariants.{Line, Micros, Rate}
use Rattle.line_pace.specs.Arrivals.{arrival_slots}
use Rattle.pcap_records.specs.declared.link.Link.{Link}
use Rattle.pcap_records.specs.declared.capture.Capture.{Capture}
use Rattle.pcap_records.specs.Packets.{Packet, packets_of}
use Rattle.pcap_records.specs.Captures.{IsCapture}
use Rattle.forward_table.specs.declared.route_lines.Route.{Route}
use Rattle.forward_table.specs.declared.route_lines.RouteLine.{RouteLine}
use Rattle.forward_table.specs.Routing.{route_of}
use Rattle.frame_fields.specs.Destination.{destination_of}
use Rattle.card_core.specs.declared.plan.Planned.{Planned}
use Rattle.switch_words.specs.declared.job.Speed.{Speed}
use Rattle.switch_words.specs.declared.job.Speed.TheVariants.{Untimed, SlotMicros, LineRate}

-- ---- what files hold
-- a capture file: its unit, its link type and its packets
pub record CaptureFile : Type 0 where
  pub nano : Bool
  pub link : Link
  pub packets : List Packet

-- the same of a capture that was read
abbrev pub file_of : Capture → CaptureFile
file_of capture = record { nano = capture.nano; link = capture.link; packets = packets_of capture }

-- the bytes are this capture file
abbrev pub IsFile : List ℕ → CaptureFile → Type 0
IsFile bytes file = IsCapture bytes file.nano file.link file.packets

-- the files of the ports are these captures
pub record AreFiles (files : List (List ℕ)) (captures : List CaptureFile) : Type 0 where
  pub count : length captures ≡ length files
  pub each : (k : ℕ) (bytes : List ℕ) (capture : CaptureFile) → k < length files → IsFile (slice_index_or files k bytes) (slice_index_or captures k capture)

-- outputs are written in nanoseconds where some input is
abbrev pub is_nano : List CaptureFile → Bool
is_nano captures = list_any (λ capture. capture.nano) captures

-- ---- where a packet goes
-- a frame of too many captured bytes is not forwarded
abbrev pub is_oversize : List ℕ → Bool
is_oversize frame = nat_lt MAX_FORWARDED_BYTES (length frame)

-- the route of a frame's destination; one that is oversize has none
abbrev pub route_for : List RouteLine → Link → List ℕ → Option Route
route_for table link frame = if is_oversize frame then None else route_of table (destination_of link frame)

-- a frame that is not oversize, and that no line of the table serves
abbrev pub is_unrouted : List RouteLine → Link → List ℕ → Bool
is_unrouted table link frame = not (is_oversize frame) && is_none (route_of table (destination_of link frame))

-- the outputs of a packet, none where it has no route
abbrev pub fan_of : Option Route → ℕ
fan_of None = 0
fan_of (Some route) = route.fan

-- and its level
abbrev pub level_of : Option Route → ℕ
level_of None = 0
level_of (Some route) = route.level

-- ---- when it comes
-- the time of a packet in nanoseconds
abbrev pub time_of : Packet → ℕ
time_of packet = packet.seconds * 1000000000 + packet.nanos

-- its time, and the slots for which it occupies the line
abbrev pub stamp_of : Packet → Stamp
stamp_of packet = record { time = time_of packet; cells = cells_of_packet (length packet.bytes) }

-- the least time so far, with one time more
abbrev pub earlier : Option ℕ → ℕ → Option ℕ
earlier None time = Some time
earlier (Some least) time = Some (min least time)

-- the least time of some packets and of what came before them
abbrev pub least_in : Option ℕ → List Packet → Option ℕ
least_in least packets = fold earlier least (map time_of packets)

-- the least time of all packets of all captures, where there is one
abbrev pub least_time : List CaptureFile → Option ℕ
least_time captures = fold (λ least capture. least_in least capture.packets) None captures

-- slot 0 begins at the least time, where there is one; or packets come one after the other
abbrev pub pace_from : Speed → Option ℕ → Pace
pace_from Untimed least = Line
pace_from (SlotMicros micros) least = Micros micros (unwrap_or least 0)
pace_from (LineRate mbps) least = Rate mbps (unwrap_or least 0)

-- the pace of a job
abbrev pub pace_of : Speed → List CaptureFile → Pace
pace_of speed captures = pace_from speed (least_time captures)

-- ---- the packets of a port, in order
-- a packet that arrives in this slot, except for the place of its bytes in its file
abbrev pub planned : List RouteLine → Link → Packet → ℕ → Planned
planned table link packet slot = record {
  seconds = packet.seconds;
  nanos = packet.nanos;
  original = packet.original;
  start = 0;
  len = length packet.bytes;
  arrival = slot;
  fan = fan_of (route_for table link packet.bytes);
  level = level_of (route_for table link packet.bytes);
}

-- a packet except for the place of its bytes
abbrev pub unplaced : Planned → Planned
unplaced packet = record packet { start = 0 }

-- the packets of a port; all occupy the line, also those that go nowhere
abbrev pub port_traffic : List RouteLine → Link → Pace → List Packet → List Planned
port_traffic table link pace packets =
    map (λ pair. planned table link pair.0 pair.1) (zip packets (arrival_slots pace (map stamp_of packets)))

-- Where the captured bytes of packets stand in their file, of which the first stand there: the others each after the
-- record before and the 16 bytes of its own record's header. In a file the first stand at byte 40.
abbrev pub places_from : ℕ → List Packet → List ℕ
places_from at [] = []
places_from at (packet ∷ packets) = at ∷ places_from (at + length packet.bytes + 16) packets

-- the packets of all ports
abbrev pub traffic_of : List RouteLine → Link → Speed → List CaptureFile → List (List Planned)
traffic_of table link speed captures =
    map (λ capture. port_traffic table link (pace_of speed captures) capture.packets) captures
