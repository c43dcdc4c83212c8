-- The input that `gen` makes: a table, and a capture for each port.
use Rattle.std.specs.Prelude.{ℕ, ◌+◌, ◌-◌, ◌*◌, ◌/◌, ◌%◌, ◌==◌, ◌&&◌, nat_lt, if◌then◌else◌, false, List, [], ◌∷◌, ◌++◌, map, flat_map, replicate}
use Rattle.std.specs.Prelude.{decimal, codes}
use Rattle.std.specs.List.{range_with_len}
use Rattle.rotating_pick.specs.declared.limits.TheConstants.{LEVELS}
use Rattle.pcap_records.specs.declared.link.Link.TheVariants.{Ethernet}
use Rattle.pcap_records.specs.declared.order.Order.TheVariants.{Little}
use Rattle.pcap_records.specs.Format.{Record, record_bytes}
use Rattle.pcap_records.specs.Output.{header_text}
use Rattle.forward_table.specs.Text.{line_feed}
use Rattle.switch_words.specs.declared.job.GenJob.{GenJob}

-- the numbers 0 to n - 1
abbrev pub below : ℕ → List ℕ
below n = range_with_len 0 n

-- ---- the table
-- the address of a route, `10.LEVEL.GROUP.PORT/32`
abbrev pub address_text : ℕ → ℕ → ℕ → List ℕ
address_text level group port =
    codes "10." ++ decimal level ++ codes "." ++ decimal group ++ codes "." ++ decimal port ++ codes "/32 "

-- its ports: of group 0 the one port, of group 1 the next port too, where there is another
abbrev pub ports_text : ℕ → ℕ → ℕ → List ℕ
ports_text ports group port =
    if (group == 1) && nat_lt 1 ports then decimal port ++ codes "," ++ decimal ((port + 1) % ports) else decimal port

-- and its level, which ends the line
abbrev pub end_text : ℕ → List ℕ
end_text level = codes " " ++ decimal level ++ line_feed ∷ []

-- the route of one address: a line of the table
abbrev pub route_text : ℕ → ℕ → ℕ → ℕ → List ℕ
route_text ports level group port =
    address_text level group port ++ ports_text ports group port ++ end_text level

abbrev pub group_text : ℕ → ℕ → ℕ → List ℕ
group_text ports level group = flat_map (route_text ports level group) (below ports)

abbrev pub level_text : ℕ → ℕ → List ℕ
level_text ports level = flat_map (group_text ports level) (below 2)

-- the table for a switch of `ports` ports: for each level and each of two groups a route to each port
abbrev pub made_table : ℕ → List ℕ
made_table ports = flat_map (level_text ports) (below LEVELS)

-- ---- the captures
-- the number that packet k of a port is made from
abbrev pub made_number : ℕ → ℕ → ℕ → ℕ
made_number seed port k = (75 * (seed + 101 * k + 13 * port) + 74) % 65537

-- its bytes, captured and on the line: 60 to 1,500
abbrev pub made_length : ℕ → ℕ
made_length h = 60 + h % 1441

-- the level, the group and the port of its destination
abbrev pub made_level : ℕ → ℕ
made_level h = h % 4

abbrev pub made_group : ℕ → ℕ
made_group h = if (h / 4) % 8 == 0 then 1 else 0

abbrev pub made_port : ℕ → ℕ → ℕ
made_port ports h = (h / 8) % ports

-- what every frame begins with: an Ethernet header of type 0x0800 with addresses of zeros, and an IPv4 header up to
-- its destination, of zeros except for the version and length
unfoldable pub frame_begin : List ℕ
frame_begin = replicate 12 0 ++ 8 ∷ 0 ∷ 0x45 ∷ [] ++ replicate 15 0

-- its frame: the destination is `10.LEVEL.GROUP.PORT`, and what follows is zeros
unfoldable pub made_frame : ℕ → ℕ → List ℕ
made_frame ports h =
    frame_begin ++ (10 ∷ made_level h ∷ made_group h ∷ made_port ports h ∷ []) ++ replicate (made_length h - 34) 0

-- its record: packet k of a port was captured at second k, at the microsecond of the port's number
abbrev pub made_record : GenJob → ℕ → ℕ → Record
made_record job port k = record {
  seconds = k;
  fraction = port;
  original = made_length (made_number job.seed port k);
  bytes = made_frame job.ports (made_number job.seed port k);
}

-- the capture of a port: a little-endian Ethernet capture in microseconds
abbrev pub made_capture : GenJob → ℕ → List ℕ
made_capture job port =
    header_text false Ethernet ++ flat_map (λ k. record_bytes Little (made_record job port k)) (below job.count)

-- the captures of all ports
abbrev pub made_captures : GenJob → List (List ℕ)
made_captures job = map (made_capture job) (below job.ports)
