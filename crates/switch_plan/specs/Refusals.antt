-- Why a job is refused before its first slot: the first of these causes, in this order.
use Rattle.std.specs.Prelude.{◌≡◌, ℕ, ◌+◌, ◌<◌, nat_lt, not, ◌==◌, Bool, if◌then◌else◌, List, [], ◌∷◌, length, map, find, sum_by, Option, None, Some, Ok, Err}
use Rattle.std.specs.Prelude.{option_map, slice_index_or}
use Rattle.std.specs.Option.{option_or}
use Rattle.pcap_records.specs.declared.fault.PcapFault.{PcapFault}
use Rattle.pcap_records.specs.declared.link.Link.{Link}
use Rattle.pcap_records.specs.declared.link.Link.TheVariants.{Ethernet}
use Rattle.pcap_records.specs.Format.{link_type}
use Rattle.pcap_records.specs.Faults.{IsFault}
use Rattle.forward_table.specs.declared.route_lines.RouteLine.{RouteLine}
use Rattle.forward_table.specs.Reading.{reading_of}
use Rattle.card_core.specs.declared.plan.Planned.{Planned}
use Rattle.switch_words.specs.declared.job.Speed.{Speed}
use Rattle.switch_words.specs.declared.job.Settings.{Settings}
use Rattle.switch_plan.specs.declared.limits.Limits.{Limits}
use Rattle.switch_plan.specs.declared.limits.TheConstants.{MAX_LONG_SLOTS, MAX_LONG_PACKETS, MAX_LONG_CELLS}
use Rattle.switch_plan.specs.declared.fault.PlanFault.{PlanFault}
use Rattle.switch_plan.specs.declared.fault.PlanFault.TheVariants.{Table, Capture, MixedLink, TooManySlots, TooManyPackets, TooManyCells, OutOfMemory}
use Rattle.switch_plan.specs.Traffic.{CaptureFile, IsFile, AreFiles, traffic_of}
use Rattle.switch_plan.specs.Totals.{most_for, slots_of, total_work}

-- the file of this port is the first that is no capture, and this is its fault
pub record IsFirstFault (files : List (List ℕ)) (port : ℕ) (fault : PcapFault) : Type 0 where
  pub within : port < length files
  pub before : (k : ℕ) (bytes : List ℕ) → k < port → (capture : CaptureFile) × IsFile (slice_index_or files k bytes) capture
  pub faulty : (bytes : List ℕ) → IsFault (slice_index_or files port bytes) fault

-- the link type of the first capture
abbrev pub first_link : List CaptureFile → Link
first_link [] = Ethernet
first_link (capture ∷ captures) = capture.link

-- the number of the first capture's link type, and that of the first capture of another
abbrev pub mixed_links : List CaptureFile → Option PlanFault
mixed_links captures =
    option_map (MixedLink (link_type (first_link captures)))
    (find (λ other. not (other == link_type (first_link captures))) (map (λ capture. link_type capture.link) captures))

-- the first of these numbers of arrival slots that is more than `most`; they are those of the ports from `port` on
abbrev pub first_over : ℕ → ℕ → List ℕ → Option PlanFault
first_over most port [] = None
first_over most port (slots ∷ ports) = if nat_lt most slots then Some (TooManySlots port slots) else first_over most (port + 1) ports

-- all captures together have so many packets, more than this limit, where there is one
abbrev pub over_packets : Option ℕ → ℕ → Option PlanFault
over_packets None packets = None
over_packets (Some most) packets = if nat_lt most packets then Some (TooManyPackets packets) else None

-- all packets together have so many cells, counted for each output, more than `most`
abbrev pub over_cells : ℕ → ℕ → Option PlanFault
over_cells most cells = if nat_lt most cells then Some (TooManyCells cells) else None

-- the limits of a burst, by the number of ports
abbrev pub burst_limits : ℕ → Limits
burst_limits ports = record { slots = most_for ports; packets = None; cells = most_for ports }

-- those of a long job, for any number of ports
abbrev pub long_limits : Limits
long_limits = record { slots = MAX_LONG_SLOTS; packets = Some MAX_LONG_PACKETS; cells = MAX_LONG_CELLS }

-- those of a job that is long or not
abbrev pub limits_for : Bool → ℕ → Limits
limits_for long ports = if long then long_limits else burst_limits ports

-- the first limit that ports of so many arrival slots each, so many packets and so many cells pass: slots, packets, cells
abbrev pub over_limits : Limits → List ℕ → ℕ → ℕ → Option PlanFault
over_limits limits slots packets cells =
    option_or (first_over limits.slots 0 slots) (option_or (over_packets limits.packets packets) (over_cells limits.cells cells))

-- that which the packets of all ports pass
abbrev pub over_traffic : Limits → List (List Planned) → Option PlanFault
over_traffic limits ports = over_limits limits (map slots_of ports) (sum_by length ports) (total_work ports)

-- What of a job's settings its refusal goes by: how fast packets come, and whether it is long.
pub record Terms : Type 0 where
  pub speed : Speed
  pub long : Bool

-- those of a job with these settings
abbrev pub terms_of : Settings → Terms
terms_of settings = record { speed = settings.speed; long = settings.long }

-- why a job of this table and these captures is refused, where it is
abbrev pub refusal_of : Terms → List RouteLine → List CaptureFile → Option PlanFault
refusal_of terms table captures =
    option_or (mixed_links captures)
    (over_traffic (limits_for terms.long (length captures)) (traffic_of table (first_link captures) terms.speed captures))

-- the text and the files are this table and these captures
pub record AreRead (text : List ℕ) (files : List (List ℕ)) (table : List RouteLine) (captures : List CaptureFile) : Type 0 where
  pub table_is : reading_of (length files) text ≡ Ok table
  pub captures_are : AreFiles files captures

-- a table and captures that can be read, and are refused for this
abbrev pub IsRefusedWhenRead : Terms → List ℕ → List (List ℕ) → PlanFault → Type 0
IsRefusedWhenRead terms text files fault =
    (table : List RouteLine) × (captures : List CaptureFile) × AreRead text files table captures × (refusal_of terms table captures ≡ Some fault)

-- The first cause why a job is refused: a fault of the table, of the first faulty capture, or of what they hold. Want
-- of memory is none.
abbrev pub IsRefusal : Terms → List ℕ → List (List ℕ) → PlanFault → Type 0
IsRefusal terms text files (Table fault) = reading_of (length files) text ≡ Err fault
IsRefusal terms text files (Capture port fault) =
    (table : List RouteLine) × (reading_of (length files) text ≡ Ok table) × IsFirstFault files port fault
IsRefusal terms text files (MixedLink first other) = IsRefusedWhenRead terms text files (MixedLink first other)
IsRefusal terms text files (TooManySlots port slots) = IsRefusedWhenRead terms text files (TooManySlots port slots)
IsRefusal terms text files (TooManyPackets packets) = IsRefusedWhenRead terms text files (TooManyPackets packets)
IsRefusal terms text files (TooManyCells cells) = IsRefusedWhenRead terms text files (TooManyCells cells)
IsRefusal terms text files OutOfMemory = ⊥
