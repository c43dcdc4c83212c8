-- The packets file of a run: a row for each packet and each of its outputs. What ends in `under` is of any scheduler; the
-- other names are of the scheduler of the board.
use Rattle.std.specs.Prelude.{ℕ, ◌-◌, ◌++◌, nat_lt, if◌then◌else◌, List, [], ◌∷◌, map, filter, Option, None, Some, codes, decimal}
use Rattle.std.specs.List.{flat_map, range_with_len, enumerate_from, join_with_byte}
use Rattle.cell_cutter.specs.declared.sizes.TheConstants.{MAX_FORWARDED_BYTES}
use Rattle.slot_match.specs.declared.matching.Served.{Served}
use Rattle.eslip_rounds.specs.Schedulers.{Scheduler}
use Rattle.eslip_rounds.specs.Decisions.{decision_of}
use Rattle.slot_histories.specs.Tests.{has}
use Rattle.card_core.specs.declared.plan.Planned.{Planned}
use Rattle.card_core.specs.Plans.{Plan, kind_of, queue_of, size_of}
use Rattle.card_core.specs.Queues.{is_routed, is_admitted}
use Rattle.slot_report.specs.Texts.{letter_of}
use Rattle.switch_plan.specs.GoodPlans.{SwitchPlan}
use Rattle.run_laws.specs.Runs.{ports_of, card_at, parts_under}
use Rattle.run_laws.specs.Departures.{departure_under}
use Rattle.packet_times.specs.declared.state.PacketState.{PacketState}
use Rattle.packet_times.specs.declared.state.PacketState.TheVariants.{Forwarded, Dropped, Unrouted, Oversize}

-- what became of a packet of an input that was served these parts
abbrev pub state_of : Plan → List (Option Served) → Planned → PacketState
state_of plan served packet =
    if is_routed packet then (if is_admitted plan served packet.arrival packet then Forwarded else Dropped)
    else (if nat_lt MAX_FORWARDED_BYTES packet.len then Oversize else Unrouted)

abbrev pub state_name : PacketState → List ℕ
state_name Forwarded = codes "forwarded"
state_name Dropped = codes "dropped"
state_name Unrouted = codes "unrouted"
state_name Oversize = codes "oversize"

-- a departure and a delay, empty where the packet does not leave
abbrev pub departure_text : Option ℕ → List ℕ
departure_text None = []
departure_text (Some t) = decimal t

abbrev pub delay_text : ℕ → Option ℕ → List ℕ
delay_text arrival None = []
delay_text arrival (Some t) = decimal (t - arrival)

-- the row of packet k of input i to output j
unfoldable pub routed_row : ℕ → ℕ → Planned → PacketState → ℕ → Option ℕ → List (List ℕ)
routed_row i k packet state j departure =
    decimal i ∷ decimal k ∷ decimal packet.len ∷ decimal (size_of packet) ∷ state_name state ∷ decimal packet.level ∷ letter_of (kind_of (queue_of packet))
    ∷ decimal j ∷ decimal packet.arrival ∷ departure_text departure ∷ delay_text packet.arrival departure ∷ []

-- the row of a packet that goes nowhere
unfoldable pub aside_row : ℕ → ℕ → Planned → PacketState → List (List ℕ)
aside_row i k packet state =
    decimal i ∷ decimal k ∷ decimal packet.len ∷ decimal (size_of packet) ∷ state_name state ∷ [] ∷ [] ∷ [] ∷ decimal packet.arrival ∷ [] ∷ [] ∷ []

-- the departure of a packet that was forwarded
abbrev pub departure_if : PacketState → Option ℕ → Option ℕ
departure_if Forwarded departure = departure
departure_if _ departure = None

-- the outputs of a fan-out, rising
abbrev pub outputs_in : ℕ → ℕ → List ℕ
outputs_in ports fan = filter (has fan) (range_with_len 0 ports)

-- the rows of packet k of input i
abbrev pub packet_rows : Scheduler → SwitchPlan → ℕ → ℕ → ℕ → Planned → List (List (List ℕ))
packet_rows scheduler plan slots i k packet =
    let state = state_of (card_at plan i) (parts_under scheduler plan i slots) packet in
    if is_routed packet then map (λ j. routed_row i k packet state j (departure_if state (departure_under scheduler plan slots i j k packet)))
    (outputs_in (ports_of plan) packet.fan)
    else aside_row i k packet state ∷ []

-- all rows: inputs rising, and of each input its packets in the order of its capture
abbrev pub all_rows : Scheduler → SwitchPlan → ℕ → List (List (List ℕ))
all_rows scheduler plan slots =
    flat_map (λ i. flat_map (λ p. packet_rows scheduler plan slots i p.0 p.1) (enumerate_from 0 (card_at plan i).packets)) (range_with_len 0 (ports_of plan))

-- a row as a line: a comma between each two fields, and a line feed
unfoldable pub row_text : List (List ℕ) → List ℕ
row_text fields = join_with_byte 44 fields ++ codes "\n"

abbrev pub header : List ℕ
header = codes "input,packet,bytes,cells,state,level,kind,output,arrival,departure,delay\n"

-- the packets file of a run of so many slots
unfoldable pub packets_text_under : Scheduler → SwitchPlan → ℕ → List ℕ
packets_text_under scheduler plan slots = header ++ flat_map row_text (all_rows scheduler plan slots)

abbrev pub packets_text : SwitchPlan → ℕ → List ℕ
packets_text = packets_text_under decision_of
