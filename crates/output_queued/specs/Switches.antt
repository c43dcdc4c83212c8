-- What comes to the outputs of a switch, and what its slots feed them. The switch is the list of what each input is to
-- send, and the matches of its slots say which input fed which output.
use Rattle.std.specs.Prelude.{◌≡◌, ◌≢◌, ℕ, ◌+◌, ◌-◌, ◌*◌, ◌^◌, ◌<◌, ◌≤◌, ◌&&◌, is_some, if◌then◌else◌, List, [], map, length, replicate, Option, None, Some}
use Rattle.std.specs.Prelude.{slice_get, slice_index_or}
use Rattle.std.specs.List.{sum_by, range_with_len}
use Rattle.rotating_pick.specs.PortSets.{IsAmong}
use Rattle.rotating_pick.specs.declared.kinds.Kind.{Kind}
use Rattle.rotating_pick.specs.declared.limits.TheConstants.{LEVELS, MAX_PORTS}
use Rattle.cell_cutter.specs.declared.sizes.TheConstants.{MAX_FORWARDED_CELLS, MESSAGE_HEADER_BYTES, PAYLOAD_BYTES}
use Rattle.slot_match.specs.declared.rows.Row.{Row}
use Rattle.slot_match.specs.declared.matching.Fed.{Fed}
use Rattle.slot_match.specs.declared.matching.Served.{Served}
use Rattle.slot_match.specs.Rows.{Names}
use Rattle.slot_match.specs.Matches.{fed_of, Serves, IsMatch}
use Rattle.slot_match.specs.Parts.{served_of}
use Rattle.slot_histories.specs.Tests.{has}
use Rattle.reassembly.specs.declared.limits.TheConstants.{FLOWS_PER_INPUT}
use Rattle.voq_banks.specs.declared.limits.TheConstants.{MAX_DEPTH}
use Rattle.card_core.specs.declared.limits.TheConstants.{MAX_ARRIVALS}
use Rattle.card_core.specs.declared.plan.Planned.{Planned}
use Rattle.card_core.specs.Plans.{Plan, OfOutput, OfLevel, IsGoodPlan, size_of, arriving}
use Rattle.card_core.specs.Queues.{waiting, before, is_admitted}
use Rattle.card_core.specs.Posts.{row_at}
use Rattle.output_queued.specs.declared.coming.Coming.{Coming}
use Rattle.output_queued.specs.Ideal.{total}

-- the match of a slot: what feeds each output
abbrev pub Matched : Type 0
Matched = List (Option Fed)

-- the match of slot t
abbrev pub match_at : List Matched → ℕ → Matched
match_at matches t = slice_index_or matches t []

-- what input i was served in each slot
abbrev pub served_in : List Matched → ℕ → List (Option Served)
served_in matches i = map (λ matched. served_of matched i) matches

-- an input that sends nothing
abbrev pub no_card : Plan
no_card = record { ports = 0; card = 0; depth = 0; packets = []; bytes = []; sizes = []; body_room = 0; packet_room = 0 }

-- what input i is to send
abbrev pub card_of : List Plan → ℕ → Plan
card_of cards i = slice_index_or cards i no_card

-- ---- what comes to an output, and what is fed
-- how many cells a packet brings to output j: all of its own where it goes there and its queue admits it in slot t
abbrev pub brought : Plan → List (Option Served) → ℕ → ℕ → Option (ℕ × Planned) → ℕ
brought plan served j t None = 0
brought plan served j t (Some (k, packet)) = if has packet.fan j && is_admitted plan served t packet then size_of packet else 0

-- how many cells an input brings to output j in slot t: those of the packet that arrives in it
abbrev pub cells_from : Plan → List (Option Served) → ℕ → ℕ → ℕ
cells_from plan served j t = brought plan served j t (arriving plan t)

-- how many cells come to output j in slot t, from all inputs
unfoldable pub comes : List Plan → List Matched → ℕ → ℕ → ℕ
comes cards matches j t = total (λ i. cells_from (card_of cards i) (served_in matches i) j t) (length cards)

-- how many cells slot t feeds to output j: one or none
abbrev pub feeds : List Matched → ℕ → ℕ → ℕ
feeds matches j t = if is_some (fed_of (match_at matches t) j) then 1 else 0

-- ---- the switch's own run
-- the rows of the slot after these, by input: the queues that are not empty, and the heads' remaining fan-outs
abbrev pub rows_after : List Plan → List Matched → List Row
rows_after cards matches = map (λ i. row_at (card_of cards i) (served_in matches i) (length matches)) (range_with_len 0 (length cards))

-- each slot has a match of the switch's ports, and serves only what the rows of the slot name
pub record AreServed (cards : List Plan) (matches : List Matched) : Type 0 where
  pub whole : (t : ℕ) → t < length matches → IsMatch (length cards) (match_at matches t)
  pub named : (t i j level : ℕ) (kind : Kind) → t < length matches → Serves (match_at matches t) i j level kind
      → Names (row_at (card_of cards i) (served_in matches i) t) level kind j

-- after these slots no cell waits in any queue
pub record AreEmptied (cards : List Plan) (matches : List Matched) : Type 0 where
  pub unicast : (i j level : ℕ) → i < length cards → j < length cards → level < LEVELS
      → waiting (before (card_of cards i) (OfOutput j level) (served_in matches i) (length matches)) ≡ []
  pub multicast : (i level : ℕ) → i < length cards → level < LEVELS
      → waiting (before (card_of cards i) (OfLevel level) (served_in matches i) (length matches)) ≡ []

-- the inputs of a switch: of each a plan that a card can be made of, for as many ports as there are inputs
pub record AreCards (cards : List Plan) : Type 0 where
  pub good : (i : ℕ) → i < length cards → IsGoodPlan (card_of cards i)
  pub ports : (i : ℕ) → i < length cards → (card_of cards i).ports ≡ length cards

-- ---- inputs that are told by the cells of their packets
-- captured bytes that take so many cells: the fewest
abbrev pub bytes_for : ℕ → ℕ
bytes_for cells = PAYLOAD_BYTES * (cells - 1) + 1 - MESSAGE_HEADER_BYTES

-- a packet of so many cells, of which nothing else is told
abbrev pub planned_of : Coming → Planned
planned_of c = record { seconds = 0; nanos = 0; original = 0; start = 0; len = bytes_for c.cells; arrival = c.slot; fan = c.fan; level = c.level }

-- an input of a switch of so many ports, with queues of so many cells at most, that is to send these packets
unfoldable pub card_for : ℕ → ℕ → List Coming → Plan
card_for ports depth coming = record {
  ports = ports;
  card = 0;
  depth = depth;
  packets = map planned_of coming;
  bytes = replicate (sum_by (λ c. bytes_for c.cells) coming) 0;
  sizes = replicate (FLOWS_PER_INPUT * ports) 0;
  body_room = 0;
  packet_room = 0;
}

-- a packet has 1 to 1,171 cells, one or more of the ports, and a level of 0 to 3
pub record IsComing (ports : ℕ) (c : Coming) : Type 0 where
  pub some : 0 < c.cells
  pub few : c.cells ≤ MAX_FORWARDED_CELLS
  pub level : c.level < LEVELS
  pub routed : c.fan ≢ 0
  pub fan : IsAmong ports c.fan

-- the packets of an input are so, fewer than 2^32, and each arrives in a later slot than those before it
pub record IsInput (ports : ℕ) (coming : List Coming) : Type 0 where
  pub few : length coming < 2 ^ 32
  pub packets : (k : ℕ) (c : Coming) → slice_get coming k ≡ Some c → IsComing ports c
  pub rising : (k m : ℕ) (c d : Coming) → slice_get coming k ≡ Some c → slice_get coming m ≡ Some d → k < m → c.slot < d.slot

-- a switch of so many ports, with queues of so many cells, and the packets of each input
pub record IsSwitch (ports depth : ℕ) (inputs : List (List Coming)) : Type 0 where
  pub some : 0 < ports
  pub size : ports ≤ MAX_PORTS
  pub deep : 0 < depth
  pub count : length inputs ≡ ports
  pub each : (i : ℕ) (coming : List Coming) → slice_get inputs i ≡ Some coming → IsInput ports coming

-- each packet of an input arrives in a slot below 131,072
abbrev pub AreEarly : List Coming → Type 0
AreEarly coming = (k : ℕ) (c : Coming) → slice_get coming k ≡ Some c → c.slot < MAX_ARRIVALS

-- a switch of a burst: its queues have at most 131,072 cells, and its packets arrive early
pub record IsSmallSwitch (depth : ℕ) (inputs : List (List Coming)) : Type 0 where
  pub depth_in : depth ≤ MAX_DEPTH
  pub early : (i : ℕ) (coming : List Coming) → slice_get inputs i ≡ Some coming → AreEarly coming
