-- The rows of the packets file, of what is kept of a run, and those that a walk over them has left.
use Rattle.std.specs.Prelude.{ℕ, ◌+◌, ◌-◌, ◌++◌, ◌==◌, ◌&&◌, nat_lt, min, if◌then◌else◌, Bool, false, List, [], ◌∷◌, length, map, drop, replicate}
use Rattle.std.specs.Prelude.{Option, None, option_map, slice_get, slice_index, slice_index_or}
use Rattle.std.specs.List.{flat_map, fold, range_with_len}
use Rattle.rotating_pick.specs.declared.limits.TheConstants.{LEVELS, MAX_PORTS}
use Rattle.cell_cutter.specs.declared.sizes.TheConstants.{MAX_FORWARDED_BYTES}
use Rattle.card_core.specs.declared.plan.Planned.{Planned}
use Rattle.card_core.specs.Plans.{kind_of, queue_of}
use Rattle.card_core.specs.Queues.{is_routed}
use Rattle.packet_times.specs.declared.flow_counts.TheConstants.{MOST_FLOWS}
use Rattle.packet_times.specs.declared.state.PacketState.{PacketState}
use Rattle.packet_times.specs.declared.state.PacketState.TheVariants.{Forwarded, Dropped, Unrouted, Oversize}
use Rattle.packet_times.specs.declared.walk.Outcome.{Outcome}
use Rattle.packet_times.specs.declared.walk.Walk.{Walk}
use Rattle.packet_times.specs.NotingSteps.{Input, Times, no_input, flow_place}
use Rattle.packet_times.specs.Rows.{row_text, header, outputs_in, routed_row, aside_row}
use Rattle.packet_times.specs.WalkingSteps.{own_place, with_one}

-- what became of a packet that was admitted or not
abbrev pub kept_state : Planned → Bool → PacketState
kept_state p admitted = if is_routed p then (if admitted then Forwarded else Dropped) else (if nat_lt MAX_FORWARDED_BYTES p.len then Oversize else Unrouted)

-- how many ports the switch has, no more than 64
abbrev pub kept_ports : Times → ℕ
kept_ports times = min (length times.inputs) MAX_PORTS

-- whether it is a flow of a switch of so many ports
abbrev pub is_flow : ℕ → ℕ → ℕ → ℕ → Bool
is_flow ports i j level = nat_lt i ports && nat_lt j ports && nat_lt level LEVELS

-- the departure of a packet of input i by output j, where so many packets before it went by each flow
abbrev pub kept_departure : Times → List ℕ → ℕ → Planned → Bool → ℕ → Option ℕ
kept_departure times counts i p admitted j =
    let kind = kind_of (queue_of p) in
    let ports = kept_ports times in
    if admitted && is_flow ports i j p.level
    then slice_get (slice_index_or times.ends (flow_place ports (record { input = i; output = j; level = p.level; kind = kind })) [])
    (slice_index counts (own_place j p.level kind))
    else None

-- the row of packet k of input i to output j
abbrev pub kept_row : Times → List ℕ → ℕ → ℕ → Planned → Bool → ℕ → List (List ℕ)
kept_row times counts i k p admitted j = routed_row i k p (kept_state p admitted) j (kept_departure times counts i p admitted j)

-- its rows to the outputs of a set, or the one where it goes nowhere
abbrev pub kept_rows : Times → List ℕ → ℕ → ℕ → Planned → Bool → ℕ → List (List (List ℕ))
kept_rows times counts i k p admitted outputs =
    if outputs == 0 then aside_row i k p (kept_state p admitted) ∷ [] else map (kept_row times counts i k p admitted) (outputs_in MAX_PORTS outputs)

-- a packet more that went by its flow to each of its outputs
abbrev pub counts_with : Planned → List ℕ → List ℕ
counts_with p counts = fold (λ now j. with_one now (own_place j p.level (kind_of (queue_of p)))) counts (outputs_in MAX_PORTS p.fan)

-- where it was admitted
abbrev pub counts_after : Bool → Planned → List ℕ → List ℕ
counts_after admitted p counts = if admitted then counts_with p counts else counts

-- the outputs that are left of a packet, of which these are left, or which has not begun
abbrev pub begun : Planned → ℕ → ℕ
begun p outputs = if outputs == 0 then p.fan else outputs

-- the rows of packets of an input from packet k on, of which the first has these outputs left
abbrev pub rows_from : Times → Input → ℕ → ℕ → List ℕ → ℕ → List Planned → List (List (List ℕ))
rows_from times own i k counts outputs [] = []
rows_from times own i k counts outputs (p ∷ ps) =
    kept_rows times counts i k p (slice_index_or own.admitted k false) (begun p outputs)
    ++ rows_from times own i (k + 1) (counts_after (slice_index_or own.admitted k false) p counts) 0 ps

-- the rows of an input from a packet on
abbrev pub rows_of : Times → ℕ → ℕ → List ℕ → ℕ → List (List (List ℕ))
rows_of times i k counts outputs =
    let own = slice_index_or times.inputs i no_input in
    rows_from times own i k counts outputs (drop k own.counters.packets)

-- all rows of an input
abbrev pub input_rows : Times → ℕ → List (List (List ℕ))
input_rows times i = rows_of times i 0 (replicate MOST_FLOWS 0) 0

-- a walk before the rows of an input
abbrev pub walk_at : ℕ → Walk
walk_at i = record { input = i; number = 0; outputs = 0; counts = replicate MOST_FLOWS 0 }

-- the packet that a walk is at
abbrev pub kept_outcome : Times → Walk → Option Outcome
kept_outcome times walk =
    let own = slice_index_or times.inputs walk.input no_input in
    option_map (λ p. record { input = walk.input; number = walk.number; packet = p; admitted = slice_index_or own.admitted walk.number false })
    (slice_get own.counters.packets walk.number)

-- after a row of its packet, of which these outputs are left
abbrev pub passed : Planned → Bool → ℕ → Walk → Walk
passed p admitted rest walk =
    if rest == 0 then record { input = walk.input; number = walk.number + 1; outputs = 0; counts = counts_after admitted p walk.counts }
    else record { input = walk.input; number = walk.number; outputs = rest; counts = walk.counts }

-- the rows that a walk has left
abbrev pub rows_left : Times → Walk → List (List (List ℕ))
rows_left times walk =
    rows_of times walk.input walk.number walk.counts walk.outputs
    ++ flat_map (input_rows times) (range_with_len (walk.input + 1) (length times.inputs - (walk.input + 1)))

-- The packets file that is given piece by piece: what is kept of the run, how far the walk over its rows has come, and
-- whether the header was given.
pub record Pieces : Type 0 where
  pub times : Times
  pub walk : Walk
  pub began : Bool

-- the bytes that are left of it
abbrev pub left : Pieces → List ℕ
left pieces = (if pieces.began then [] else header) ++ flat_map row_text (rows_left pieces.times pieces.walk)
