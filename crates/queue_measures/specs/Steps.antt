-- What a packet makes of the numbers of its queue, and the words of the report's texts.
use Rattle.std.specs.Prelude.{◌≡◌, ◌≢◌, ℕ, ◌+◌, ◌/◌, ◌%◌, ◌^◌, ◌<◌, ◌≤◌, max, nat_lt, Bool, if◌then◌else◌, List, []}
use Rattle.std.specs.Prelude.{◌∷◌, length, slice_index, slice_index_or, slice_set, Option, None, Some}
use Rattle.std.specs.List.{fold, flat_map}
use Rattle.rotating_pick.specs.PortSets.{IsAmong}
use Rattle.rotating_pick.specs.declared.limits.TheConstants.{LEVELS, MAX_PORTS}
use Rattle.cell_cutter.specs.declared.sizes.TheConstants.{MAX_FORWARDED_BYTES}
use Rattle.slot_report.specs.Lines.{lines_text}
use Rattle.slot_report.specs.Texts.{map_with_place}
use Rattle.card_core.specs.Plans.{Queue, OfOutput, OfLevel, queue_of, size_of}
use Rattle.card_core.specs.Queues.{is_routed}
use Rattle.queue_lengths.specs.declared.counters.Arrival.{Arrival}
use Rattle.queue_lengths.specs.Lengths.{count_of, place_of}
use Rattle.queue_measures.specs.declared.numbers.QueueNumbers.{QueueNumbers}
use Rattle.queue_measures.specs.Lines.{queue_line}
use Rattle.queue_measures.specs.NotingSteps.{Input, no_numbers}

-- the numbers with a packet of so many cells that comes in a slot; with it this many cells wait
abbrev pub with_packet : ℕ → ℕ → Bool → ℕ → QueueNumbers → QueueNumbers
with_packet slot cells admitted length numbers = record {
  packets = numbers.packets + 1;
  dropped = numbers.dropped + (if admitted then 0 else 1);
  cells = numbers.cells + (if admitted then cells else 0);
  peak = max numbers.peak length;
  slot = if nat_lt numbers.peak length then slot else numbers.slot;
}

-- a packet more, of so many cells, fits in the numbers
pub record HasRoom (size : ℕ) (numbers : QueueNumbers) : Type 0 where
  pub packets : numbers.packets + 1 < 2 ^ 32
  pub dropped : numbers.dropped + 1 < 2 ^ 32
  pub cells : numbers.cells + size < 2 ^ 32

-- the queue of a place
abbrev pub queue_at : ℕ → ℕ → Queue
queue_at ports place = if nat_lt (place / LEVELS) ports then OfOutput (place / LEVELS) (place % LEVELS) else OfLevel (place % LEVELS)

-- the line of the queue at a place, where a packet was for it
abbrev pub line_at : ℕ → ℕ → ℕ → QueueNumbers → List (List (List ℕ))
line_at ports i place numbers = if nat_lt 0 numbers.packets then queue_line i (queue_at ports place) numbers ∷ [] else []

-- the text of input i, of the numbers of its queues
abbrev pub numbers_text : ℕ → ℕ → List QueueNumbers → List ℕ
numbers_text ports i numbers = flat_map lines_text (map_with_place (line_at ports i) numbers)

-- the text of input i
abbrev pub input_text : ℕ → ℕ → Input → List ℕ
input_text ports i input = numbers_text ports i input.numbers

-- the greatest peak
abbrev pub deepest_in : List QueueNumbers → ℕ
deepest_in numbers = fold (λ most queue. max most queue.peak) 0 numbers

-- of all inputs
abbrev pub deepest_among : List Input → ℕ
deepest_among inputs = fold (λ most input. max most (deepest_in input.numbers)) 0 inputs

-- The packet may be counted: there are numbers and a length for each queue, the packet is one of the switch, and it fits in the
-- numbers of its queue if it goes anywhere.
pub record MayCount (ports : ℕ) (long : List ℕ) (numbers : List QueueNumbers) (arrival : Arrival) : Type 0 where
  pub size : ports ≤ MAX_PORTS
  pub lengths : length long ≡ count_of ports
  pub count : length numbers ≡ count_of ports
  pub level : arrival.packet.level < LEVELS
  pub fan : IsAmong ports arrival.packet.fan
  pub forwarded : arrival.packet.fan ≢ 0 → arrival.packet.len ≤ MAX_FORWARDED_BYTES
  pub room : arrival.packet.fan ≢ 0
      → HasRoom (size_of arrival.packet) (slice_index_or numbers (place_of ports (queue_of arrival.packet)) no_numbers)

-- the numbers of all queues with a packet that came: those of its queue change, if it goes anywhere
abbrev pub with_arrival : ℕ → ℕ → List ℕ → Arrival → List QueueNumbers → List QueueNumbers
with_arrival ports slot lengths arrival numbers =
    let place = place_of ports (queue_of arrival.packet) in
    if is_routed arrival.packet then
    slice_set numbers place (with_packet slot (size_of arrival.packet) arrival.admitted (slice_index lengths place) (slice_index_or numbers place no_numbers))
    else numbers

-- and with the packet that came, if one did
abbrev pub with_arrivals : ℕ → ℕ → List ℕ → Option Arrival → List QueueNumbers → List QueueNumbers
with_arrivals ports slot lengths None numbers = numbers
with_arrivals ports slot lengths (Some arrival) numbers = with_arrival ports slot lengths arrival numbers
