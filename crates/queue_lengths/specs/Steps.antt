-- What a packet that arrives, and a part that is served, make of the lengths of an input's queues.
use Rattle.std.specs.Prelude.{◌≡◌, ◌≢◌, ℕ, ◌+◌, ◌<◌, ◌≤◌, ◌==◌, ◌&&◌, nat_le, Bool, true, if◌then◌else◌, List, length, Option, None, Some, slice_index}
use Rattle.std.specs.Prelude.{slice_set}
use Rattle.rotating_pick.specs.PortSets.{IsAmong}
use Rattle.rotating_pick.specs.declared.kinds.Kind.{Kind}
use Rattle.rotating_pick.specs.declared.kinds.Kind.TheVariants.{Uni, Multi}
use Rattle.rotating_pick.specs.declared.limits.TheConstants.{LEVELS, MAX_PORTS}
use Rattle.cell_cutter.specs.declared.sizes.TheConstants.{MAX_FORWARDED_BYTES}
use Rattle.slot_match.specs.declared.rows.Row.{Row}
use Rattle.slot_match.specs.declared.matching.Served.{Served}
use Rattle.card_core.specs.declared.plan.Planned.{Planned}
use Rattle.card_core.specs.Plans.{queue_of, size_of}
use Rattle.card_core.specs.Queues.{is_routed}
use Rattle.card_core.specs.Posts.{queue_served}
use Rattle.queue_lengths.specs.Lengths.{place_of, count_of}

-- the place of a packet's queue
abbrev pub place_for : ℕ → Planned → ℕ
place_for ports packet = place_of ports (queue_of packet)

-- there is a length for each queue, that of the packet is no greater than the depth, and the packet is one of the switch
pub record MayEnter (ports depth : ℕ) (lengths : List ℕ) (packet : Planned) : Type 0 where
  pub size : ports ≤ MAX_PORTS
  pub count : length lengths ≡ count_of ports
  pub few : slice_index lengths (place_for ports packet) ≤ depth
  pub level : packet.level < LEVELS
  pub fan : IsAmong ports packet.fan
  pub forwarded : packet.fan ≢ 0 → packet.len ≤ MAX_FORWARDED_BYTES

-- whether the packet goes anywhere, and with its cells at most the depth wait in its queue
abbrev pub enters_at : ℕ → ℕ → List ℕ → Planned → Bool
enters_at ports depth lengths packet = is_routed packet && nat_le (slice_index lengths (place_for ports packet) + size_of packet) depth

-- the lengths with the packet's cells in its queue, if it entered
abbrev pub lengths_with : ℕ → List ℕ → Planned → Bool → List ℕ
lengths_with ports lengths packet entered =
    if entered then slice_set lengths (place_for ports packet) (slice_index lengths (place_for ports packet) + size_of packet) else lengths

-- whether the first cell of a part's queue leaves with the part of a row: a multicast one where the part is all that is left of it
abbrev pub is_last : Kind → Row → Served → Bool
is_last Uni row part = true
is_last Multi row part = slice_index row.multi part.level == part.outputs

-- the place of its queue, where it leaves
abbrev pub place_left : ℕ → Row → Served → Option ℕ
place_left ports row part = if is_last part.kind row part then Some (place_of ports (queue_served part)) else None
