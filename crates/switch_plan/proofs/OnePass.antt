-- What one pass over the packets of a port finds for each output.
use Rattle.std.proofs.Common.{◌≡◌, ◌∙◌, ℕ, ◌+◌, ◌*◌, ◌<◌, ◌≤◌, ◌==◌, ◌&&◌, max, true, false, List, [], ◌∷◌, length, take, replicate, slice_index}
use Rattle.std.proofs.Common.{slice_set, refl, ap, sym, arith, inl, inr, get_or-set_same, get_or-set_other, length-set}
use Rattle.std.specs.Prelude.{fold, sum_by, count_by, if◌then◌else◌, All}
use Rattle.std.specs.Int.{bit_at}
use Rattle.std.proofs.lemmas.Bool.{cases_Bool, cases_eq, eq-eqb, ne_eqb}
use Rattle.std.proofs.lemmas.List.{get_or-replicate, length-take}
use Rattle.std.proofs.lemmas.List.FromFn.{fill_by_all}
use Rattle.std.proofs.lemmas.List.Elements.{All-head, All-tail, All-take}
use Rattle.rotating_pick.specs.PortSets.{Has}
use Rattle.card_core.specs.declared.plan.Planned.{Planned}
use Rattle.switch_plan.specs.declared.port_rooms.PortRoom.{PortRoom}
use Rattle.switch_plan.specs.Totals.{goes_to, flow_of, message_length, greatest_message, bytes_to}
use Rattle.switch_plan.specs.CountingSteps.{IsForwardable, AreCountable}
use Rattle.switch_plan.specs.OutputSteps.{no_room, beyond, room_at, with_message, with_packet, room_for, AreFew}
use Rattle.switch_plan.proofs.Flows.{greatest_of}
use Rattle.switch_plan.proofs.RoomBounds.{goes_some}

-- ---- one packet
-- the greatest message of a flow, with a message more
size_more : (sizes : List ℕ) (own flow long : ℕ) → flow < length sizes
    → slice_index (slice_set sizes own (max (slice_index sizes own) long)) flow ≡
    (if own == flow then max (slice_index sizes flow) long else slice_index sizes flow)
size_more sizes own flow long inside = elim (cases_eq flow own) [
  | inl same ↦
      let there : own < length sizes = omega arith in
      let test = eq-eqb own flow (sym same) in
      rw test
      (ap (slice_index (slice_set sizes own (max (slice_index sizes own) long))) same ∙ get_or-set_same sizes own (max (slice_index sizes own) long) 0 there
      ∙ ap (λ k. max (slice_index sizes k) long) (sym same))
  | inr other ↦
      let test = ne_eqb own flow (λ e. other (sym e)) in
      rw test (get_or-set_other sizes own flow (max (slice_index sizes own) long) 0 other)
]

-- there are as many flows as before
packet_long : (output : ℕ) (room : PortRoom) (p : Planned) → length (with_packet output room p).sizes ≡ length room.sizes
packet_long output room p = elim (cases_Bool (goes_to output p)) [
  | inl goes ↦ rw goes (length-set room.sizes (flow_of p) (max (slice_index room.sizes (flow_of p)) (message_length p)))
  | inr stays ↦ rw stays refl
]

-- the greatest message of a flow, with a packet more
packet_size : (output flow : ℕ) (room : PortRoom) (p : Planned) → flow < length room.sizes
    → slice_index (with_packet output room p).sizes flow ≡
    (if goes_to output p && (flow_of p == flow) then max (slice_index room.sizes flow) (message_length p) else slice_index room.sizes flow)
packet_size output flow room p inside = elim (cases_Bool (goes_to output p)) [
  | inl goes ↦ rw goes (size_more room.sizes (flow_of p) flow (message_length p) inside)
  | inr stays ↦ rw stays refl
]

-- the bytes
packet_bytes : (output : ℕ) (room : PortRoom) (p : Planned) → (with_packet output room p).bytes ≡ room.bytes + bytes_to output p
packet_bytes output room p = elim (cases_Bool (goes_to output p)) [
  | inl goes ↦ rw goes refl
  | inr stays ↦ rw stays (omega arith)
]

-- and the messages
packet_messages : (output : ℕ) (room : PortRoom) (p : Planned) → (with_packet output room p).messages ≡ room.messages + (if goes_to output p then 1 else 0)
packet_messages output room p = elim (cases_Bool (goes_to output p)) [
  | inl goes ↦ rw goes refl
  | inr stays ↦ rw stays (omega arith)
]

-- a packet brings no more than the greatest message
packet_few : (output : ℕ) (p : Planned) → IsForwardable p → bytes_to output p ≤ 65551
packet_few output p may = elim (cases_Bool (goes_to output p)) [
  | inl goes ↦ let short = may (goes_some output p goes) in rw goes (omega arith)
  | inr stays ↦ rw stays (omega arith)
]

message_few : (output : ℕ) (p : Planned) → (if goes_to output p then 1 else 0) ≤ 1
message_few output p = elim (cases_Bool (goes_to output p)) [
  | inl goes ↦ rw goes (omega arith)
  | inr stays ↦ rw stays (omega arith)
]

-- ---- all packets
room_long : (output : ℕ) (room : PortRoom) (ps : List Planned) → length (fold (with_packet output) room ps).sizes ≡ length room.sizes
room_long output room [] = refl
room_long output room (p ∷ ps) = room_long output (with_packet output room p) ps ∙ packet_long output room p

room_size : (output flow : ℕ) (room : PortRoom) (ps : List Planned) → flow < length room.sizes
    → slice_index (fold (with_packet output) room ps).sizes flow ≡ fold
    (λ most p. if goes_to output p && (flow_of p == flow) then max most (message_length p) else most) (slice_index room.sizes flow) ps
room_size output flow room [] inside = refl
room_size output flow room (p ∷ ps) inside =
    room_size output flow (with_packet output room p) ps (let same = packet_long output room p in omega arith)
    ∙ ap (λ start. fold (λ most (q : Planned). if goes_to output q && (flow_of q == flow) then max most (message_length q) else most) start ps)
    (packet_size output flow room p inside)

room_bytes : (output : ℕ) (room : PortRoom) (ps : List Planned) → (fold (with_packet output) room ps).bytes ≡ fold (λ a p. a + bytes_to output p) room.bytes ps
room_bytes output room [] = refl
room_bytes output room (p ∷ ps) =
    room_bytes output (with_packet output room p) ps ∙ ap (λ start. fold (λ a (q : Planned). a + bytes_to output q) start ps) (packet_bytes output room p)

room_messages : (output : ℕ) (room : PortRoom) (ps : List Planned)
    → (fold (with_packet output) room ps).messages ≡ fold (λ a p. a + (if goes_to output p then 1 else 0)) room.messages ps
room_messages output room [] = refl
room_messages output room (p ∷ ps) =
    room_messages output (with_packet output room p) ps
    ∙ ap (λ start. fold (λ a (q : Planned). a + (if goes_to output q then 1 else 0)) start ps) (packet_messages output room p)

room_few : (output : ℕ) (room : PortRoom) (ps : List Planned) → All IsForwardable ps
    → ((fold (with_packet output) room ps).bytes ≤ room.bytes + length ps * 65551) × ((fold (with_packet output) room ps).messages ≤ room.messages + length ps)
room_few output room [] all = (omega arith, omega arith)
room_few output room (p ∷ ps) all =
    let rest = room_few output (with_packet output room p) ps (All-tail IsForwardable p ps all) in
    let bytes = packet_bytes output room p in
    let messages = packet_messages output room p in
    let few = packet_few output p (All-head IsForwardable p ps all) in
    let one = message_few output p in
    let a = rest.0 in
    let b = rest.1 in
    (omega arith, omega arith)

-- so the room has the greatest messages, the bytes and the messages of the packets
pub room_sizes : (output : ℕ) (ps : List Planned) → (room_for output ps).sizes ≡ greatest_of output ps
room_sizes output ps =
    fill_by_all (λ flow. greatest_message output flow ps) (room_for output ps).sizes 8 0 (room_long output no_room ps)
    (λ flow inside. room_size output flow no_room ps inside
    ∙ ap (λ start. fold (λ most (p : Planned). if goes_to output p && (flow_of p == flow) then max most (message_length p) else most) start ps)
    (blank flow inside))
  where
    blank : (flow : ℕ) → flow < 8 → slice_index (replicate 8 0) flow ≡ 0
    blank flow inside = get_or-replicate 8 flow 0 0 inside

pub room_bytes_are : (output : ℕ) (ps : List Planned) → (room_for output ps).bytes ≡ sum_by (bytes_to output) ps
room_bytes_are output ps = room_bytes output no_room ps

pub room_messages_are : (output : ℕ) (ps : List Planned) → (room_for output ps).messages ≡ count_by (goes_to output) ps
room_messages_are output ps = room_messages output no_room ps

-- and few of them
pub room_is_few : (output k : ℕ) (ps : List Planned) → AreCountable ps → AreFew (room_for output (take k ps))
room_is_few output k ps all =
    let few = room_few output no_room (take k ps) (All-take IsForwardable k ps all.forwarded) in
    let a = few.0 in
    let b = few.1 in
    let most = all.few in
    let part = length-take k ps in
    record { bytes = omega arith; messages = omega arith }

-- ---- one packet at each of its outputs
pub goes_where : (output : ℕ) (p : Planned) → Has p.fan output → goes_to output p ≡ true
goes_where output p has = eq-eqb (bit_at p.fan output) 1 has

pub stays_where : (output : ℕ) (p : Planned) → (Has p.fan output → ⊥) → goes_to output p ≡ false
stays_where output p lacks = ne_eqb (bit_at p.fan output) 1 lacks

-- nothing changes where the packet does not go
pub packet_aside : (output : ℕ) (room : PortRoom) (p : Planned) → (Has p.fan output → ⊥) → room ≡ with_packet output room p
packet_aside output room p lacks = let stays = stays_where output p lacks in rw stays refl

-- a packet is counted at one output more
pub packet_here : (output : ℕ) (rooms old : List PortRoom) (p : Planned) (room : PortRoom) → output < length rooms → Has p.fan output
    → room_at rooms output ≡ room_at old output
    → room ≡ with_message (flow_of p) (message_length p) (room_at rooms output)
    → room_at (slice_set rooms output room) output ≡ with_packet output (room_at old output) p
packet_here output rooms old p room inside has same is =
    let goes = goes_where output p has in
    get_or-set_same rooms output room beyond inside ∙ is ∙ ap (with_message (flow_of p) (message_length p)) same ∙ rw goes refl

-- and at the others nothing changes
pub packet_else : (output other : ℕ) (rooms : List PortRoom) (room : PortRoom) → (other ≡ output → ⊥)
    → room_at (slice_set rooms output room) other ≡ room_at rooms other
packet_else output other rooms room differ = get_or-set_other rooms output other room beyond differ
