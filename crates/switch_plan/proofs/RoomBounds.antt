-- What comes to an output is within what the cells of all packets allow.
use Rattle.std.proofs.Common.{◌≡◌, ◌≢◌, ◌∙◌, ℕ, zero, suc, ◌*◌, ◌/◌, ◌≤◌, ◌==◌, ◌&&◌, max, Bool, true, false, List, [], ◌∷◌, length, slice_index_or}
use Rattle.std.proofs.Common.{refl, ap, sym, subst, arith}
use Rattle.std.specs.Prelude.{map, fold, sum_by, count_by, count_ones, if◌then◌else◌, All}
use Rattle.std.specs.Int.{bit_at}
use Rattle.std.specs.List.{range_with_len}
use Rattle.std.proofs.Math.Nat.{mul-le-mul_left}
use Rattle.std.proofs.lemmas.Bool.{eqb-true}
use Rattle.std.proofs.lemmas.Nat.Bits.{bit_at-zero, bit_at-suc, bit_at_lowest}
use Rattle.std.proofs.lemmas.List.Elements.{All-nil, All-append, All-map, All-head, All-tail}
use Rattle.std.proofs.lemmas.List.Sums.{sum_by-le-sum_by}
use lib.Count.{ones_step}
use Rattle.std.specs.Cmp.{first_so}
use Rattle.std_lemmas.proofs.Bools.{if_within}
use Rattle.std_lemmas.proofs.Sums.{sum_by-times}
use Rattle.cell_cutter.specs.Messages.{cells_of_packet}
use Rattle.card_core.specs.declared.plan.Planned.{Planned}
use Rattle.switch_plan.specs.Totals.{most_for, goes_to, message_length, flow_of, bytes_to, work_of, total_work, greatest_message, sizes_for}
use Rattle.switch_plan.specs.Totals.{body_room_for, packet_room_for}
use Rattle.switch_plan.specs.CountingSteps.{IsForwardable, AreCountable}

-- ---- a packet
-- a number with a bit that is set has one at least
ones_some : (i n : ℕ) → bit_at n i ≡ 1 → 1 ≤ count_ones n
ones_some zero n set = omega (arith, ones_step n, bit_at_lowest n)
ones_some (suc i) n set =
    let half = ones_some i (n / 2) (sym (bit_at-suc n i) ∙ set) in omega (arith, half, ones_step n)

-- a packet brings each of its cells to an output that it goes to
work_some : (output : ℕ) (p : Planned) → goes_to output p ≡ true → cells_of_packet p.len ≤ work_of p
work_some output p goes =
    let ones = ones_some output p.fan (eqb-true (bit_at p.fan output) 1 goes) in
    let more = mul-le-mul_left (cells_of_packet p.len) ones in
    omega (arith, more)

-- the cells hold its message
bytes_within : (output : ℕ) (p : Planned) → bytes_to output p ≤ 56 * work_of p
bytes_within output p =
    if_within (goes_to output p) (message_length p) (56 * work_of p) (λ goes. let some = work_some output p goes in omega (arith, some))

message_within : (output : ℕ) (p : Planned) → (if goes_to output p then 1 else 0) ≤ work_of p
message_within output p =
    if_within (goes_to output p) 1 (work_of p) (λ goes. let some = work_some output p goes in omega (arith, some))

-- ---- sums

port_bytes_within : (output : ℕ) (packets : List Planned) → sum_by (bytes_to output) packets ≤ 56 * sum_by work_of packets
port_bytes_within output packets =
    subst (λ n. sum_by (bytes_to output) packets ≤ n) (sum_by-times 56 work_of packets)
    (sum_by-le-sum_by (bytes_to output) (λ p. 56 * work_of p) packets (bytes_within output))

-- the bytes of all messages to an output are within the payloads of all cells
pub body_within : (output : ℕ) (packets : List (List Planned)) → body_room_for output packets ≤ 56 * total_work packets
body_within output packets =
    subst (λ n. body_room_for output packets ≤ n) (sum_by-times 56 (sum_by work_of) packets)
    (sum_by-le-sum_by (sum_by (bytes_to output)) (λ ps. 56 * sum_by work_of ps) packets (port_bytes_within output))

-- and no more messages than cells come to it
pub messages_within : (output : ℕ) (packets : List (List Planned)) → packet_room_for output packets ≤ total_work packets
messages_within output packets =
    sum_by-le-sum_by (count_by (goes_to output)) (sum_by work_of) packets
    (λ ps. sum_by-le-sum_by (λ p. if goes_to output p then 1 else 0) work_of ps (message_within output))

pub most_few : (ports : ℕ) → most_for ports ≤ 131072
most_few ports = grind arith

pub body_room_few : (output ports : ℕ) (packets : List (List Planned)) → total_work packets ≤ most_for ports → body_room_for output packets ≤ 7340032
body_room_few output ports packets work =
    let few = most_few ports in let within = body_within output packets in omega arith

pub packet_room_few : (output ports : ℕ) (packets : List (List Planned)) → total_work packets ≤ most_for ports → packet_room_for output packets ≤ 131072
packet_room_few output ports packets work =
    let few = most_few ports in let within = messages_within output packets in omega arith

-- ---- sizes

pick_within : (b : Bool) (x y most : ℕ) → (b ≡ true → x ≤ most) → y ≤ most → (if b then x else y) ≤ most
pick_within true x y most one other = one refl
pick_within false x y most one other = other

-- a packet that goes to some output goes anywhere
pub goes_some : (output : ℕ) (p : Planned) → goes_to output p ≡ true → p.fan ≢ 0
goes_some output p goes none =
    let set = eqb-true (bit_at p.fan output) 1 goes in
    let clear : bit_at p.fan output ≡ 0 = ap (λ fan. bit_at fan output) none ∙ bit_at-zero output in
    absurd (omega arith)

size_step : (output flow most : ℕ) (p : Planned) → IsForwardable p → most ≤ 65551
    → (if goes_to output p && (flow_of p == flow) then max most (message_length p) else most) ≤ 65551
size_step output flow most p may few =
    pick_within (goes_to output p && (flow_of p == flow)) (max most (message_length p)) most 65551
    (λ both. let short = may (goes_some output p (first_so (goes_to output p) (flow_of p == flow) both)) in omega arith) few

size_few : (output flow most : ℕ) (packets : List Planned) → All IsForwardable packets → most ≤ 65551
    → fold (λ most packet. if goes_to output packet && (flow_of packet == flow) then max most (message_length packet) else most) most packets ≤ 65551
size_few output flow most [] all few = few
size_few output flow most (p ∷ packets) all few =
    size_few output flow (if goes_to output p && (flow_of p == flow) then max most (message_length p) else most) packets
    (All-tail IsForwardable p packets all) (size_step output flow most p (All-head IsForwardable p packets all) few)

-- no message to an output is longer than one of a packet that is forwarded
pub sizes_few : (output : ℕ) (packets : List (List Planned)) → All AreCountable packets → All (λ size. size ≤ 65551) (sizes_for output packets)
sizes_few output [] all = All-nil (λ size. size ≤ 65551)
sizes_few output (ps ∷ packets) all =
    All-append (λ size. size ≤ 65551) (map (λ flow. greatest_message output flow ps) (range_with_len 0 8)) (sizes_for output packets)
    (All-map (λ size. size ≤ 65551) (λ flow. greatest_message output flow ps) (range_with_len 0 8)
    (λ k d inside. size_few output (slice_index_or (range_with_len 0 8) k d) 0 ps (All-head AreCountable ps packets all).forwarded (omega arith)))
    (sizes_few output packets (All-tail AreCountable ps packets all))

-- eight flows of each input
pub sizes_long : (output : ℕ) (packets : List (List Planned)) → length (sizes_for output packets) ≡ 8 * length packets
sizes_long output [] = refl
sizes_long output (ps ∷ packets) = let more = sizes_long output packets in omega arith
