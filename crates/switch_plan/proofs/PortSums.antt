-- What planned ports bring, summed over all of them, is what their packets bring.
use Rattle.std.proofs.Common.{◌≡◌, ◌∙◌, ℕ, ◌*◌, ◌<◌, ◌≤◌, ◌==◌, Bool, List, [], ◌∷◌, ◌++◌, ◌+◌, length, take, refl}
use Rattle.std.proofs.Common.{slice_set, ap, sym, subst, arith}
use Rattle.std.specs.Prelude.{map, flat_map, sum_by, count_by, All}
use Rattle.std.proofs.lemmas.List.{length-map, take_more_set}
use Rattle.std.proofs.lemmas.List.Elements.{All-head, All-tail}
use Rattle.std.proofs.lemmas.List.Folds.{fold-map}
use Rattle.std.proofs.lemmas.List.Sums.{sum_by-cons, sum_by-le-sum_by, count_by-le-length}
use Rattle.card_core.specs.declared.plan.Planned.{Planned}
use Rattle.switch_plan.specs.declared.limits.Limits.{Limits}
use Rattle.switch_plan.specs.declared.port_rooms.Brought.{Brought}
use Rattle.switch_plan.specs.declared.port_plans.PortPlan.{PortPlan}
use Rattle.switch_plan.specs.Totals.{work_of, total_work, total_aside, goes_to, bytes_to, sizes_for, body_room_for, packet_room_for}
use Rattle.switch_plan.specs.Refusals.{over_limits}
use Rattle.switch_plan.specs.CountingSteps.{AreCountable}
use Rattle.switch_plan.specs.OutputSteps.{room_at}
use Rattle.switch_plan.specs.PortSteps.{is_long, IsBroughtBy, IsPlanned, AreBroughtBy, AreSummable}
use Rattle.switch_plan.specs.JobSteps.{packets_of_ports, over_ports}
use Rattle.switch_plan.proofs.Flows.{greatest_of}
use Rattle.switch_plan.proofs.RoomBounds.{body_within, messages_within}
use Rattle.switch_plan.proofs.OnePass.{room_sizes, room_bytes_are, room_messages_are}

pub ports_long : (ports : List PortPlan) → length (packets_of_ports ports) ≡ length ports
ports_long ports = length-map ports (λ (port : PortPlan). port.packets.items)

-- no more packets are counted than there are
pub counted_within : (counts : Planned → Bool) (ports : List (List Planned)) → sum_by (count_by counts) ports ≤ sum_by length ports
counted_within counts ports = sum_by-le-sum_by (count_by counts) length ports (λ packets. count_by-le-length counts packets)

-- the packets of all ports, counted port by port
pub packets_are : (ports : List PortPlan) → sum_by length (packets_of_ports ports) ≡ sum_by (λ port. length port.packets.items) ports
packets_are ports = fold-map (λ so_far (packets : List Planned). so_far + length packets) (λ (port : PortPlan). port.packets.items) 0 ports

-- ---- the sums
-- a number of what each port brings that is one of its packets, over all
sums_are : (G : Brought → ℕ) (F : List Planned → ℕ) → ((packets : List Planned) (port : Brought) → IsBroughtBy packets port → G port ≡ F packets)
    → (ports : List (List Planned)) (brought : List Brought) → AreBroughtBy ports brought → sum_by G brought ≡ sum_by F ports
sums_are G F same [] [] are = refl
sums_are G F same [] (port ∷ brought) are = absurd are
sums_are G F same (packets ∷ ports) [] are = absurd are
sums_are G F same (packets ∷ ports) (port ∷ brought) are =
    let here = same packets port are.0.1 in
    let rest = sums_are G F same ports brought are.1 in
    omega (arith, here, rest, sum_by-cons G port brought, sum_by-cons F packets ports)

pub work_is : (ports : List (List Planned)) (brought : List Brought) → AreBroughtBy ports brought → sum_by (λ port. port.work) brought ≡ total_work ports
work_is = sums_are (λ port. port.work) (sum_by work_of) (λ packets port is. is.work)

pub aside_is : (ports : List (List Planned)) (brought : List Brought) → AreBroughtBy ports brought → sum_by (λ port. port.aside) brought ≡ total_aside ports
aside_is = sums_are (λ port. port.aside) (count_by (λ packet. packet.fan == 0)) (λ packets port is. is.aside)

pub oversize_is : (ports : List (List Planned)) (brought : List Brought) → AreBroughtBy ports brought
    → sum_by (λ port. port.oversize) brought ≡ sum_by (count_by is_long) ports
oversize_is = sums_are (λ port. port.oversize) (count_by is_long) (λ packets port is. is.oversize)

module _ (output : ℕ) (below : output < 64) where
  pub bytes_are : (ports : List (List Planned)) (brought : List Brought) → AreBroughtBy ports brought
      → sum_by (λ port. (room_at port.rooms output).bytes) brought ≡ body_room_for output ports
  bytes_are = sums_are (λ port. (room_at port.rooms output).bytes) (sum_by (bytes_to output))
      (λ packets port is. ap (λ room. room.bytes) (is.rooms output below) ∙ room_bytes_are output packets)

  pub messages_are : (ports : List (List Planned)) (brought : List Brought) → AreBroughtBy ports brought
      → sum_by (λ port. (room_at port.rooms output).messages) brought ≡ packet_room_for output ports
  messages_are = sums_are (λ port. (room_at port.rooms output).messages) (count_by (goes_to output))
      (λ packets port is. ap (λ room. room.messages) (is.rooms output below) ∙ room_messages_are output packets)

  pub sizes_are : (ports : List (List Planned)) (brought : List Brought) → AreBroughtBy ports brought
      → flat_map (λ port. (room_at port.rooms output).sizes) brought ≡ sizes_for output ports
  sizes_are [] [] are = refl
  sizes_are [] (port ∷ brought) are = absurd are
  sizes_are (packets ∷ ports) [] are = absurd are
  sizes_are (packets ∷ ports) (port ∷ brought) are =
      ap (λ sizes. sizes ++ flat_map (λ (other : Brought). (room_at other.rooms output).sizes) brought)
      (ap (λ room. room.sizes) (are.0.1.rooms output below) ∙ room_sizes output packets)
      ∙ ap (λ sizes. greatest_of output packets ++ sizes) (sizes_are ports brought are.1)

-- the first limit that ports pass, by these sums
pub over_is : (limits : Limits) (ports : List PortPlan) (brought : List Brought) (packets cells : ℕ) → AreBroughtBy (packets_of_ports ports) brought
    → packets ≡ sum_by (λ (port : PortPlan). length port.packets.items) ports → cells ≡ sum_by (λ (port : Brought). port.work) brought
    → over_limits limits (map (λ (port : PortPlan). port.slots) ports) packets cells ≡ over_ports limits ports
over_is limits ports brought packets cells are packets_is cells_is =
    let slots = map (λ (port : PortPlan). port.slots) ports in
    ap (λ n. over_limits limits slots n cells) (packets_is ∙ sym (packets_are ports))
    ∙ ap (λ n. over_limits limits slots (sum_by length (packets_of_ports ports)) n) (cells_is ∙ work_is (packets_of_ports ports) brought are)

-- ---- that they fit
packets_few : (ports : List (List Planned)) (brought : List Brought) → AreBroughtBy ports brought
    → (sum_by length ports ≤ length ports * 268435456) × (total_work ports ≤ length ports * 20117626814464)
packets_few [] [] are = (omega arith, omega arith)
packets_few [] (port ∷ brought) are = absurd are
packets_few (packets ∷ ports) [] are = absurd are
packets_few (packets ∷ ports) (port ∷ brought) are =
    let rest = packets_few ports brought are.1 in
    let so_many = rest.0 in
    let so_much = rest.1 in
    let few = are.0.0.few in
    let light = are.0.1.light in
    let work = are.0.1.work in
    (omega (arith, sum_by-cons length packets ports), omega (arith, sum_by-cons (sum_by work_of) packets ports))

pub packets_fit : (ports : List (List Planned)) (brought : List Brought) → length ports ≤ 64 → AreBroughtBy ports brought
    → sum_by length ports < 18446744073709551616
packets_fit ports brought few are = let most = (packets_few ports brought are).0 in omega (arith, few, most)

pub summable : (ports : List (List Planned)) (brought : List Brought) → length ports ≤ 64 → AreBroughtBy ports brought → AreSummable brought
summable ports brought few are =
    let both = packets_few ports brought are in
    let many = both.0 in
    let much = both.1 in
    record {
      work = omega (arith, work_is ports brought are);
      aside = omega (arith, aside_is ports brought are, counted_within (λ (packet : Planned). packet.fan == 0) ports);
      oversize = omega (arith, oversize_is ports brought are, counted_within is_long ports);
      bytes = λ output below. omega (arith, bytes_are output below ports brought are, body_within output ports);
      messages = λ output below. omega (arith, messages_are output below ports brought are, messages_within output ports);
    }

pub ports_summable : (ports : List PortPlan) (brought : List Brought) → length ports ≤ 64 → AreBroughtBy (packets_of_ports ports) brought
    → AreSummable brought
ports_summable ports brought few are = summable (packets_of_ports ports) brought (omega (arith, few, ports_long ports)) are

-- what planned ports bring is what their packets bring
planned_bring : (ports : List PortPlan) → All IsPlanned ports → AreBroughtBy (packets_of_ports ports) (map (λ (port : PortPlan). port.brought) ports)
planned_bring [] all = tt
planned_bring (port ∷ ports) all =
    let own = All-head IsPlanned port ports all in
    ((own.countable, own.brought), planned_bring ports (All-tail IsPlanned port ports all))

pub ports_bring : (ports these : List PortPlan) (brought : List Brought) → All IsPlanned ports → these ≡ ports
    → brought ≡ map (λ (port : PortPlan). port.brought) ports → AreBroughtBy (packets_of_ports these) brought
ports_bring ports these brought planned same is =
    subst (λ (them : List PortPlan). AreBroughtBy (packets_of_ports them) brought) (sym same)
    (subst (AreBroughtBy (packets_of_ports ports)) (sym is) (planned_bring ports planned))

-- what one port more brings
brought_push : (ports : List (List Planned)) (brought : List Brought) (packets : List Planned) (port : Brought) → AreBroughtBy ports brought
    → AreCountable packets × IsBroughtBy packets port → AreBroughtBy (ports ++ packets ∷ []) (brought ++ port ∷ [])
brought_push [] [] packets port are more = (more, tt)
brought_push [] (b ∷ brought) packets port are more = absurd are
brought_push (p ∷ ports) [] packets port are more = absurd are
brought_push (p ∷ ports) (b ∷ brought) packets port are more = (are.0, brought_push ports brought packets port are.1 more)

pub brought_more : (ports : List (List Planned)) (brought : List Brought) (k : ℕ) (packets : List Planned) (port : Brought)
    → take (k + 1) ports ≡ take k ports ++ packets ∷ [] → k < length brought → AreBroughtBy (take k ports) (take k brought)
    → AreCountable packets × IsBroughtBy packets port → AreBroughtBy (take (k + 1) ports) (take (k + 1) (slice_set brought k port))
brought_more ports brought k packets port next room before more =
    rw (next, take_more_set brought k port room) (brought_push (take k ports) (take k brought) packets port before more)
