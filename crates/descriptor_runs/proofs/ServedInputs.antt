-- An input of a run by descriptors: what a packet that arrives makes of it, and what a part that it is served.
use Rattle.std.proofs.Common.{◌≡◌, ◌≢◌, ◌∙◌, ℕ, ◌+◌, ◌<◌, ◌≤◌, ◌||◌, not, nat_lt, Bool, true, false, List, [], ◌∷◌, ◌++◌, length, Option, Some, None}
use Rattle.std.proofs.Common.{slice_get, slice_index_or, get_or, refl, sym, ap, subst, arith}
use Rattle.std.specs.Option.{option_map}
use Rattle.std.proofs.lemmas.Bool.{eq-eqb, ne_eqb}
use Rattle.std.proofs.lemmas.Option.{same_Some, slice_get-get_or, slice_get_within}
use Rattle.rotating_pick.specs.declared.kinds.Kind.{Kind}
use Rattle.rotating_pick.specs.declared.kinds.Kind.TheVariants.{Uni, Multi}
use Rattle.cell_cutter.specs.declared.cell.CellName.{CellName}
use Rattle.slot_match.specs.declared.matching.Served.{Served}
use Rattle.slot_match.specs.declared.rows.Row.{Row}
use Rattle.slot_match.specs.Rows.{empty_row}
use Rattle.voq_banks.specs.Queues.{Queues as UniQueues, queue_at as uni_at, empty_queues as empty_unis}
use Rattle.multicast_queue.specs.FanQueues.{Queues as FanQueues, first_name, empty_queues as empty_fans}
use Rattle.slot_histories.specs.Parts.{IsPartOf}
use Rattle.slot_histories.specs.Tests.{is_empty}
use Rattle.card_core.specs.declared.plan.Planned.{Planned}
use Rattle.card_core.specs.InputQueues.{InputQueues, QueueRooms}
use Rattle.card_core.specs.Plans.{Plan, OfOutput, IsGoodPlan, last_port, cell_named, no_packet, size_of}
use Rattle.card_core.specs.Queues.{waiting, queue_in, counted}
use Rattle.card_core.specs.Posts.{row_at, granted_at, granted_by, more_at, queue_by, queue_served}
use Rattle.card_core.specs.States.{State, HasSent, AreQueues, IsNext, slots_in, state_of}
use Rattle.card_core.specs.StateSteps.{next_in, arriving_if, MayEnter, Enters, Arrives, MayLeave, Leaves, HasRooms}
use Rattle.card_core.proofs.Accepting.{packet-at, head-of}
use Rattle.card_core.proofs.After.{may_leave, take_none, take_some, last-power, Named, named-of}
use Rattle.card_core.proofs.Beginning.{begins}
use Rattle.card_core.proofs.Carding.{names-cons, first-cons}
use Rattle.card_core.proofs.NextPackets.{more_is as more_comes}
use Rattle.card_core.proofs.Passing.{kept-in}
use Rattle.card_core.proofs.Plenty.{few_came}
use Rattle.card_core.proofs.Posted.{may_arrive, posted_is, row-is, count-few}
use Rattle.card_core.proofs.Sets.{counted-routed}
use Rattle.descriptor_runs.specs.InputSteps.{InputValue, HasServed, next_slot, row_in}

-- ---- an input and a card
-- an input of these fields
abbrev pub input_with : Plan → ℕ → ℕ → ℕ → UniQueues → FanQueues → InputValue
input_with plan next admitted dropped banks fans =
    record { plan = plan; next = next; admitted = admitted; dropped = dropped; banks = banks; fans = fans }

-- the card whose input it is, when it has been served these parts
abbrev pub card_with : InputValue → List (Option Served) → Bool → State
card_with input served arrived =
    state_of input.plan input.next (length served) arrived (granted_at input.plan served (length served)) (row_at input.plan served (length served))
    input.admitted input.dropped input.banks input.fans

-- the input of a card
abbrev pub input_of : State → InputValue
input_of card = input_with card.plan card.next card.admitted card.dropped card.banks card.fans

-- it has been served what the card has sent
pub served_as : (card : State) (served : List (Option Served)) (arrived : Bool) → HasSent card served arrived → HasServed (input_of card) served arrived
served_as card served true was = record {
  plan = was.plan;
  slot = refl;
  phase = refl;
  granted = refl;
  row = refl;
  next = was.next;
  admitted = was.admitted;
  dropped = was.dropped;
  queues = was.queues;
}
served_as card served false was = record {
  plan = was.plan;
  slot = refl;
  phase = refl;
  granted = refl;
  row = tt;
  next = was.next;
  admitted = was.admitted;
  dropped = was.dropped;
  queues = was.queues;
}

-- before slot 0
pub made : (plan : Plan) (rooms : QueueRooms) (queues : InputQueues) → IsGoodPlan plan → rooms.ports ≡ plan.ports
    → HasRooms plan.ports plan.packets rooms.unicast rooms.multicast → queues.unicast ≡ empty_unis rooms.ports plan.depth rooms.unicast
    → queues.multicast ≡ empty_fans rooms.ports plan.depth rooms.multicast
    → HasServed (input_with plan 0 0 0 queues.unicast queues.multicast) [] false
made plan rooms queues good ports has unicast_is multicast_is =
    let sent = begins plan empty_row rooms.unicast rooms.multicast good (λ j l inside below. let e = has.unis j l inside below in omega arith)
    (λ l below. let e = has.fans l below in omega arith) in
    subst (λ b. HasServed (input_with plan 0 0 0 b queues.multicast) [] false)
    (sym (unicast_is ∙ ap (λ n. empty_unis n plan.depth rooms.unicast) ports))
    (subst (λ f. HasServed (input_with plan 0 0 0 (empty_unis plan.ports plan.depth rooms.unicast) f) [] false)
    (sym (multicast_is ∙ ap (λ n. empty_fans n plan.depth rooms.multicast) ports)) (served_as _ [] false sent))

-- ---- the counts are few
-- no more packets have come than slots, nor than there are
pub few_next : (input : InputValue) (served : List (Option Served)) (arrived : Bool) → HasServed input served arrived
    → (input.next ≤ slots_in arrived (length served)) × (input.next ≤ length input.plan.packets)
few_next input served arrived was =
    (few_came input.plan.packets (slots_in arrived (length served)) input.next was.plan.rising was.next, was.next.within)

-- nor were more admitted or dropped
pub few_counts : (input : InputValue) (served : List (Option Served)) (arrived : Bool) → HasServed input served arrived
    → (input.admitted ≤ slots_in arrived (length served)) × (input.dropped ≤ slots_in arrived (length served))
few_counts input served arrived was =
    let few = λ (wanted : Bool). count-few wanted input.plan served (slots_in arrived (length served)) in
    (omega (arith, was.admitted, few true), omega (arith, was.dropped, few false))

-- ---- whether a packet arrives in a slot
nothing_in : (slot : ℕ) (there : Option Planned) → (option_map (λ (packet : Planned). packet.arrival) there ≡ Some slot → ⊥) → arriving_if slot there ≡ None
nothing_in slot None other = refl
nothing_in slot (Some packet) other = rw (ne_eqb packet.arrival slot (λ same. other (ap Some same))) refl

packet_in : (slot : ℕ) (there : Option Planned) → option_map (λ (packet : Planned). packet.arrival) there ≡ Some slot
    → (packet : Planned) × (there ≡ Some packet) × (packet.arrival ≡ slot)
packet_in slot None is = absurd (cc)
packet_in slot (Some packet) is = (packet, refl, same_Some packet.arrival slot is)

arrives_now : (slot : ℕ) (packet : Planned) → packet.arrival ≡ slot → arriving_if slot (Some packet) ≡ Some packet
arrives_now slot packet now = rw (eq-eqb packet.arrival slot now) refl

-- the packet that is read at the number of the next one is that of the slot
pub next_is : (input : InputValue) (slot : ℕ) (packet : Planned) → packet ≡ get_or input.plan.packets input.next packet → next_slot input ≡ Some slot
    → (slice_get input.plan.packets input.next ≡ Some packet) × (packet.arrival ≡ slot)
next_is input slot packet read is =
    let (found, at, now) = packet_in slot (slice_get input.plan.packets input.next) is in
    let inside = slice_get_within input.plan.packets input.next found at in
    let there : slice_get input.plan.packets input.next ≡ Some packet =
    slice_get-get_or input.plan.packets input.next packet inside ∙ ap (λ (one : Planned). Some one) (sym read) in
    (there, ap (λ (one : Planned). one.arrival) (same_Some packet found (sym there ∙ at)) ∙ now)

-- a packet that goes nowhere is not counted
uncounted : (wanted : Bool) (packet : Planned) (fits : Bool) → packet.fan ≡ 0 → counted wanted packet fits ≡ 0
uncounted wanted packet fits none = rw (eq-eqb packet.fan 0 none) refl

-- ---- the packet of a slot
module _ (input : InputValue) (served : List (Option Served)) (was : HasServed input served false) where
  -- what a packet that arrives, or none, makes of the input: of so many packets, so many admitted and so many dropped
  came : (arrived : Option Planned) (packets taken lost : ℕ) (banks : UniQueues) (fans : FanQueues)
      → arrived ≡ next_in input.plan.packets input.next (length served)
      → Arrives input.next arrived (record { packets = packets; admitted = taken; dropped = lost }) input.banks input.fans banks fans
      → (next admitted dropped : ℕ) → next ≡ input.next + packets → admitted ≡ input.admitted + taken → dropped ≡ input.dropped + lost
      → HasServed (input_with input.plan next admitted dropped banks fans) served true
  came arrived packets taken lost banks fans is arrives next admitted dropped next_is admitted_is dropped_is =
      let sent = posted_is (card_with input served false) served was arrived (record { packets = packets; admitted = taken; dropped = lost }) banks fans is
      arrives in
      record {
        plan = sent.plan;
        slot = refl;
        phase = refl;
        granted = refl;
        row = refl;
        next = subst (IsNext input.plan.packets (length served + 1)) (sym next_is) sent.next;
        admitted = admitted_is ∙ sent.admitted;
        dropped = dropped_is ∙ sent.dropped;
        queues = subst (λ n. AreQueues input.plan (λ q. queue_in input.plan q served (length served)) n banks fans) (sym next_is) sent.queues;
      }

  -- where none arrives, nothing changes
  pub none_arrives : (next_slot input ≡ Some (length served) → ⊥) → HasServed input served true
  none_arrives other =
      let none = nothing_in (length served) (slice_get input.plan.packets input.next) other in
      came None 0 0 0 input.banks input.fans (sym none) (refl, refl, refl, refl, refl)
      input.next input.admitted input.dropped (omega arith) (omega arith) (omega arith)

  module _ (packet : Planned) (there : slice_get input.plan.packets input.next ≡ Some packet) (now : packet.arrival ≡ length served) where
    found : Some packet ≡ next_in input.plan.packets input.next (length served)
    found = sym (ap (arriving_if (length served)) there ∙ arrives_now (length served) packet now)

    -- the next packet may enter its queue
    pub may_come : packet.fan ≢ 0 → MayEnter input.banks input.fans packet.fan packet.level (size_of packet)
    may_come some = may_arrive (card_with input served false) served was (Some packet) found some

    -- where it fits, it is admitted
    pub admits : (banks : UniQueues) (fans : FanQueues) → packet.fan ≢ 0
        → Enters input.next packet.fan packet.level (size_of packet) true input.banks input.fans banks fans
        → HasServed (input_with input.plan (input.next + 1) (input.admitted + 1) input.dropped banks fans) served true
    admits banks fans some enters =
        let one : 1 ≡ counted true packet true = counted-routed true packet true some in
        let none : 0 ≡ counted false packet true = counted-routed false packet true some in
        came (Some packet) 1 (counted true packet true) (counted false packet true) banks fans found
        (true, enters, refl, refl, refl) (input.next + 1) (input.admitted + 1) input.dropped refl
        (ap (λ n. input.admitted + n) one) (omega (arith, none))

    -- where it does not, it is dropped
    pub drops : (banks : UniQueues) (fans : FanQueues) → packet.fan ≢ 0
        → Enters input.next packet.fan packet.level (size_of packet) false input.banks input.fans banks fans
        → HasServed (input_with input.plan (input.next + 1) input.admitted (input.dropped + 1) banks fans) served true
    drops banks fans some enters =
        let none : 0 ≡ counted true packet false = counted-routed true packet false some in
        let one : 1 ≡ counted false packet false = counted-routed false packet false some in
        came (Some packet) 1 (counted true packet false) (counted false packet false) banks fans found
        (false, enters, refl, refl, refl) (input.next + 1) input.admitted (input.dropped + 1) refl
        (omega (arith, none)) (ap (λ n. input.dropped + n) one)

    -- and where it goes nowhere, it is only passed over
    pub passes : packet.fan ≡ 0 → HasServed (input_with input.plan (input.next + 1) input.admitted input.dropped input.banks input.fans) served true
    passes nowhere =
        let enters : Enters input.next packet.fan packet.level (size_of packet) false input.banks input.fans input.banks input.fans = record {
          nowhere = λ _. (refl, refl);
          unicast = λ some j is. absurd (some nowhere);
          multicast = λ some several. absurd (some nowhere);
        } in
        let none : counted true packet false ≡ 0 = uncounted true packet false nowhere in
        let none' : counted false packet false ≡ 0 = uncounted false packet false nowhere in
        came (Some packet) 1 (counted true packet false) (counted false packet false) input.banks input.fans found
        (false, enters, refl, refl, refl) (input.next + 1) input.admitted input.dropped refl (omega (arith, none)) (omega (arith, none'))

-- ---- an input in a slot
-- nothing is served
pub serves_none : (input : InputValue) (served : List (Option Served)) → HasServed input served true → HasServed input (served ++ None ∷ []) false
serves_none input served was = served_as _ (served ++ None ∷ []) false (take_none (card_with input served true) served was)

-- its row is that of the slot
pub row_is : (input : InputValue) (served : List (Option Served)) → HasServed input served true → row_in input ≡ row_at input.plan served (length served)
row_is input served was = row-is input.plan served (length served) input.next input.banks input.fans was.queues

-- and more is to come where a packet is next, or its row names an output
pub more_is : (input : InputValue) (served : List (Option Served)) → HasServed input served true
    → (nat_lt input.next (length input.plan.packets) || not (is_empty (row_in input))) ≡ more_at input.plan (length served) (row_in input)
more_is input served was =
    ap (λ b. b || not (is_empty (row_in input))) (more_comes input.plan.packets (length served) input.next was.next)

-- what is known of the name of the cell that a part grants: its packet, which goes somewhere, its place in it, and the cell
pub record IsGranted (plan : Plan) (served : List (Option Served)) (part : Served) (name : CellName) : Type 0 where
  pub named : Named plan part name
  pub routed : (slice_index_or plan.packets name.packet no_packet).fan ≢ 0
  pub cell : granted_by plan served (length served) (Some part) ≡ Some (cell_named plan name)

module _ (input : InputValue) (served : List (Option Served)) (was : HasServed input served true) where
  part_at : (part : Served) → IsPartOf (row_in input) part → IsPartOf (row_at input.plan served (length served)) part
  part_at part may = subst (λ (row : Row). IsPartOf row part) (row_is input served was) may

  -- a part of the row may leave
  pub may_leave_in : (part : Served) → IsPartOf (row_in input) part → MayLeave part.kind input.banks input.fans part
  may_leave_in part may = may_leave (card_with input served true) served was part (part_at part may)

  -- it has been served then
  pub left_in : (part : Served) (name : CellName) (banks : UniQueues) (fans : FanQueues) → IsPartOf (row_in input) part
      → Leaves part.kind part name input.banks input.fans banks fans
      → HasServed (input_with input.plan input.next input.admitted input.dropped banks fans) (served ++ Some part ∷ []) false
  left_in part name banks fans may left =
      served_as _ (served ++ Some part ∷ []) false (take_some (card_with input served true) served was part name banks fans (part_at part may) left)

  -- and the name is that of the first cell of the queue
  first_of : (part : Served) (kind : Kind) (name : CellName) (banks : UniQueues) (fans : FanQueues) → MayLeave kind input.banks input.fans part
      → Leaves kind part name input.banks input.fans banks fans
      → Some name ≡ first_name (waiting (queue_in input.plan (queue_by kind part) served (length served)))
  first_of part Uni name banks fans may left =
      let (j, outputs, inside, below, waits) = may in
      let j_in : j < input.plan.ports = omega (arith, was.queues.ports, inside) in
      let leaves = left.0 j outputs in
      let (c, v, w, named, rest) = names-cons (waiting (queue_in input.plan (OfOutput j part.level) served (length served))) name
      (uni_at banks j part.level) (sym (was.queues.unis j part.level j_in below) ∙ leaves.queue) in
      let port : last_port 64 part.outputs ≡ j = ap (last_port 64) outputs ∙ last-power j (omega (arith, j_in, was.plan.size)) in
      sym (ap (λ i. first_name (waiting (queue_in input.plan (OfOutput i part.level) served (length served)))) port ∙ ap first_name w
      ∙ ap (λ (n : CellName). Some n) named)
  first_of part Multi name banks fans may left =
      let (some, below, outputs, within) = may in
      left.0.head ∙ ap first_name (was.queues.multis part.level below)

  pub first_leaves : (part : Served) (name : CellName) (banks : UniQueues) (fans : FanQueues) → IsPartOf (row_in input) part
      → Leaves part.kind part name input.banks input.fans banks fans
      → Some name ≡ first_name (waiting (queue_in input.plan (queue_served part) served (length served)))
  first_leaves part name banks fans may left = first_of part part.kind name banks fans (may_leave_in part may) left

  -- the name of the first cell of the queue that a part serves
  pub name_there : (part : Served) → IsPartOf (row_in input) part → (name : CellName)
      → Some name ≡ first_name (waiting (queue_in input.plan (queue_served part) served (length served))) → IsGranted input.plan served part name
  name_there part may name first =
      let q = queue_served part in
      let s = queue_in input.plan q served (length served) in
      let (c, v, w, named) = first-cons (waiting s) name first in
      let of = (head-of input.plan was.plan q s c v (kept-in input.plan was.plan q served (length served)) w).0 in
      let there : slice_get input.plan.packets name.packet ≡ Some of.packet =
      sym (ap (λ (n : CellName). slice_get input.plan.packets n.packet) named) ∙ of.there in
      let same = packet-at input.plan was.plan [] input.plan.packets name.packet of.packet there in
      record {
        named = named-of input.plan was.plan part name c of named;
        routed = subst (λ (packet : Planned). packet.fan ≢ 0) (sym same) of.routed;
        cell = sym (ap (option_map (cell_named input.plan)) first);
      }
