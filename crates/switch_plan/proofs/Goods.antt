-- A plan of ports that were planned of captures: that it is good and within its limits, and that it is the plan of the table and the captures.
use Rattle.std.proofs.Common.{◌≡◌, ◌∙◌, ℕ, ◌*◌, ◌<◌, ◌≤◌, Bool, false, List, length, take, drop, Some, ap, sym, subst, arith}
use Rattle.std.specs.Prelude.{map, All, slice_get, sum_by, IfSome}
use Rattle.std.proofs.lemmas.Option.{slice_get_within, get_or_from_slice_get}
use Rattle.std.proofs.lemmas.Simd.{map-map}
use Rattle.std.proofs.lemmas.List.{length-map}
use Rattle.std_lemmas.proofs.Lists.{at_place, got_map}
use Rattle.line_pace.specs.declared.pace.Pace.{Pace}
use Rattle.pcap_records.specs.declared.link.Link.{Link}
use Rattle.pcap_records.specs.declared.capture.Capture.{Capture}
use Rattle.pcap_records.specs.Packets.{Packet, packets_of}
use Rattle.forward_table.specs.declared.route_lines.RouteLine.{RouteLine}
use Rattle.card_core.specs.declared.plan.Planned.{Planned}
use Rattle.card_core.specs.declared.plan.CardPlan.{CardPlan}
use Rattle.card_core.specs.Plans.{Plan as CardView, plan_of as card_plan_of, bytes_of, IsPlanned as IsPlannedFor, AreRising, IsGoodPlan}
use Rattle.switch_words.specs.declared.job.Settings.{Settings}
use Rattle.switch_words.specs.Limits.{IsUpTo, most_depth, AreWithinLimits}
use Rattle.switch_plan.specs.declared.plan.Plan.{Plan}
use Rattle.switch_plan.specs.declared.port_plans.PortPlan.{PortPlan}
use Rattle.switch_plan.specs.Traffic.{CaptureFile, file_of, is_nano, unplaced, places_from}
use Rattle.switch_plan.specs.Totals.{slots_of, total_work, total_aside, max_slots_of, sizes_for, body_room_for, packet_room_for}
use Rattle.switch_plan.specs.Refusals.{first_link, burst_limits, limits_for, terms_of}
use Rattle.switch_plan.specs.PortSteps.{slots_at}
use Rattle.switch_plan.specs.CheckingSteps.{AreWhole}
use Rattle.switch_plan.specs.GoodPlans.{switch_plan_of, packets_in, IsCardOf, IsGood, IsBurst, IsWithin, IsPlanOf}
use Rattle.switch_plan.specs.JobSteps.{packets_of_ports, IsCardOfPort, IsPlanWith, IsJobPlan}
use Rattle.switch_plan.proofs.RoomBounds.{sizes_few, sizes_long}
use Rattle.switch_plan.proofs.Checked.{same_packets}
use Rattle.switch_plan.proofs.Placed.{taken_long, places, rising, bodies_are, starts_are, whole}
use Rattle.switch_plan.proofs.Alike.{all_micro}
use Rattle.switch_plan.proofs.PortSums.{ports_long}
use Rattle.switch_plan.proofs.OverLimits.{map_both}
use Rattle.switch_plan.proofs.JobPorts.{AreOfJob, count_is, are_within, capture_of, same_over_all, ports_traffic, countable_all, slots_all}
use Rattle.switch_plan.proofs.JobPorts.{long_all, aside_all, all_packets}
use Rattle.switch_plan.proofs.WhyRefused.{refusal_is}
use Rattle.switch_plan.proofs.Bursts.{burst_within}

-- The plan has the cards of the job's ports.
module _ {table : List RouteLine} {settings : Settings} {pace : Pace} {n : ℕ} {captures : List Capture} {ports : List PortPlan}
    (job : AreOfJob table settings pace n captures ports) (limits : AreWithinLimits settings) (some : 0 < n) (nano : Bool) (link : Link)
    (plan : Plan) (with : IsPlanWith settings nano link ports plan) where
  -- For each card of the plan there is its port.
  port_of : (k : ℕ) (card : CardPlan) → slice_get plan.cards.items k ≡ Some card → (port : PortPlan) × (slice_get ports k ≡ Some port)
      × IsCardOfPort ports settings.depth k port card
  port_of k card there =
      let count = with.cards.count in
      let port = at_place ports k (omega (arith, slice_get_within plan.cards.items k card there, count)) in
      (port.0, port.1, with.cards.each k port.0 card port.1 there)

  -- A value that a card has of its port is the same list over all cards and over all ports.
  same_over_cards : {B : Type 0} (of_card : CardPlan → B) (of_port : PortPlan → B)
      → ((k : ℕ) (port : PortPlan) (card : CardPlan) → IsCardOfPort ports settings.depth k port card → of_card card ≡ of_port port)
      → map of_card plan.cards.items ≡ map of_port ports
  same_over_cards of_card of_port same =
      map_both of_card of_port plan.cards.items ports (sym with.cards.count)
      (λ k card port at_card at_port. same k port card (with.cards.each k port card at_port at_card))

  -- The plan's packets are those of the ports.
  packets_are : packets_in (switch_plan_of plan) ≡ packets_of_ports ports
  packets_are =
      same_packets plan
      ∙ same_over_cards (λ (card : CardPlan). card.packets.items) (λ (port : PortPlan). port.packets.items) (λ k port card is. is.packets)

  cards_long : length (switch_plan_of plan).cards ≡ n
  cards_long = length-map plan.cards.items card_plan_of ∙ with.cards.count ∙ count_is job

  -- The card of a port is well formed.
  good_card : (k : ℕ) (port : PortPlan) (card : CardPlan) → slice_get ports k ≡ Some port → IsCardOfPort ports settings.depth k port card
      → IsGoodPlan (card_plan_of card)
  good_card k port card at is =
      let found = capture_of job k port at in
      let capture = found.0 in
      let its = found.2 in
      let inside = slice_get_within ports k port at in
      let count = count_is job in
      let few = job.few in
      let number = is.number in
      let deep = is.deep in
      let least = limits.depth.some in
      let size : card.n ≡ n = is.size ∙ count in
      let bytes : card.bytes.items ≡ capture.bytes.items = is.kept ∙ its.kept in
      record {
        some = omega (arith, size, some);
        size = omega (arith, size, few);
        card = omega (arith, size, number, inside, count);
        deep = omega (arith, deep, least);
        packets = λ j packet there.
            subst (λ many. IsPlannedFor many (length card.bytes.items) packet) (sym size)
            (subst (λ (own : List ℕ). IsPlannedFor n (length own) packet) (sym bytes)
            (places n table capture (slots_at pace capture) port.packets.items job.routes its.read (taken_long pace capture) its.traffic j packet
            (ap (λ (packets : List Planned). slice_get packets j) (sym is.packets) ∙ there)));
        rising = subst AreRising (sym is.packets) (rising n table pace capture port.packets.items job.routes its.read its.traffic);
        flows = ap length is.sizes ∙ sizes_long k (packets_of_ports ports)
            ∙ ap (λ many. 8 * many) (ports_long ports ∙ sym is.size);
        sizes = subst (λ (sizes : List ℕ). All (λ size. size ≤ 65551) sizes) (sym is.sizes) (sizes_few k (packets_of_ports ports) (countable_all job));
      }

  own_card : (k : ℕ) (card : CardPlan) → slice_get plan.cards.items k ≡ Some card → IsCardOf (switch_plan_of plan) k (card_plan_of card)
  own_card k card there =
      let own = port_of k card there in
      let is = own.2 in
      record {
        good = good_card k own.0 card own.1 is;
        number = is.number;
        ports = is.size ∙ count_is job ∙ sym cards_long;
        depth = is.deep ∙ sym with.depth;
        sizes = is.sizes ∙ ap (sizes_for k) (sym packets_are);
        body = is.body ∙ ap (body_room_for k) (sym packets_are);
        messages = is.messages ∙ ap (packet_room_for k) (sym packets_are);
      }

  -- Where no capture counts in nanoseconds, all times are whole microseconds.
  whole_all : is_nano (map file_of captures) ≡ false → All AreWhole (packets_of_ports ports)
  whole_all none =
      all_packets AreWhole ports
      (λ k port at.
      let found = capture_of job k port at in
      let its = found.2 in
      let micro : found.0.nano ≡ false =
      subst (λ (capture : Capture). capture.nano ≡ false) (get_or_from_slice_get captures k found.0 found.0 found.1)
      (all_micro captures none k found.0 (slice_get_within captures k found.0 found.1)) in
      whole n table found.0 (slots_at pace found.0) port.packets.items job.routes its.read (taken_long pace found.0) its.traffic micro)

  -- So the plan is good,
  plan_good : nano ≡ is_nano (map file_of captures) → IsGood (switch_plan_of plan)
  plan_good nano_is = record {
    size = let few = job.few in record { some = omega (arith, cards_long, some); most = omega (arith, cards_long, few) };
    rounds = subst (IsUpTo 64) (sym with.rounds) limits.rounds;
    workers = subst (IsUpTo 32) (sym with.workers) limits.workers;
    cards = λ k view there.
        let made = got_map card_plan_of plan.cards.items k view there in
        subst (IsCardOf (switch_plan_of plan) k) made.2 (own_card k made.0 made.1);
    max_slots = with.max_slots ∙ ap max_slots_of (sym packets_are);
    aside = with.aside ∙ ap total_aside (sym packets_are);
    whole = λ micro. subst (All AreWhole) (sym packets_are) (whole_all (sym nano_is ∙ sym with.nano ∙ micro));
  }

  -- within its limits,
  plan_within : IsWithin (limits_for settings.long n) (switch_plan_of plan)
  plan_within =
      let own = limits_for settings.long n in
      let within = are_within job in
      record {
        slots = subst (All (λ packets. slots_of packets ≤ own.slots)) (sym packets_are) (slots_all job);
        packets = subst (λ all. IfSome own.packets (λ most. sum_by length all ≤ most)) (sym packets_are) within.packets;
        cells = subst (λ all. total_work all ≤ own.cells) (sym packets_are) within.cells;
      }

  -- and one of a burst where the job is not long.
  plan_burst : nano ≡ is_nano (map file_of captures) → settings.long ≡ false → IsBurst (switch_plan_of plan)
  plan_burst nano_is short =
      let within = subst (λ long. IsWithin (limits_for long n) (switch_plan_of plan)) short plan_within in
      let depth = with.depth in
      let most : settings.depth ≤ 131072 = (subst (λ long. IsUpTo (most_depth long) settings.depth) short limits.depth).most in
      burst_within (switch_plan_of plan) (plan_good nano_is) (subst (λ many. IsWithin (burst_limits many) (switch_plan_of plan)) (sym cards_long) within)
      (omega (arith, depth, most))

  -- It is the plan of the table and all captures.
  plan_is : nano ≡ is_nano (map file_of captures) → link ≡ first_link (map file_of captures)
      → IsPlanOf settings (map (λ (capture : Capture). capture.bytes.items) captures) table (map file_of captures) (switch_plan_of plan)
  plan_is nano_is link_is = record {
    nano = with.nano ∙ nano_is;
    link = with.link ∙ link_is;
    rounds = with.rounds;
    depth = with.depth;
    workers = with.workers;
    oversize = with.oversize ∙ long_all job;
    unrouted = let aside = with.aside in let oversize = with.oversize ∙ long_all job in let all = aside_all job in omega arith;
    packets = ap (map (map unplaced)) packets_are ∙ ports_traffic job;
    places =
        ap (map (map (λ (packet : Planned). packet.start))) packets_are
        ∙ map-map (map (λ (packet : Planned). packet.start)) (λ (port : PortPlan). port.packets.items) ports
        ∙ same_over_all job (λ (port : PortPlan). map (λ (packet : Planned). packet.start) port.packets.items)
        (λ (capture : Capture). places_from 40 (packets_of capture))
        (λ capture port is.
        starts_are n table capture (slots_at pace capture) port.packets.items job.routes is.read (taken_long pace capture) is.traffic)
        ∙ sym (map-map (λ (file : CaptureFile). places_from 40 file.packets) file_of captures);
    kept =
        map-map (λ (card : CardView). card.bytes) card_plan_of plan.cards.items
        ∙ same_over_cards (λ (card : CardPlan). card.bytes.items) (λ (port : PortPlan). port.bytes.items) (λ k port card is. is.kept)
        ∙ same_over_all job (λ (port : PortPlan). port.bytes.items) (λ (capture : Capture). capture.bytes.items) (λ capture port is. is.kept);
    bodies =
        map-map (λ (card : CardView). map (bytes_of card) card.packets) card_plan_of plan.cards.items
        ∙ same_over_cards (λ (card : CardPlan). map (bytes_of (card_plan_of card)) card.packets.items) port_bodies
        (λ k port card is.
        ap (λ (bytes : List ℕ). map (λ (packet : Planned). take packet.len (drop packet.start bytes)) card.packets.items) is.kept
        ∙ ap (λ (packets : List Planned). map (λ (packet : Planned). take packet.len (drop packet.start port.bytes.items)) packets) is.packets)
        ∙ same_over_all job port_bodies (λ (capture : Capture). map (λ (packet : Packet). packet.bytes) (packets_of capture))
        (λ capture port is.
        ap (λ (bytes : List ℕ). map (λ (packet : Planned). take packet.len (drop packet.start bytes)) port.packets.items) is.kept
        ∙ bodies_are n table capture (slots_at pace capture) port.packets.items job.routes is.read (taken_long pace capture) is.traffic)
        ∙ sym (map-map (λ (file : CaptureFile). map (λ (packet : Packet). packet.bytes) file.packets) file_of captures);
  }
    where
      port_bodies : PortPlan → List (List ℕ)
      port_bodies port = map (λ (packet : Planned). take packet.len (drop packet.start port.bytes.items)) port.packets.items

  -- So it is the plan of the job.
  pub job_plan : nano ≡ is_nano (map file_of captures) → link ≡ first_link (map file_of captures)
      → IsJobPlan settings table captures plan
  job_plan nano_is link_is = record {
    good = plan_good nano_is;
    within = subst (λ count. IsWithin (limits_for settings.long count) (switch_plan_of plan)) job.count plan_within;
    burst = plan_burst nano_is;
    allowed = refusal_is table (terms_of settings) pace n captures ports job.count job.pace_is job.unmixed job.ports_are ∙ job.within;
    planned = plan_is nano_is link_is;
  }
