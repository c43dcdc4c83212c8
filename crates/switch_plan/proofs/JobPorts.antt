-- The ports that were planned of all captures of a job: what is known of each, and what their packets come to over all of them.
use Rattle.std.proofs.Common.{◌≡◌, ◌∙◌, ℕ, ◌+◌, ◌<◌, ◌≤◌, ◌^◌, ◌==◌, Bool, true, false, List, length, None, Some, refl, ap, sym, subst, arith, slice_index_or}
use Rattle.std.specs.Prelude.{map, All, slice_get, sum, sum_by, count_by}
use Rattle.std.proofs.lemmas.List.Elements.{All-map}
use Rattle.std.proofs.lemmas.List.Folds.{fold-map}
use Rattle.std.proofs.lemmas.List.Sums.{sum-map, sum_by-le}
use Rattle.std.proofs.lemmas.Option.{slice_get_within, slice_get-get_or, get_or_from_slice_get}
use Rattle.std_lemmas.proofs.Lists.{at_place}
use Rattle.std_lemmas.proofs.Sums.{sum_by-plus}
use Rattle.line_pace.specs.declared.pace.Pace.{Pace}
use Rattle.line_pace.specs.Arrivals.{slots_taken}
use Rattle.pcap_records.specs.declared.link.Link.{Link}
use Rattle.pcap_records.specs.declared.capture.Capture.{Capture}
use Rattle.pcap_records.specs.Packets.{Packet, packets_of}
use Rattle.forward_table.specs.declared.route_lines.RouteLine.{RouteLine}
use Rattle.forward_table.specs.Routes.{AreRoutesOf}
use Rattle.card_core.specs.declared.plan.Planned.{Planned}
use Rattle.switch_words.specs.declared.job.Settings.{Settings}
use Rattle.switch_plan.specs.declared.port_plans.PortPlan.{PortPlan}
use Rattle.switch_plan.specs.Traffic.{CaptureFile, file_of, is_oversize, is_unrouted, unplaced, pace_of, traffic_of}
use Rattle.switch_plan.specs.Totals.{slots_of, total_aside, max_slots_of}
use Rattle.switch_plan.specs.Refusals.{first_link, mixed_links, limits_for}
use Rattle.switch_plan.specs.ReadingSteps.{IsCaptureOf, IsTrafficOf}
use Rattle.switch_plan.specs.CountingSteps.{AreCountable}
use Rattle.switch_plan.specs.PortSteps.{slots_at, is_long, IsPlanned, ArePortPlansOf}
use Rattle.switch_plan.specs.JobSteps.{packets_of_ports, AreFit, over_ports}
use Rattle.switch_plan.proofs.RoomBounds.{most_few}
use Rattle.switch_plan.proofs.Totalling.{greatest_few}
use Rattle.switch_plan.proofs.Placed.{taken_long, few_packets, port_slots, long_are, aside_are}
use Rattle.switch_plan.proofs.Alike.{one_link, traffic_same}
use Rattle.switch_plan.proofs.PortSums.{ports_long, counted_within}
use Rattle.switch_plan.proofs.OverLimits.{AreWithin, map_both, within_from, traffic_is}

-- a capture that was read of its bytes
abbrev pub IsRead : Capture → Type 0
IsRead capture = IsCaptureOf capture.bytes.items capture

-- the packets of captures that are too long to be forwarded
abbrev pub oversize_in : List Capture → ℕ
oversize_in captures = sum_by (λ (file : CaptureFile). count_by (λ (packet : Packet). is_oversize packet.bytes) file.packets) (map file_of captures)

-- the packets of captures of this link type that no route forwards
abbrev pub unrouted_in : List RouteLine → List Capture → ℕ
unrouted_in table captures =
    sum_by (λ (file : CaptureFile). count_by (λ (packet : Packet). is_unrouted table (first_link (map file_of captures)) packet.bytes) file.packets)
    (map file_of captures)

-- the ports that were planned of all n captures of a job, whose link types do not differ, at the job's pace and within its limits
pub record AreOfJob (table : List RouteLine) (settings : Settings) (pace : Pace) (n : ℕ) (captures : List Capture) (ports : List PortPlan) : Type 0 where
  pub count : n ≡ length captures
  pub few : n ≤ 64
  pub pace_is : pace ≡ pace_of settings.speed (map file_of captures)
  pub unmixed : mixed_links (map file_of captures) ≡ None
  pub routes : AreRoutesOf n table
  pub read : All IsRead captures
  pub ports_are : ArePortPlansOf table pace captures ports
  pub within : over_ports (limits_for settings.long n) ports ≡ None

-- the port that was planned of a capture of such a job
pub record IsOfCapture (table : List RouteLine) (pace : Pace) (link : Link) (capture : Capture) (port : PortPlan) : Type 0 where
  pub read : IsRead capture
  pub linked : capture.link ≡ link
  pub kept : port.bytes.items ≡ capture.bytes.items
  pub slots : port.slots ≡ slots_taken (slots_at pace capture)
  pub traffic : IsTrafficOf table capture (slots_at pace capture) port.packets.items

-- the slots of a port within the limits of any job fit in 32 bits
pub limits_short : (long : Bool) (n : ℕ) → (limits_for long n).slots ≤ 2147483648
limits_short true n = omega arith
limits_short false n = let few = most_few n in omega (arith, few)

-- a number of each port's packets that is one of its capture's, over all
sums_same : (F : List Planned → ℕ) (H : CaptureFile → ℕ) (ports : List PortPlan) (captures : List Capture)
    → map (λ (port : PortPlan). F port.packets.items) ports ≡ map (λ (capture : Capture). H (file_of capture)) captures
    → sum_by F (packets_of_ports ports) ≡ sum_by H (map file_of captures)
sums_same F H ports captures same =
    fold-map (λ a x. a + F x) (λ (port : PortPlan). port.packets.items) 0 ports
    ∙ sym (sum-map (λ (port : PortPlan). F port.packets.items) ports)
    ∙ ap sum same
    ∙ sum-map (λ (capture : Capture). H (file_of capture)) captures
    ∙ sym (fold-map (λ a x. a + H x) file_of 0 captures)

-- what holds of the packets of each port holds of all packets
pub all_packets : (P : List Planned → Type 0) (ports : List PortPlan)
    → ((k : ℕ) (port : PortPlan) → slice_get ports k ≡ Some port → P port.packets.items) → All P (packets_of_ports ports)
all_packets P ports each =
    All-map P (λ (port : PortPlan). port.packets.items) ports (λ k d inside. each k (slice_index_or ports k d) (slice_get-get_or ports k d inside))

-- each port of all captures is planned
pub planned_all : (table : List RouteLine) (pace : Pace) (captures : List Capture) (ports : List PortPlan) → ArePortPlansOf table pace captures ports
    → All IsPlanned ports
planned_all table pace captures ports are k d inside =
    let count = are.count in
    let found = at_place captures k (omega (arith, count, inside)) in
    (are.each k found.0 (slice_index_or ports k d) found.1 (slice_get-get_or ports k d inside)).planned

module _ {table : List RouteLine} {settings : Settings} {pace : Pace} {n : ℕ} {captures : List Capture} {ports : List PortPlan}
    (job : AreOfJob table settings pace n captures ports) where
  -- There is a port for each capture.
  pub count_is : length ports ≡ n
  count_is = job.ports_are.count ∙ sym job.count

  -- The ports are within the job's limits.
  pub are_within : AreWithin (limits_for settings.long n) ports
  are_within = within_from (limits_for settings.long n) ports job.within

  slots_short : (k : ℕ) (port : PortPlan) → slice_get ports k ≡ Some port → port.slots ≤ 2 ^ 32
  slots_short k port at =
      let within = are_within.slots k port at in
      let short = limits_short settings.long n in
      omega (arith, within, short)

  -- Each port is that of its capture,
  of_capture : (k : ℕ) (capture : Capture) (port : PortPlan) → slice_get captures k ≡ Some capture → slice_get ports k ≡ Some port
      → IsOfCapture table pace (first_link (map file_of captures)) capture port
  of_capture k capture port at_capture at_port =
      let is = job.ports_are.each k capture port at_capture at_port in
      let inside = slice_get_within captures k capture at_capture in
      let found = get_or_from_slice_get captures k capture capture at_capture in
      record {
        read = subst IsRead found (job.read k capture inside);
        linked = subst (λ (c : Capture). c.link ≡ first_link (map file_of captures)) found (one_link captures job.unmixed k capture inside);
        kept = is.kept;
        slots = is.slots;
        traffic = is.packets (slots_short k port at_port);
      }

  -- and for each there is one.
  pub capture_of : (k : ℕ) (port : PortPlan) → slice_get ports k ≡ Some port → (capture : Capture) × (slice_get captures k ≡ Some capture)
      × IsOfCapture table pace (first_link (map file_of captures)) capture port
  capture_of k port at =
      let count = job.ports_are.count in
      let found = at_place captures k (omega (arith, slice_get_within ports k port at, count)) in
      (found.0, found.1, of_capture k found.0 port found.1 at)

  -- A value that a port has of its capture is the same list over all ports and over all captures.
  pub same_over_all : {B : Type 0} (of_port : PortPlan → B) (own : Capture → B)
      → ((capture : Capture) (port : PortPlan) → IsOfCapture table pace (first_link (map file_of captures)) capture port → of_port port ≡ own capture)
      → map of_port ports ≡ map own captures
  same_over_all of_port own same =
      map_both of_port own ports captures (sym job.ports_are.count)
      (λ k port capture at_port at_capture. same capture port (of_capture k capture port at_capture at_port))

  -- The packets of all ports, without their places in the captures, are the traffic.
  pub ports_traffic : map (map unplaced) (packets_of_ports ports)
      ≡ traffic_of table (first_link (map file_of captures)) settings.speed (map file_of captures)
  ports_traffic =
      sym (traffic_is table pace captures ports job.ports_are slots_short) ∙ traffic_same table settings.speed pace captures job.pace_is job.unmixed

  -- The packets of each port can be counted.
  pub countable_all : All AreCountable (packets_of_ports ports)
  countable_all = all_packets AreCountable ports
      (λ k port at. let found = capture_of k port at in (job.ports_are.each k found.0 port found.1 at).planned.countable)

  -- Each port's slots are those of its packets,
  slots_at_port : (k : ℕ) (port : PortPlan) → slice_get ports k ≡ Some port → port.slots ≡ slots_of port.packets.items
  slots_at_port k port at =
      let found = capture_of k port at in
      let is = found.2 in
      is.slots ∙ sym (port_slots n table pace found.0 port.packets.items job.routes is.read is.traffic)

  -- and within the limit.
  pub slots_all : All (λ packets. slots_of packets ≤ (limits_for settings.long n).slots) (packets_of_ports ports)
  slots_all =
      all_packets (λ packets. slots_of packets ≤ (limits_for settings.long n).slots) ports
      (λ k port at. subst (λ slots. slots ≤ (limits_for settings.long n).slots) (slots_at_port k port at) (are_within.slots k port at))

  -- A run of all packets ends in a slot of 32 bits.
  end_few : max_slots_of (packets_of_ports ports) < 2 ^ 32
  end_few =
      let short = limits_short settings.long n in
      let most = greatest_few (limits_for settings.long n).slots 0 (packets_of_ports ports) (omega arith) slots_all in
      let work = are_within.cells in
      let cells = cells_short settings.long in
      omega (arith, short, most, work, cells)
    where
      cells_short : (long : Bool) → (limits_for long n).cells ≤ 1073741824
      cells_short true = omega arith
      cells_short false = let few = most_few n in omega (arith, few)

  -- The packets are fewer than 2^32.
  packets_few : sum_by length (packets_of_ports ports) < 2 ^ 32
  packets_few = by_limits settings.long refl
    where
      by_limits : (long : Bool) → settings.long ≡ long → sum_by length (packets_of_ports ports) < 2 ^ 32
      by_limits true is =
          let most : sum_by length (packets_of_ports ports) ≤ 1073741824 =
          (subst (λ long. AreWithin (limits_for long n) ports) is are_within).packets in
          omega (arith, most)
      by_limits false is =
          let limits = subst (λ long. AreWithin (limits_for long n) ports) is are_within in
          let each : All (λ packets. length packets ≤ 131072) (packets_of_ports ports) =
          all_packets (λ packets. length packets ≤ 131072) ports
          (λ k port at.
          let found = capture_of k port at in
          let of = found.2 in
          let slots = of.slots in
          let within = limits.slots k port at in
          let most = most_few n in
          omega (arith, slots, within, most, few_packets n table pace found.0 port.packets.items job.routes of.read of.traffic)) in
          let sum = sum_by-le length 131072 (packets_of_ports ports) each in
          let count = count_is in
          let few = job.few in
          omega (arith, sum, ports_long ports, count, few)

  -- The packets of all ports that are too long are those of all captures.
  pub long_all : sum_by (count_by is_long) (packets_of_ports ports) ≡ oversize_in captures
  long_all =
      sums_same (count_by is_long) (λ (file : CaptureFile). count_by (λ (packet : Packet). is_oversize packet.bytes) file.packets) ports captures
      (same_over_all (λ (port : PortPlan). count_by is_long port.packets.items)
      (λ (capture : Capture). count_by (λ (packet : Packet). is_oversize packet.bytes) (packets_of capture))
      (λ capture port is. long_are n table capture (slots_at pace capture) port.packets.items job.routes is.read (taken_long pace capture) is.traffic))

  -- The packets of all ports that are set aside are those of all captures that are too long or that no route forwards.
  pub aside_all : total_aside (packets_of_ports ports) ≡ oversize_in captures + unrouted_in table captures
  aside_all =
      let link = first_link (map file_of captures) in
      let long : CaptureFile → ℕ = λ file. count_by (λ (packet : Packet). is_oversize packet.bytes) file.packets in
      let lost : CaptureFile → ℕ = λ file. count_by (λ (packet : Packet). is_unrouted table link packet.bytes) file.packets in
      sums_same (count_by (λ (packet : Planned). packet.fan == 0)) (λ file. long file + lost file) ports captures
      (same_over_all (λ (port : PortPlan). count_by (λ (packet : Planned). packet.fan == 0) port.packets.items)
      (λ (capture : Capture). long (file_of capture) + lost (file_of capture))
      (λ capture port is.
      aside_are n table capture (slots_at pace capture) port.packets.items job.routes is.read (taken_long pace capture) is.traffic
      ∙ ap (λ its_link. long (file_of capture) + count_by (λ (packet : Packet). is_unrouted table its_link packet.bytes) (packets_of capture)) is.linked))
      ∙ sum_by-plus long lost (map file_of captures)

  -- So a plan can be made of the ports.
  pub ports_fit : AreFit ports
  ports_fit = record {
    few = let count = count_is in let few = job.few in omega (arith, count, few);
    planned = planned_all table pace captures ports job.ports_are;
    end = end_few;
    aside = let few = packets_few in omega (arith, few, counted_within (λ (packet : Planned). packet.fan == 0) (packets_of_ports ports));
    long = let long = long_all in let aside = aside_all in omega (arith, long, aside);
  }
