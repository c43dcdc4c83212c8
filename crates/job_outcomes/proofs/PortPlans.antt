-- A port plan of each capture that was read.
use Rattle.std.proofs.Common.{◌≡◌, ◌∙◌, ℕ, ◌*◌, ◌<◌, ◌≤◌, ◌==◌, ◌^◌, List, [], ◌∷◌, length, refl, ap, subst, arith, inl, inr}
use Rattle.std.specs.Prelude.{map, All, slice_index_or, sum_by, count_by, count_ones}
use Rattle.std.specs.List.{zip, range_with_len}
use Rattle.std.proofs.Math.Nat.{mul-le-mul}
use Rattle.std.proofs.lemmas.Bool.{cases_eq}
use Rattle.std.proofs.lemmas.List.{get_or-map}
use Rattle.std.proofs.lemmas.List.Sums.{sum_by-le}
use Rattle.std.proofs.lemmas.Option.{slice_get-get_or, get_or_from_slice_get, slice_get_within}
use Rattle.std_lemmas.proofs.Filters.{range_get}
use Rattle.cell_cutter.specs.Messages.{cells_of_packet}
use Rattle.line_pace.specs.declared.pace.Pace.{Pace}
use Rattle.line_pace.specs.Arrivals.{slots_taken}
use Rattle.pcap_records.specs.declared.capture.Capture.{Capture}
use Rattle.pcap_records.specs.declared.capture.Stored.{Stored}
use Rattle.pcap_records.specs.declared.link.Link.{Link}
use Rattle.pcap_records.specs.Packets.{packet_in}
use Rattle.forward_table.specs.declared.route_lines.RouteLine.{RouteLine}
use Rattle.forward_table.specs.Routes.{AreRoutesOf}
use Rattle.card_core.specs.declared.plan.Planned.{Planned}
use Rattle.switch_plan.specs.Traffic.{planned, unplaced}
use Rattle.switch_plan.specs.Totals.{work_of}
use Rattle.switch_plan.specs.ReadingSteps.{IsCaptureOf, IsTrafficOf}
use Rattle.switch_plan.specs.CountingSteps.{IsForwardable, AreCountable}
use Rattle.switch_plan.specs.OutputSteps.{beyond, room_at, room_for}
use Rattle.switch_plan.specs.PortSteps.{is_long, slots_at, IsPortPlanOf, ArePortPlansOf}
use Rattle.switch_plan.proofs.Placed.{fan_is_short, packets_long, places, taken_long}
use Rattle.switch_plan.proofs.Summing.{ones_within, cells_forwarded}
use Rattle.job_outcomes.proofs.Vecs.{vec_of, made_all}

-- ---- the packets at their places
-- a packet that is planned of a stored one and its slot, and stands where that one does
abbrev placed : List RouteLine → Link → List ℕ → Stored × ℕ → Planned
placed table link bytes pair = record (planned table link (packet_in bytes pair.0) pair.1) { start = pair.0.start }

placed_are : (table : List RouteLine) (link : Link) (bytes : List ℕ) (stored : List Stored) (slots : List ℕ)
    → map unplaced (map (placed table link bytes) (zip stored slots))
    ≡ map (λ pair. planned table link pair.0 pair.1) (zip (map (packet_in bytes) stored) slots)
placed_are table link bytes [] slots = refl
placed_are table link bytes (s ∷ stored) [] = refl
placed_are table link bytes (s ∷ stored) (slot ∷ slots) =
    ap (λ more. planned table link (packet_in bytes s) slot ∷ more) (placed_are table link bytes stored slots)

placed_start : (table : List RouteLine) (link : Link) (bytes : List ℕ) (stored : List Stored) (slots : List ℕ) → length slots ≡ length stored
    → map (λ (packet : Planned). packet.start) (map (placed table link bytes) (zip stored slots)) ≡ map (λ (s : Stored). s.start) stored
placed_start table link bytes [] slots long = refl
placed_start table link bytes (s ∷ stored) [] long = absurd (omega arith)
placed_start table link bytes (s ∷ stored) (slot ∷ slots) long =
    ap (λ more. s.start ∷ more) (placed_start table link bytes stored slots (omega arith))

-- ---- what they bring
-- a packet that can be forwarded brings little
work_few : (n : ℕ) (packet : Planned) → n ≤ 64 → packet.fan < 2 ^ n → IsForwardable packet → work_of packet ≤ 74944
work_few n packet few fan may = elim (cases_eq packet.fan 0) [
  | inl none ↦
      let no_ones = ones_within 0 0 (omega arith) in
      let no_output : count_ones packet.fan ≡ 0 = ap count_ones none ∙ omega (arith, no_ones) in
      let nothing : work_of packet ≡ 0 = ap (λ ones. cells_of_packet packet.len * ones) no_output ∙ omega arith in
      omega arith
  | inr some ↦
      let ones = ones_within n packet.fan fan in
      let cells = cells_forwarded packet.len (may some) in
      let most : count_ones packet.fan ≤ 64 = omega arith in
      mul-le-mul cells most
]

-- each output's room, as it is found at its place
room_is : (packets : List Planned) (output : ℕ) → output < 64
    → room_at (map (λ output. room_for output packets) (range_with_len 0 64)) output ≡ room_for output packets
room_is packets output inside =
    let there = range_get 0 64 output output inside (omega arith) in
    get_or-map (λ output. room_for output packets) (range_with_len 0 64) output 0 beyond (slice_get_within (range_with_len 0 64) output output there)
    ∙ ap (λ output. room_for output packets) (get_or_from_slice_get (range_with_len 0 64) output output 0 there)

module _ (n : ℕ) (few : n ≤ 64) (table : List RouteLine) (pace : Pace) (routes : AreRoutesOf n table) (capture : Capture)
    (read : IsCaptureOf capture.bytes.items capture) where
  abbrev slots : List ℕ
  slots = slots_at pace capture

  abbrev packets : List Planned
  packets = map (placed table capture.link capture.bytes.items) (zip capture.packets.items slots)

  traffic : IsTrafficOf table capture slots packets
  traffic = record {
    packets_are = placed_are table capture.link capture.bytes.items capture.packets.items slots;
    places = placed_start table capture.link capture.bytes.items capture.packets.items slots (taken_long pace capture);
  }

  long : length packets ≡ length capture.packets.items
  long = packets_long n table capture slots packets routes read (taken_long pace capture) traffic

  countable : AreCountable packets
  countable = record {
    few = let most = read.few in omega (arith, long, most);
    forwarded = fan_is_short n table capture slots packets routes read (taken_long pace capture) traffic;
  }

  light : All (λ packet. work_of packet ≤ 74944) packets
  light k d inside =
      let own = places n table capture slots packets routes read (taken_long pace capture) traffic k (slice_index_or packets k d)
      (slice_get-get_or packets k d inside) in
      work_few n (slice_index_or packets k d) few own.fan (countable.forwarded k d inside)

  -- the port that is planned of the capture
  port_plan : (port : _) × IsPortPlanOf table pace capture port
  port_plan = (
    record {
      bytes = capture.bytes;
      packets = vec_of packets (let most = countable.few in omega (arith, most));
      slots = slots_taken slots;
      brought = record {
        rooms = map (λ output. room_for output packets) (range_with_len 0 64);
        work = sum_by work_of packets;
        aside = count_by (λ packet. packet.fan == 0) packets;
        oversize = count_by is_long packets;
      };
    },
    record {
      kept = refl;
      slots = refl;
      packets = λ short. traffic;
      planned = record {
        countable = countable;
        brought = record {
          rooms = room_is packets;
          work = refl;
          aside = refl;
          oversize = refl;
          light = sum_by-le work_of 74944 packets light;
        };
      };
    },
  )

-- the ports of all captures
pub port_plans : (n : ℕ) → n ≤ 64 → (table : List RouteLine) (pace : Pace) → AreRoutesOf n table → (captures : List Capture)
    → All (λ (capture : Capture). IsCaptureOf capture.bytes.items capture) captures → (ports : _) × ArePortPlansOf table pace captures ports
port_plans n few table pace routes captures read =
    let made = made_all (λ k. IsPortPlanOf table pace) captures
    (λ k capture at.
    port_plan n few table pace routes capture
    (subst (λ (c : Capture). IsCaptureOf c.bytes.items c) (get_or_from_slice_get captures k capture capture at)
    (read k capture (slice_get_within captures k capture at)))) in
    (made.0, record { count = made.1.count; each = made.1.each })
