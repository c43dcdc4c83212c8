-- Each cell that crosses is the next of its flow and has room.
use Rattle.std.proofs.Common.{◌≡◌, ◌∙◌, ℕ, zero, suc, ◌+◌, ◌*◌, ◌^◌, ◌<◌, ◌≤◌, ◌==◌, Bool, true, List, [], ◌∷◌, ◌++◌, map, take, length, sum_by}
use Rattle.std.proofs.Common.{Option, Some, None, slice_index_or, refl, sym, ap, subst, arith, if◌then◌else◌, append_assoc}
use Rattle.std.specs.Prelude.{slice_index}
use Rattle.std.specs.List.{range_with_len, concat}
use Rattle.std.specs.Option.{option_to_list}
use Rattle.std.proofs.lemmas.Grind.{flat_map-append}
use Rattle.std.proofs.lemmas.List.{append-nil, length-append, length-map, length_push}
use Rattle.std.proofs.lemmas.List.Elements.{filter-append}
use Rattle.std.proofs.lemmas.List.FromFn.{length-map-range_with_len, map-range_with_len_more}
use Rattle.std.proofs.lemmas.List.Sums.{sum_by-cons, sum_by-append}
use Rattle.std.proofs.Math.Seq.{take-add}
use Rattle.card_core.proofs.After.{level-if}
use Rattle.rotating_pick.specs.declared.kinds.Kind.{Kind}
use Rattle.rotating_pick.specs.declared.limits.TheConstants.{LEVELS}
use Rattle.cell_cutter.specs.declared.cell.Cell.{Cell}
use Rattle.cell_cutter.specs.Cells.{cell_of, part, used_bytes}
use Rattle.cell_cutter.proofs.Payloads.{take-padded}
use Rattle.eslip_rounds.specs.Schedulers.{Scheduler, IsScheduler}
use Rattle.slot_histories.specs.Slots.{crossed_under}
use Rattle.reassembly.specs.Flows.{Flow, Fits, fresh, place_of, flow_of, bytes_with}
use Rattle.reassembly.specs.Cutting.{Stands, rest_after, joined}
use Rattle.reassembly.specs.Filling.{begun_with}
use Rattle.reassembly.proofs.Taking.{Fits-next}
use Rattle.card_core.specs.Plans.{Plan, level_of, kind_of, queue_of, last_port}
use Rattle.card_core.specs.Deliveries.{is_of_flow, flow_cells, message_with, delivered}
use Rattle.card_core.specs.Cards.{Received, HasReceived, MayReceiveAny, flow_at}
use Rattle.card_core.proofs.Delivering.{delivered-push}
use Rattle.card_core.proofs.Messaging.{message-long}
use Rattle.switch_plan.specs.GoodPlans.{SwitchPlan, IsGood}
use Rattle.run_laws.specs.Runs.{ports_of, setup_for, card_at, parts_under, posts_under}
use Rattle.run_laws.specs.Crossings.{cells_under, queue_to}
use Rattle.run_laws.proofs.Base.{good-card, sound}
use Rattle.run_laws.proofs.Rooms.{size-enough}
use Rattle.run_laws.proofs.Delivered.{delivered-fit}
use Rattle.run_laws.proofs.FirstParts.{IsNextOf, next_is}
use Rattle.run_laws.proofs.PacketCells.{IsMessageTo, packets_hold}
use Rattle.run_laws.proofs.FlowCells.{IsFrom, level_to, kind_to, flow_one, cells_to-push, flow_first}
use Rattle.run_laws.proofs.OfFlows.{feeds, comes_from}

-- ---- a message of which some cells stand
-- the first cells of a message carry its first bytes
joined_first : (input level : ℕ) (kind : Kind) (message : List ℕ) (k : ℕ)
    → joined (map (cell_of input level kind message) (range_with_len 0 k)) ≡ take (56 * k) message
joined_first input level kind message zero = refl
joined_first input level kind message (suc k) =
    let cell : Cell = cell_of input level kind message k in
    let cells : ℕ → List Cell = λ n. map (cell_of input level kind message) (range_with_len 0 n) in
    ap (λ n. joined (cells n)) (let e : suc k ≡ k + 1 = omega arith in e)
    ∙ ap joined (map-range_with_len_more (cell_of input level kind message) 0 k k (omega arith))
    ∙ flat_map-append used_bytes (cells k) (cell ∷ [])
    ∙ ap (λ bytes. joined (cells k) ++ bytes) (append-nil (used_bytes cell) ∙ take-padded (part k message))
    ∙ ap (λ bytes. bytes ++ part k message) (joined_first input level kind message k)
    ∙ sym (take-add (56 * k) 56 message)
    ∙ ap (λ n. take n message) (let e : 56 * k + 56 ≡ 56 * suc k = omega arith in e)

flow_by : (flow : Flow) (bytes : List ℕ) (next : ℕ) → flow.bytes ≡ bytes → flow.next ≡ next → flow ≡ record { size = flow.size; bytes = bytes; next = next }
flow_by flow bytes next b n = λ t. record { size = flow.size; bytes = b t; next = n t }

flow_begun : (input level : ℕ) (kind : Kind) (message : List ℕ) (k : ℕ) (flow : Flow) (cells : List Cell) → Stands flow cells
    → rest_after [] cells ≡ map (cell_of input level kind message) (range_with_len 0 k) → flow ≡ begun_with flow.size message k
flow_begun input level kind message k flow cells stands begun =
    flow_by flow (take (56 * k) message) k
    (stands.bytes ∙ ap joined begun ∙ joined_first input level kind message k)
    (stands.next ∙ ap length begun ∙ length-map-range_with_len (cell_of input level kind message) 0 k)

size_at : (flows : List Flow) (place : ℕ) → (slice_index_or flows place (fresh 0)).size ≡ slice_index (map (λ (f : Flow). f.size) flows) place
size_at [] place = refl
size_at (f ∷ flows) zero = refl
size_at (f ∷ flows) (suc place) = size_at flows place

-- ---- the room of messages
length_concat : (lists : List (List ℕ)) → length (concat lists) ≡ sum_by length lists
length_concat [] = refl
length_concat (list ∷ lists) = let rest = length_concat lists in omega (arith, length-append list (concat lists), sum_by-cons length list lists, rest)

module _ (plan : Plan) (r : Received) (cells : List Cell) (had : HasReceived plan r cells) (cell : Cell) (inside : cell.input < plan.ports)
    (below : cell.level < LEVELS) where
  message_is : bytes_with (flow_of r.flows cell) cell ≡ message_with cells cell
  message_is = ap (λ b. b ++ used_bytes cell) (had.flows cell.input cell.level cell.kind inside below).bytes

  has_room : sum_by length (delivered (cells ++ cell ∷ [])) ≤ plan.body_room → length (delivered (cells ++ cell ∷ [])) ≤ plan.packet_room → cell.last ≡ true
      → (length r.body + length (bytes_with (flow_of r.flows cell) cell) ≤ r.body_room) × (length r.lens < r.packet_room)
  has_room body packets last =
      let one : delivered (cells ++ cell ∷ []) ≡ delivered cells ++ message_with cells cell ∷ [] = delivered-push cells cell
      ∙ ap (λ (b : Bool). delivered cells ++ (if b then message_with cells cell ∷ [] else [])) last in
      let bytes : length r.body ≡ sum_by length (delivered cells) = ap length had.body ∙ length_concat (delivered cells) in
      let lens : length r.lens ≡ length (delivered cells) = ap length had.lens ∙ length-map (delivered cells) length in
      let own : length (bytes_with (flow_of r.flows cell) cell) ≡ length (message_with cells cell) = ap length message_is in
      let sums : sum_by length (delivered (cells ++ cell ∷ [])) ≡ sum_by length (delivered cells) + sum_by length (message_with cells cell ∷ []) =
      ap (sum_by length) one ∙ sum_by-append length (delivered cells) (message_with cells cell ∷ []) in
      let single = sum_by-cons length (message_with cells cell) [] in
      let count : length (delivered (cells ++ cell ∷ [])) ≡ length (delivered cells) + 1 = ap length one
      ∙ length_push (delivered cells) (message_with cells cell) in
      (omega (arith, body, bytes, own, sums, single, had.body_room), omega (arith, packets, lens, count, had.packet_room))

-- ---- the cell that crosses
module _ (scheduler : Scheduler) (scheduling : IsScheduler scheduler) (plan : SwitchPlan) (good : IsGood plan) where
  module _ (i j level : ℕ) (kind : Kind) (inside : i < ports_of plan) (to : j < ports_of plan) (below : level < LEVELS) (t : ℕ) (cell : Cell)
      (is : crossed_under scheduler (setup_for plan) (posts_under scheduler plan) j (suc t) ≡ Some cell) (from : IsFrom i level kind cell) where
    abbrev flow_before : List Cell
    flow_before = flow_cells i level kind (cells_under scheduler plan j (suc t))

    -- the cell is the next of a message to the output
    next_cell : IsNextOf i level kind (IsMessageTo (card_at plan i) (queue_to j level kind) j) (rest_after [] flow_before) cell
    next_cell =
        let card = card_at plan i in
        let q = queue_to j level kind in
        let (rest, first) = flow_first scheduler scheduling plan good i j level kind inside (suc t) in
        let flow : flow_cells i level kind (cells_under scheduler plan j (suc (suc t))) ≡ flow_before ++ cell ∷ [] =
        ap (flow_cells i level kind) (cells_to-push scheduler plan j (suc t) ∙ ap (λ o. cells_under scheduler plan j (suc t) ++ option_to_list o) is)
        ∙ filter-append (is_of_flow i level kind) (cells_under scheduler plan j (suc t)) (cell ∷ [])
        ∙ ap (λ xs. flow_before ++ xs) (flow_one i level kind cell from) in
        next_is i level kind (IsMessageTo card q j) flow_before cell rest _
        (packets_hold card (good-card plan good i inside).good q j (parts_under scheduler plan i (suc t)) (suc t))
        (sym (append_assoc flow_before (cell ∷ []) rest) ∙ ap (λ xs. xs ++ rest) (sym flow) ∙ sym first)

    flow_fits : (r : Received) → HasReceived (card_at plan j) r (cells_under scheduler plan j (suc t)) → Fits r.flows cell
    flow_fits r had =
        let card : Plan = card_at plan i in
        let mine = good-card plan good i inside in
        let other = good-card plan good j to in
        let next = next_cell in
        let m = next.message in
        let k = next.number in
        let of = next.holds in
        let p = of.packet in
        let planned = mine.good.packets of.place p of.there in
        let flow : Flow = flow_at r.flows i level kind in
        let ports : r.flows.ports ≡ ports_of plan = had.ports ∙ other.ports in
        let stands = had.flows i level kind (omega (arith, other.ports)) below in
        let begun : flow ≡ begun_with flow.size m k = flow_begun i level kind m k flow flow_before stands next.begun in
        let size : flow.size ≡ slice_index (card_at plan j).sizes (place_of i level kind) = size_at r.flows.flows (place_of i level kind)
        ∙ ap (λ xs. slice_index xs (place_of i level kind)) had.sizes in
        let levels : p.level ≡ level = sym (level-if (p.fan == 2 ^ last_port 64 p.fan) (last_port 64 p.fan) p.level) ∙ ap level_of (sym of.queue)
        ∙ level_to j level kind in
        let kinds : kind_of (queue_of p) ≡ kind = ap kind_of (sym of.queue) ∙ kind_to j level kind in
        let enough = size-enough plan good i j of.place p inside to of.there of.goes in
        let at : place_of i p.level (kind_of (queue_of p)) ≡ place_of i level kind = ap (λ x. place_of i x (kind_of (queue_of p))) levels
        ∙ ap (place_of i level) kinds in
        let room : length m ≤ flow.size = omega (arith, ap length of.is, size, enough, ap (slice_index (card_at plan j).sizes) at) in
        let few : length m ≤ 65551 = omega (arith, ap length of.is, message-long card mine.good of.place p of.there, planned.forwarded of.routed) in
        subst (Fits r.flows) (sym next.is) (Fits-next r.flows flow.size i level k kind m (record {
          ports = omega (arith, ports, mine.good.size, mine.ports);
          input_in = omega (arith, ports);
          level_in = below;
          few = few;
          room = room;
          more = next.few;
        }) begun)

  fits_some : (j t : ℕ) (r : Received) (o : Option Cell) → j < ports_of plan → HasReceived (card_at plan j) r (cells_under scheduler plan j (suc t))
      → crossed_under scheduler (setup_for plan) (posts_under scheduler plan) j (suc t) ≡ o → MayReceiveAny r o
  fits_some j t r None to had is = tt
  fits_some j t r (Some cell) to had is =
      let (fed, serves) = feeds scheduler scheduling plan good j t cell is in
      let matches = (sound scheduler scheduling plan good t).matches in
      let inside = matches.input_in fed.input j fed.level fed.kind serves in
      let below = matches.level_in fed.input j fed.level fed.kind serves in
      let from = comes_from scheduler scheduling plan good fed.input j fed.level fed.kind t cell serves is in
      let other = good-card plan good j to in
      let fit = delivered-fit scheduler scheduling plan good j (suc (suc t)) to in
      let more : cells_under scheduler plan j (suc (suc t)) ≡ cells_under scheduler plan j (suc t) ++ cell ∷ [] = cells_to-push scheduler plan j (suc t)
      ∙ ap (λ c. cells_under scheduler plan j (suc t) ++ option_to_list c) is in
      record {
        flow = flow_fits fed.input j fed.level fed.kind inside to below t cell is from r had;
        room = has_room (card_at plan j) r (cells_under scheduler plan j (suc t)) had cell (omega (arith, from.0, inside, other.ports))
            (omega (arith, from.1, below))
            (subst (λ cells. sum_by length (delivered cells) ≤ (card_at plan j).body_room) more fit.0)
            (subst (λ cells. length (delivered cells) ≤ (card_at plan j).packet_room) more fit.1);
      }

  pub cell_fits : (j slots : ℕ) (r : Received) → j < ports_of plan → HasReceived (card_at plan j) r (cells_under scheduler plan j slots)
      → MayReceiveAny r (crossed_under scheduler (setup_for plan) (posts_under scheduler plan) j slots)
  cell_fits j zero r to had = tt
  cell_fits j (suc t) r to had = fits_some j t r (crossed_under scheduler (setup_for plan) (posts_under scheduler plan) j (suc t)) to had refl
