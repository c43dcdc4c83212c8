-- The ends of a flow are the slots of the departures that are of it, as many as packets go by it.
use Rattle.std.proofs.Common.{◌≡◌, ◌∙◌, ℕ, ◌^◌, ◌<◌, ◌==◌, ◌&&◌, nat_lt, Bool, true, List, map, filter, length, count_by, Option, None, Some, refl, sym}
use Rattle.std.proofs.Common.{ap, subst, inl, inr}
use Rattle.std.specs.List.{range_with_len}
use Rattle.std.proofs.lemmas.Bool.{and_parts, and_from, cases_eq, lt-ltb}
use Rattle.std.proofs.lemmas.List.{length-map}
use Rattle.std.proofs.lemmas.List.Elements.{All-weaker}
use Rattle.std.proofs.lemmas.List.Sums.{length-filter}
use Rattle.std.proofs.lemmas.Nat.Bits.{bit_at-pow_other}
use Rattle.rotating_pick.specs.PortSets.{Has}
use Rattle.rotating_pick.specs.declared.kinds.Kind.{Kind}
use Rattle.rotating_pick.specs.declared.limits.TheConstants.{LEVELS}
use Rattle.eslip_rounds.specs.Decisions.{is_kind}
use Rattle.cell_cutter.specs.declared.cell.Cell.{Cell}
use Rattle.eslip_rounds.specs.Schedulers.{Scheduler}
use Rattle.slot_histories.specs.Slots.{crossed_under}
use Rattle.slot_histories.specs.Tests.{has}
use Rattle.slot_histories.proofs.SetTests.{Decides-has}
use Rattle.card_core.specs.declared.plan.Planned.{Planned}
use Rattle.card_core.specs.Plans.{Queue, OfOutput, OfLevel, level_of, kind_of, is_queue, queue_of, message_of}
use Rattle.card_core.specs.Queues.{is_routed, is_admitted, enters}
use Rattle.card_core.specs.Deliveries.{is_of_flow}
use Rattle.card_core.proofs.Accepting.{one_output}
use Rattle.card_core.proofs.Arriving.{is_queue-refl}
use Rattle.card_core.proofs.Passing.{is_queue-same}
use Rattle.switch_plan.specs.GoodPlans.{SwitchPlan}
use Rattle.run_laws.specs.Interleaving.{Departure, is_from, is_last, IsEnding, AreDepartures}
use Rattle.run_laws.specs.Runs.{ports_of, setup_for, card_at, parts_under, posts_under}
use Rattle.run_laws.specs.Ends.{IsLengthUnder}
use Rattle.run_laws.specs.Crossings.{queue_to, admitted_under}
use Rattle.run_laws.proofs.Arrivals.{arrivals_first}
use Rattle.run_laws.proofs.FlowCells.{level_to, kind_to}
use Rattle.run_laws.specs.Departures.{Flow, flow_of, is_end_of, ends_of, goes_by}
use Rattle.run_laws.specs.DeparturePromises.{Leaves}
use Rattle.std_lemmas.proofs.Filters.{filter_twice, filter_same, map_filter}

-- ---- the flow of a packet
-- a packet of a unicast queue goes to the queue's output
pub only_output : (j o l : ℕ) (p : Planned) → OfOutput o l ≡ queue_of p → Has p.fan j → j ≡ o
only_output j o l p is goes = elim (cases_eq j o) [
  | inl same ↦ same
  | inr other ↦
      let none = bit_at-pow_other o j other in
      let member : Has (2 ^ o) j = subst (λ f. Has f j) (one_output o l p is) goes in
      absurd (cc)
]

-- a packet that goes to an output waits in the queue from which its flow comes
pub queue_of_flow : (j : ℕ) (p : Planned) → Has p.fan j → (q : Queue) → q ≡ queue_of p → queue_to j (level_of q) (kind_of q) ≡ q
queue_of_flow j p goes (OfOutput o l) is = ap (λ k. OfOutput k l) (only_output j o l p is goes)
queue_of_flow j p goes (OfLevel l) is = refl

-- and of what enters the queue of a flow the flow is this one
pub flow_is : (i j level : ℕ) (kind : Kind) (p : Planned) → queue_to j level kind ≡ queue_of p
    → flow_of i j p ≡ record { input = i; output = j; level = level; kind = kind }
flow_is i j level kind p is =
    ap (λ q. let f : Flow = record { input = i; output = j; level = level_of q; kind = kind_of q } in f) (sym is)
    ∙ ap (λ l. let f : Flow = record { input = i; output = j; level = l; kind = kind_of (queue_to j level kind) } in f) (level_to j level kind)
    ∙ ap (λ k. let f : Flow = record { input = i; output = j; level = level; kind = k } in f) (kind_to j level kind)

-- ---- what crosses with a departure
module _ (scheduler : Scheduler) (plan : SwitchPlan) (j : ℕ) where
  abbrev crosses : ℕ → Option Cell
  crosses t = crossed_under scheduler (setup_for plan) (posts_under scheduler plan) j t

  abbrev pub flow_to : ℕ → ℕ → Kind → Flow
  flow_to i level kind = record { input = i; output = j; level = level; kind = kind }

  ends_here : (i level : ℕ) (kind : Kind) (d : Departure) → IsEnding scheduler plan j d
      → is_from i level kind d ≡ is_end_of (flow_to i level kind) (crosses d.slot)
  ends_here i level kind d ending =
      let cell = ending.cell in
      sym (
      ap (is_end_of (flow_to i level kind)) ending.crosses
      ∙ ap (λ (b : Bool). b && is_of_flow i level kind cell) ending.last
      ∙ ap (λ x. (x == i) && (cell.level == level) && is_kind cell.kind kind) ending.input
      ∙ ap (λ x. (d.input == i) && (x == level) && is_kind cell.kind kind) ending.level
      ∙ ap (λ x. (d.input == i) && (d.level == level) && is_kind x kind) ending.kind
      )

  last_ends : (flow : Flow) (o : Option Cell) → is_end_of flow o ≡ true → is_last o ≡ true
  last_ends flow (Some cell) is = (and_parts cell.last (is_of_flow flow.input flow.level flow.kind cell) is).0
  last_ends flow None is = absurd (cc)

  module _ (slots : ℕ) (departures : List Departure) (are : AreDepartures scheduler plan slots j departures) (i level : ℕ) (kind : Kind) where
    -- the slots of the departures of a flow are its ends
    pub flow_slots : map (λ (d : Departure). d.slot) (filter (is_from i level kind) departures) ≡ ends_of scheduler plan (flow_to i level kind) slots
    flow_slots =
        let flow = flow_to i level kind in
        map_filter (λ (d : Departure). d.slot) (is_from i level kind) (λ t. is_end_of flow (crosses t)) departures
        (All-weaker (IsEnding scheduler plan j) (λ d. is_from i level kind d ≡ is_end_of flow (crosses d.slot))
        (ends_here i level kind) departures are.endings)
        ∙ ap (filter (λ t. is_end_of flow (crosses t))) are.order
        ∙ filter_twice (λ t. is_end_of flow (crosses t)) (λ t. is_last (crosses t)) (λ t. last_ends flow (crosses t)) (range_with_len 0 slots)

-- ---- the packets of a flow
module _ (scheduler : Scheduler) (plan : SwitchPlan) (slots : ℕ) where
  pub goes_is : (i j level : ℕ) (kind : Kind) (p : Planned) → goes_by scheduler plan slots (flow_to scheduler plan j i level kind) p ≡ true
      → (queue_to j level kind ≡ queue_of p) × (is_routed p ≡ true)
      × (is_admitted (card_at plan i) (parts_under scheduler plan i slots) p.arrival p ≡ true) × Has p.fan j
  goes_is i j level kind p is =
      let both = and_parts (enters (card_at plan i) (queue_to j level kind) (parts_under scheduler plan i slots) p) (has p.fan j) is in
      let admitted = is_admitted (card_at plan i) (parts_under scheduler plan i slots) p.arrival p in
      let parts = and_parts (is_routed p && is_queue (queue_to j level kind) (queue_of p)) admitted both.0 in
      let first = and_parts (is_routed p) (is_queue (queue_to j level kind) (queue_of p)) parts.0 in
      (is_queue-same (queue_to j level kind) (queue_of p) first.1, first.0, parts.1, (Decides-has p.fan j).0 both.1)

  pub leaving_goes : (i j k : ℕ) (p : Planned) → Leaves scheduler plan slots i j k p → goes_by scheduler plan slots (flow_of i j p) p ≡ true
  leaving_goes i j k p leaves =
      let q = queue_to j (level_of (queue_of p)) (kind_of (queue_of p)) in
      let queue : is_queue q (queue_of p) ≡ true =
      ap (λ r. is_queue r (queue_of p)) (queue_of_flow j p leaves.goes (queue_of p) refl) ∙ is_queue-refl (queue_of p) in
      let admitted = is_admitted (card_at plan i) (parts_under scheduler plan i slots) p.arrival p in
      and_from (is_routed p && is_queue q (queue_of p) && admitted) (has p.fan j)
      (and_from (is_routed p && is_queue q (queue_of p)) admitted (and_from (is_routed p) (is_queue q (queue_of p)) leaves.routed queue) leaves.admitted)
      ((Decides-has p.fan j).1 leaves.goes)

  module _ (ends : IsLengthUnder scheduler plan slots) (i j level : ℕ) (kind : Kind) (inside : i < ports_of plan) where
    -- those that are admitted in the run are all that go by the flow
    pub admitted_go : admitted_under scheduler plan j i level kind slots
        ≡ filter (goes_by scheduler plan slots (flow_to scheduler plan j i level kind)) (card_at plan i).packets
    admitted_go =
        let goes = goes_by scheduler plan slots (flow_to scheduler plan j i level kind) in
        let card = card_at plan i in
        let enter = λ (p : Planned). enters card (queue_to j level kind) (parts_under scheduler plan i slots) p in
        let early = λ (p : Planned). nat_lt p.arrival slots && enter p && has p.fan j in
        filter_same early goes card.packets
        (All-weaker (λ p. p.arrival < slots) (λ p. early p ≡ goes p)
        (λ p less. ap (λ (b : Bool). b && enter p && has p.fan j) (lt-ltb p.arrival slots less))
        card.packets (arrivals_first scheduler plan slots ends i inside))

    module _ (departures : List Departure) (are : AreDepartures scheduler plan slots j departures) (below : level < LEVELS) where
      -- so there are as many ends as packets
      pub ends_count : length (ends_of scheduler plan (flow_to scheduler plan j i level kind) slots)
          ≡ count_by (goes_by scheduler plan slots (flow_to scheduler plan j i level kind)) (card_at plan i).packets
      ends_count =
          let mine = filter (is_from i level kind) departures in
          let goes = goes_by scheduler plan slots (flow_to scheduler plan j i level kind) in
          ap length (sym (flow_slots scheduler plan j slots departures are i level kind))
          ∙ length-map mine (λ (d : Departure). d.slot)
          ∙ sym (length-map mine (λ (d : Departure). d.message))
          ∙ ap length (are.flows i level kind inside below)
          ∙ length-map (admitted_under scheduler plan j i level kind slots) (message_of (card_at plan i))
          ∙ ap length admitted_go
          ∙ length-filter goes (card_at plan i).packets
