-- The cells of a queue that go to an output are those of the messages of its admitted packets that go there.
use Rattle.std.proofs.Common.{◌≡◌, ◌≢◌, ◌∙◌, ℕ, suc, ◌+◌, ◌&&◌, ◌==◌, not, nat_lt, Bool, true, false, List, [], ◌∷◌, ◌++◌, map, filter, Option, Some}
use Rattle.std.proofs.Common.{slice_get, refl, sym, ap, arith, if◌then◌else◌, inl, inr}
use Rattle.std.specs.List.{flat_map}
use Rattle.std.proofs.lemmas.Bool.{and_parts, cases_Bool, eq-eqb}
use Rattle.std.proofs.lemmas.List.{map-append}
use Rattle.std.proofs.lemmas.List.Elements.{filter-append}
use Rattle.slot_match.specs.declared.matching.Served.{Served}
use Rattle.slot_histories.specs.Tests.{has}
use Rattle.multicast_queue.specs.FanQueues.{FanCell}
use Rattle.cell_cutter.specs.declared.cell.Cell.{Cell}
use Rattle.cell_cutter.specs.Cells.{cells_of_message}
use Rattle.voq_banks.specs.CellQueues.{names_of_packet, cells_with_fan}
use Rattle.card_core.specs.declared.plan.Planned.{Planned}
use Rattle.card_core.specs.Plans.{Plan, Queue, IsGoodPlan, is_queue, queue_of, size_of, level_of, kind_of, message_of, cell_named}
use Rattle.card_core.specs.Queues.{before, is_routed, is_admitted, enters, cells_admitted}
use Rattle.card_core.specs.Grants.{to_output, packets_to}
use Rattle.card_core.proofs.Admitting.{entered-is}
use Rattle.card_core.proofs.Messaging.{all_go, none_goes, message-long, packet-cells}
use Rattle.card_core.proofs.Passing.{is_queue-same}
use Rattle.run_laws.proofs.FirstParts.{AllHold}

-- the cells of a plan's names
abbrev pub named : Plan → List FanCell → List Cell
named plan cells = map (λ cell. cell_named plan cell.name) cells

-- the message is of a packet that enters the queue and goes to the output
pub record IsMessageTo (plan : Plan) (q : Queue) (j : ℕ) (message : List ℕ) : Type 0 where
  pub place : ℕ
  pub packet : Planned
  pub there : slice_get plan.packets place ≡ Some packet
  pub queue : q ≡ queue_of packet
  pub routed : packet.fan ≢ 0
  pub goes : has packet.fan j ≡ true
  pub is : message ≡ message_of plan packet

-- ---- the cells of a packet
pub some_fan : (p : Planned) → is_routed p ≡ true → p.fan ≢ 0
some_fan p routed none = let e = eq-eqb p.fan 0 none in let r : not (p.fan == 0) ≡ true = routed in let r' : not true ≡ true = rw e at r in absurd (cc)

module _ (plan : Plan) (good : IsGoodPlan plan) (q : Queue) (j : ℕ) where
  -- the cells of the queue's messages
  abbrev cells_of : List ℕ → List Cell
  cells_of message = cells_of_message plan.card (level_of q) (kind_of q) message

  queue-cells : (k : ℕ) (p : Planned) → slice_get plan.packets k ≡ Some p → q ≡ queue_of p
      → named plan (cells_with_fan k (size_of p) p.fan) ≡ cells_of (message_of plan p)
  queue-cells k p there is =
      packet-cells plan good k p there ∙ ap (λ r. cells_of_message plan.card (level_of r) (kind_of r) (message_of plan p)) (sym is)

  cells_step : (k : ℕ) (p : Planned) → slice_get plan.packets k ≡ Some p → (cells : List FanCell) (packets : List Planned) (b : Bool)
      → (b ≡ true → q ≡ queue_of p) → named plan (to_output j cells) ≡ flat_map cells_of (map (message_of plan) packets)
      → named plan (to_output j ((if b then cells_with_fan k (size_of p) p.fan else []) ++ cells)) ≡ flat_map cells_of
      (map (message_of plan) (if b && has p.fan j then p ∷ packets else packets))
  cells_step k p there cells packets true of rest =
      let own = cells_with_fan k (size_of p) p.fan in
      let kept = λ (h : Bool). flat_map cells_of (map (message_of plan) (if h then p ∷ packets else packets)) in
      ap (named plan) (filter-append (λ (cell : FanCell). has cell.fan j) own cells)
      ∙ elim (cases_Bool (has p.fan j)) [
        | inl goes ↦
            ap (λ w. named plan (w ++ to_output j cells)) (all_go j p.fan (names_of_packet k (size_of p)) goes)
            ∙ map-append (λ (cell : FanCell). cell_named plan cell.name) own (to_output j cells)
            ∙ ap (λ w. w ++ named plan (to_output j cells)) (queue-cells k p there (of refl))
            ∙ ap (λ w. cells_of (message_of plan p) ++ w) rest ∙ ap kept (sym goes)
        | inr none ↦ ap (λ w. named plan (w ++ to_output j cells)) (none_goes j p.fan (names_of_packet k (size_of p)) none) ∙ rest ∙ ap kept (sym none)
      ]
  cells_step k p there cells packets false of rest = rest

  hold_step : (k : ℕ) (p : Planned) → slice_get plan.packets k ≡ Some p → (packets : List Planned) (b h : Bool) → (b ≡ true → (q ≡ queue_of p) × (p.fan ≢ 0))
      → has p.fan j ≡ h
      → AllHold (IsMessageTo plan q j) (map (message_of plan) packets)
      → AllHold (IsMessageTo plan q j) (map (message_of plan) (if b && h then p ∷ packets else packets))
  hold_step k p there packets true true of goes rest = (
    record { place = k; packet = p; there = there; queue = (of refl).0; routed = (of refl).1; goes = goes; is = refl },
    omega (arith, message-long plan good k p there),
    rest,
  )
  hold_step k p there packets true false of goes rest = rest
  hold_step k p there packets false h of goes rest = rest

  module _ (served : List (Option Served)) (t : ℕ) where
    abbrev test : Planned → Bool
    test packet = nat_lt packet.arrival t && enters plan q served packet && has packet.fan j

    entering : (p : Planned) → nat_lt p.arrival t && enters plan q served p ≡ true → (q ≡ queue_of p) × (p.fan ≢ 0)
    entering p is =
        let both = and_parts (nat_lt p.arrival t) (enters plan q served p) is in
        let parts = and_parts (is_routed p && is_queue q (queue_of p)) (is_admitted plan served p.arrival p) both.1 in
        let first = and_parts (is_routed p) (is_queue q (queue_of p)) parts.0 in
        (is_queue-same q (queue_of p) first.1, some_fan p first.0)

    -- some packets of the plan, of which k is the first one's number
    abbrev AreFrom : ℕ → List Planned → Type 0
    AreFrom k ps = (i : ℕ) (p : Planned) → slice_get ps i ≡ Some p → slice_get plan.packets (k + i) ≡ Some p

    here_is : (k : ℕ) (p : Planned) (ps : List Planned) → AreFrom k (p ∷ ps) → slice_get plan.packets k ≡ Some p
    here_is k p ps there = ap (slice_get plan.packets) (let e : k ≡ k + 0 = omega arith in e) ∙ there 0 p refl

    others_are : (k : ℕ) (p : Planned) (ps : List Planned) → AreFrom k (p ∷ ps) → AreFrom (k + 1) ps
    others_are k p ps there i r at = ap (slice_get plan.packets) (let e : k + 1 + i ≡ k + suc i = omega arith in e) ∙ there (suc i) r at

    cells_from : (k : ℕ) (ps : List Planned) → AreFrom k ps
        → named plan (to_output j (cells_admitted plan q served t k ps)) ≡ flat_map cells_of (map (message_of plan) (filter test ps))
    cells_from k [] there = refl
    cells_from k (p ∷ ps) there =
        cells_step k p (here_is k p ps there) (cells_admitted plan q served t (k + 1) ps) (filter test ps)
        (nat_lt p.arrival t && enters plan q served p) (λ b. (entering p b).0) (cells_from (k + 1) ps (others_are k p ps there))

    hold_from : (k : ℕ) (ps : List Planned) → AreFrom k ps → AllHold (IsMessageTo plan q j) (map (message_of plan) (filter test ps))
    hold_from k [] there = tt
    hold_from k (p ∷ ps) there =
        hold_step k p (here_is k p ps there) (filter test ps) (nat_lt p.arrival t && enters plan q served p) (has p.fan j) (entering p) refl
        (hold_from (k + 1) ps (others_are k p ps there))

    all_from : AreFrom 0 plan.packets
    all_from i p at = ap (slice_get plan.packets) (let e : 0 + i ≡ i = omega arith in e) ∙ at

    pub packets_cells : named plan (to_output j (before plan q served t).entered) ≡ flat_map (cells_of_message plan.card (level_of q) (kind_of q))
        (map (message_of plan) (packets_to plan q j served t))
    packets_cells = ap (λ cells. named plan (to_output j cells)) (entered-is plan q served good t) ∙ cells_from 0 plan.packets all_from

    pub packets_hold : AllHold (IsMessageTo plan q j) (map (message_of plan) (packets_to plan q j served t))
    packets_hold = hold_from 0 plan.packets all_from
