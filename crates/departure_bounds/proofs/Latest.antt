-- A packet's last cell crosses in the slot after all its cells were granted, at the latest.
use Rattle.std.proofs.Common.{◌≡◌, ◌∙◌, ℕ, zero, suc, ◌+◌, ◌-◌, ◌<◌, ◌≤◌, ◌&&◌, nat_lt, Bool, true, false, List, [], ◌∷◌, ◌++◌, map, filter, take, length}
use Rattle.std.proofs.Common.{length-append, count_by, Option, None, Some, slice_get, slice_index_or, refl, sym, ap, arith, if◌then◌else◌, inl, inr}
use Rattle.std.proofs.Common.{append_assoc}
use Rattle.std.specs.List.{range_with_len, flat_map}
use Rattle.std.specs.Option.{option_to_list}
use Rattle.std.proofs.lemmas.Bool.{cases_lt}
use Rattle.std.proofs.lemmas.List.{append-nil, length-map, map-append}
use Rattle.std.proofs.lemmas.List.Elements.{filter-append, filter_agree}
use Rattle.std.proofs.lemmas.List.Sums.{length-filter}
use Rattle.std.proofs.Math.Bool.{and_assoc}
use Rattle.std_lemmas.proofs.Filters.{count-cons, take_range, slot_of}
use Rattle.rotating_pick.specs.declared.kinds.Kind.{Kind}
use Rattle.cell_cutter.specs.declared.cell.Cell.{Cell}
use Rattle.cell_cutter.specs.Cells.{cells_of_message}
use Rattle.multicast_queue.specs.FanQueues.{FanCell}
use Rattle.slot_match.specs.declared.matching.Served.{Served}
use Rattle.eslip_rounds.specs.Schedulers.{Scheduler, IsScheduler}
use Rattle.slot_histories.specs.Slots.{crossed_under}
use Rattle.slot_histories.specs.Tests.{has}
use Rattle.card_core.specs.declared.plan.Planned.{Planned}
use Rattle.card_core.specs.Plans.{Plan, Queue, IsGoodPlan, level_of, kind_of, message_of, cell_named, arriving}
use Rattle.card_core.specs.Queues.{waiting, before as queue_before, queue_in, coming, enters}
use Rattle.card_core.specs.Grants.{serves, first_of, granted_to, to_output, packets_to}
use Rattle.card_core.specs.Deliveries.{is_of_flow, flow_cells}
use Rattle.card_core.proofs.Admitting.{entered_stays}
use Rattle.switch_plan.specs.GoodPlans.{SwitchPlan, IsGood}
use Rattle.run_laws.specs.Runs.{ports_of, setup_for, card_at, parts_under, posts_under}
use Rattle.run_laws.specs.Crossings.{cells_under, queue_to}
use Rattle.run_laws.proofs.Base.{good-card, before-same, granted_to-same}
use Rattle.run_laws.proofs.FlowCells.{level_to, kind_to, granted_cells, flow_first}
use Rattle.run_laws.proofs.PacketCells.{IsMessageTo, named, packets_cells, packets_hold}
use Rattle.run_laws.specs.Departures.{Flow, is_end_of, ends_of, goes_by}
use Rattle.departure_bounds.proofs.FirstCells.{lasts, lasts-cons, lasts-append, first_fewer, all_end, early, early_enough}

-- the slot d slots after slot t
abbrev after : ℕ → ℕ → ℕ
after t zero = t
after t (suc d) = suc (after t d)

after-is : (t d : ℕ) → after t d ≡ t + d
after-is t zero = omega arith
after-is t (suc d) = omega (arith, after-is t d)

abbrev flow_to : ℕ → ℕ → ℕ → Kind → Flow
flow_to i j level kind = record { input = i; output = j; level = level; kind = kind }

-- ---- the last cells of a flow, counted by slots
module _ (scheduler : Scheduler) (plan : SwitchPlan) (slots i j level : ℕ) (kind : Kind) where
  abbrev flow : Flow
  flow = flow_to i j level kind

  abbrev crosses : ℕ → Option Cell
  crosses t = crossed_under scheduler (setup_for plan) (posts_under scheduler plan) j t

  by_tests : (cell : Cell) (f l : Bool) → cell.last ≡ l → lasts (if f then cell ∷ [] else []) ≡ (if l && f then 1 else 0)
  by_tests cell true l is =
      let one : ◌≡◌ {A = ℕ} (if cell.last then 1 else 0) (if l then 1 else 0) = ap (λ (b : Bool). if b then 1 else 0) is in
      lasts-cons cell [] ∙ by_last l one where
        by_last : (l : Bool) → ◌≡◌ {A = ℕ} (if cell.last then 1 else 0) (if l then 1 else 0)
            → (if cell.last then 1 else 0) + lasts [] ≡ (if l && true then 1 else 0)
        by_last true one = omega (arith, one)
        by_last false one = omega (arith, one)
  by_tests cell false true is = refl
  by_tests cell false false is = refl

  one_end : (o : Option Cell) → lasts (flow_cells i level kind (option_to_list o)) ≡ (if is_end_of flow o then 1 else 0)
  one_end None = refl
  one_end (Some cell) = by_tests cell (is_of_flow i level kind cell) cell.last refl

  end_count : (ts : List ℕ) → lasts (flow_cells i level kind (flat_map (λ t. option_to_list (crosses t)) ts)) ≡ count_by (λ t. is_end_of flow (crosses t)) ts
  end_count [] = refl
  end_count (t ∷ ts) =
      let here = option_to_list (crosses t) in
      let rest = flat_map (λ t. option_to_list (crosses t)) ts in
      let test : ℕ → Bool = λ t. is_end_of flow (crosses t) in
      let split : lasts (flow_cells i level kind (here ++ rest)) ≡ lasts (flow_cells i level kind here ++ flow_cells i level kind rest) =
      ap lasts (filter-append (is_of_flow i level kind) here rest) in
      let parts = lasts-append (flow_cells i level kind here) (flow_cells i level kind rest) in
      omega (arith, split, parts, one_end (crosses t), end_count ts, count-cons test t ts)

  -- before the end of number r, r last cells crossed
  number_lasts : (r t : ℕ) → slice_get (ends_of scheduler plan flow slots) r ≡ Some t
      → (t < slots) × (lasts (flow_cells i level kind (cells_under scheduler plan j t)) ≡ r)
  number_lasts r t is =
      let test : ℕ → Bool = λ u. is_end_of flow (crosses u) in
      let o = slot_of test slots r t is in
      (o.0, end_count (range_with_len 0 t) ∙ ap (count_by test) (sym (take_range 0 slots t (omega (arith, o.0)))) ∙ o.2)

-- ---- the cells of a queue
module _ (scheduler : Scheduler) (scheduling : IsScheduler scheduler) (plan : SwitchPlan) (good : IsGood plan) (i j level : ℕ) (kind : Kind)
    (inside : i < ports_of plan) where
  abbrev card : Plan
  card = card_at plan i

  abbrev q : Queue
  q = queue_to j level kind

  abbrev entered : ℕ → List FanCell
  entered t = (queue_before card q (parts_under scheduler plan i t) t).entered

  abbrev granted : ℕ → List FanCell
  granted t = granted_to card q j (parts_under scheduler plan i t) t

  card_good : IsGoodPlan card
  card_good = (good-card plan good i inside).good

  -- what entered stays, and so does what was granted
  entered_more : (t : ℕ) → (more : List FanCell) × (entered (suc t) ≡ entered t ++ more)
  entered_more t =
      let parts = parts_under scheduler plan i (suc t) in
      let s = queue_in card q parts t in
      let old = queue_before card q parts t in (
        coming card q old (arriving card t),
        entered_stays q s (slice_index_or parts t None) (waiting s)
            ∙ ap (λ b. b.entered ++ coming card q old (arriving card t)) (before-same scheduler plan i t (suc t) (omega arith) q),
      )

  entered_later : (t d : ℕ) → (more : List FanCell) × (entered (after t d) ≡ entered t ++ more)
  entered_later t zero = ([], sym (append-nil (entered t)))
  entered_later t (suc d) =
      let (more, is) = entered_later t d in
      let (last, next) = entered_more (after t d) in
      (more ++ last, next ∙ ap (λ xs. xs ++ last) is ∙ append_assoc (entered t) more last)

  granted_more : (t : ℕ) → length (granted t) ≤ length (granted (suc t))
  granted_more t =
      let parts = parts_under scheduler plan i (suc t) in
      let first = if serves q j (slice_index_or parts t None) then first_of (waiting (queue_in card q parts t)) else [] in
      let same = ap length (granted_to-same scheduler plan i t (suc t) (omega arith) q j) in
      omega (arith, same, length-append (granted_to card q j parts t) first)

  granted_later : (t d : ℕ) → length (granted t) ≤ length (granted (after t d))
  granted_later t zero = omega arith
  granted_later t (suc d) = omega (arith, granted_later t d, granted_more (after t d))

  -- ---- as cells of messages
  own_cells : (ms : List (List ℕ)) → flat_map (cells_of_message i level kind) ms ≡ flat_map (cells_of_message card.card (level_of q) (kind_of q)) ms
  own_cells ms =
      ap (λ x. flat_map (cells_of_message x level kind) ms) (sym (good-card plan good i inside).number)
      ∙ ap (λ x. flat_map (cells_of_message card.card x kind) ms) (sym (level_to j level kind))
      ∙ ap (λ x. flat_map (cells_of_message card.card (level_of q) x) ms) (sym (kind_to j level kind))

  abbrev cells_to_come : ℕ → List Cell
  cells_to_come t = named card (to_output j (entered t))

  abbrev crossed : ℕ → List Cell
  crossed t = flow_cells i level kind (cells_under scheduler plan j t)

  -- those that crossed are the first of those that entered
  crossed_first : (t : ℕ) → (rest : List Cell) × (cells_to_come t ≡ crossed (suc t) ++ rest)
  crossed_first t =
      let parts = parts_under scheduler plan i t in
      let (rest, is) = flow_first scheduler scheduling plan good i j level kind inside t in
      (rest, packets_cells card card_good q j parts t ∙ sym (own_cells (map (message_of card) (packets_to card q j parts t))) ∙ is)

  crossed_length : (t : ℕ) → length (crossed (suc t)) ≡ length (granted t)
  crossed_length t =
      ap length (granted_cells scheduler scheduling plan good i j level kind inside t) ∙ length-map (granted t) (λ (c : FanCell). cell_named card c.name)

  -- where all that entered by one slot is granted by another, as many last cells crossed
  lasts_crossed : (t d : ℕ) → length (to_output j (entered t)) ≤ length (granted (after t d)) → lasts (cells_to_come t) ≤ lasts (crossed (suc (after t d)))
  lasts_crossed t d few =
      let (more, is) = entered_later t d in
      let (rest, first) = crossed_first (after t d) in
      let split : cells_to_come (after t d) ≡ cells_to_come t ++ named card (to_output j more) =
      ap (λ xs. named card (to_output j xs)) is
      ∙ ap (named card) (filter-append (λ (cell : FanCell). has cell.fan j) (entered t) more)
      ∙ map-append (λ (c : FanCell). cell_named card c.name) (to_output j (entered t)) (to_output j more) in
      first_fewer (cells_to_come t) (named card (to_output j more)) (crossed (suc (after t d))) rest (sym split ∙ first)
      (omega (arith, few, crossed_length (after t d), length-map (to_output j (entered t)) (λ (c : FanCell). cell_named card c.name)))

  module _ (slots : ℕ) where
    abbrev parts : List (Option Served)
    parts = parts_under scheduler plan i slots

    abbrev goes : Planned → Bool
    goes = goes_by scheduler plan slots (flow_to i j level kind)

    packets_early : (t : ℕ) → packets_to card q j parts t ≡ filter (early goes t) card.packets
    packets_early t =
        filter_agree (λ p. nat_lt p.arrival t && enters card q parts p && has p.fan j) (early goes t)
        (λ p. and_assoc (nat_lt p.arrival t) (enters card q parts p) (has p.fan j)) card.packets

    -- each packet of the queue that arrived has a last cell
    lasts_entered : (t : ℕ) → t ≤ slots → count_by (early goes t) card.packets ≤ lasts (cells_to_come t)
    lasts_entered t few =
        let messages = map (message_of card) (packets_to card q j parts t) in
        let cells : cells_to_come t ≡ flat_map (cells_of_message card.card (level_of q) (kind_of q)) messages =
        ap (λ s. named card (to_output j s.entered)) (sym (before-same scheduler plan i t slots few q)) ∙ packets_cells card card_good q j parts t in
        let same : lasts (cells_to_come t) ≡ lasts (flat_map (cells_of_message card.card (level_of q) (kind_of q)) messages) = ap lasts cells in
        let count : length messages ≡ count_by (early goes t) card.packets =
        length-map (packets_to card q j parts t) (message_of card) ∙ ap length (packets_early t) ∙ length-filter (early goes t) card.packets in
        omega (arith, same, count, all_end card.card (level_of q) (kind_of q) (IsMessageTo card q j) messages (packets_hold card card_good q j parts t))

    pub latest : (most k : ℕ) (p : Planned) → slice_get card.packets k ≡ Some p → goes p ≡ true
        → length (to_output j (entered (p.arrival + 1))) ≤ length (granted (p.arrival + 1 + most))
        → (t : ℕ) → slice_get (ends_of scheduler plan (flow_to i j level kind) slots) (count_by goes (take k card.packets)) ≡ Some t
        → t ≤ p.arrival + (most + 1)
    latest most k p found passes waits t is = elim (cases_lt (p.arrival + (most + 1)) t) [
      | inr soon ↦ soon
      | inl late ↦
          let d = t - 1 - (p.arrival + 1) in
          let there = after-is (p.arrival + 1) d in
          absurd (too_late d (omega (arith, late, there)) (omega (arith, late)))
    ] where
      too_late : (d : ℕ) → suc (after (p.arrival + 1) d) ≡ t → most ≤ d → ⊥
      too_late d at enough =
          let a = p.arrival + 1 in
          let (below, number) = number_lasts scheduler plan slots i j level kind (count_by goes (take k card.packets)) t is in
          let there : after (a + most) (d - most) ≡ after a d = omega (arith, enough, after-is (a + most) (d - most), after-is a d) in
          let same : length (granted (after (a + most) (d - most))) ≡ length (granted (after a d)) = ap (λ u. length (granted u)) there in
          let all : length (to_output j (entered a)) ≤ length (granted (after a d)) = omega (arith, waits, granted_later (a + most) (d - most), same) in
          let crossed_by : lasts (crossed (suc (after a d))) ≡ lasts (crossed t) = ap (λ u. lasts (crossed u)) at in
          let own = early_enough goes a card.packets k p card_good.rising found (omega arith) passes in
          let few = lasts_entered a (omega (arith, at, below, after-is a d)) in
          omega (arith, number, crossed_by, lasts_crossed a d all, own, few)
