-- No packet leaves before it arrived and then as many slots passed as it has cells.
use Rattle.std.proofs.Common.{◌≡◌, ◌∙◌, ℕ, zero, suc, ◌+◌, ◌-◌, ◌<◌, ◌≤◌, ◌&&◌, nat_lt, Bool, true, false, List, [], ◌∷◌, ◌++◌, map, filter, take}
use Rattle.std.proofs.Common.{length, length-append, count_by, sum_by, Option, None, Some, slice_get, slice_index_or, refl, sym, ap, arith}
use Rattle.std.proofs.Common.{if◌then◌else◌, inl, inr}
use Rattle.std.specs.List.{range_with_len, flat_map}
use Rattle.std.specs.Option.{option_to_list}
use Rattle.std.proofs.lemmas.Bool.{cases_lt}
use Rattle.std.proofs.lemmas.List.{length-map, map-append, take-append-le}
use Rattle.std.proofs.lemmas.List.Elements.{filter-append, filter_agree}
use Rattle.std.proofs.lemmas.List.Sums.{length-filter, sum_by_more}
use Rattle.std.proofs.lemmas.Option.{get_or_from_slice_get, slice_get_within}
use Rattle.std.proofs.Math.Seq.{take-append_seam}
use Rattle.std.proofs.Math.Bool.{and_assoc}
use Rattle.rotating_pick.specs.declared.kinds.Kind.{Kind}
use Rattle.cell_cutter.specs.declared.cell.Cell.{Cell}
use Rattle.cell_cutter.specs.Messages.{cells_in}
use Rattle.cell_cutter.specs.Cells.{cells_of_message}
use Rattle.multicast_queue.specs.FanQueues.{FanCell}
use Rattle.slot_match.specs.declared.matching.Served.{Served}
use Rattle.eslip_rounds.specs.Schedulers.{Scheduler, IsScheduler}
use Rattle.slot_histories.specs.Slots.{crossed_under}
use Rattle.slot_histories.specs.Tests.{has}
use Rattle.card_core.specs.declared.plan.Planned.{Planned}
use Rattle.card_core.specs.Plans.{Plan, Queue, IsGoodPlan, level_of, kind_of, size_of, message_of, cell_named}
use Rattle.card_core.specs.Queues.{waiting, before as queue_before, queue_in, enters}
use Rattle.card_core.specs.Grants.{serves, first_of, granted_to, to_output, packets_to}
use Rattle.card_core.specs.Deliveries.{is_of_flow, flow_cells}
use Rattle.card_core.proofs.CellCounts.{granted_few}
use Rattle.card_core.proofs.Messaging.{message-long}
use Rattle.switch_plan.specs.GoodPlans.{SwitchPlan, IsGood}
use Rattle.run_laws.specs.Runs.{ports_of, setup_for, card_at, parts_under, posts_under}
use Rattle.run_laws.specs.Ends.{IsLengthUnder}
use Rattle.run_laws.specs.Crossings.{cells_under, queue_to}
use Rattle.run_laws.proofs.Arrivals.{arrivals_first}
use Rattle.run_laws.proofs.Base.{good-card, servable, before-same, granted_to-same}
use Rattle.run_laws.proofs.FlowCells.{level_to, kind_to, granted_cells, flow_first}
use Rattle.run_laws.proofs.PacketCells.{named, packets_cells}
use Rattle.run_laws.specs.Departures.{Flow, is_end_of, ends_of, goes_by}
use Rattle.std_lemmas.proofs.Filters.{count-cons, count_less, sum_most, place_in, place_map, take_range, range_get, slot_of}
use Rattle.run_laws.proofs.FlowEnds.{flow_to}
use Rattle.run_laws.proofs.Earlier.{early, early_first, early_few}
use Rattle.run_laws.proofs.LastCells.{lasts, weight, lasts-cons, lasts-append, whole_messages, cells_weigh}

-- ---- one cell is granted in a slot at most
module _ (plan : Plan) (q : Queue) (j : ℕ) (served : List (Option Served)) where
  abbrev granted : ℕ → ℕ
  granted t = length (granted_to plan q j served t)

  first_few : (b : Bool) (w : List FanCell) → length (if b then first_of w else []) ≤ 1
  first_few true [] = omega arith
  first_few true (c ∷ w) = omega arith
  first_few false w = omega arith

  granted_next : (t : ℕ) → (granted t ≤ granted (suc t)) × (granted (suc t) ≤ granted t + 1)
  granted_next t =
      let b = serves q j (slice_index_or served t None) in
      let w = waiting (queue_in plan q served t) in
      let both : granted (suc t) ≡ granted t + length (if b then first_of w else []) =
      length-append (granted_to plan q j served t) (if b then first_of w else []) in
      (omega (arith, both), omega (arith, both, first_few b w))

  granted_later : (t n : ℕ) → (granted t ≤ granted (t + n)) × (granted (t + n) ≤ granted t + n)
  granted_later t zero = let e : granted (t + 0) ≡ granted t = ap granted (let s : t + 0 ≡ t = omega arith in s) in (omega (arith, e), omega (arith, e))
  granted_later t (suc n) =
      let e : granted (t + suc n) ≡ granted (suc (t + n)) = ap granted (let s : t + suc n ≡ suc (t + n) = omega arith in s) in
      let so_far = granted_later t n in
      let next = granted_next (t + n) in
      (omega (arith, e, so_far.0, next.0), omega (arith, e, so_far.1, next.1))

  pub granted_from : (a t : ℕ) → granted a < granted t → granted t + a ≤ granted a + t
  granted_from a t more = elim (cases_lt t a) [
    | inl less ↦
        let e : granted (t + (a - t)) ≡ granted a = ap granted (let s : t + (a - t) ≡ a = omega (arith, less) in s) in
        absurd (omega (arith, more, e, (granted_later t (a - t)).0))
    | inr from ↦
        let e : granted (a + (t - a)) ≡ granted t = ap granted (let s : a + (t - a) ≡ t = omega (arith, from) in s) in
        omega (arith, e, from, (granted_later a (t - a)).1)
  ]

-- ---- the last cells of a flow, counted by slots
module _ (scheduler : Scheduler) (plan : SwitchPlan) (slots i j level : ℕ) (kind : Kind) where
  abbrev flow : Flow
  flow = flow_to scheduler plan j i level kind

  abbrev crosses : ℕ → Option Cell
  crosses t = crossed_under scheduler (setup_for plan) (posts_under scheduler plan) j t

  by_tests : (cell : Cell) (f l : Bool) → cell.last ≡ l → lasts (if f then cell ∷ [] else []) ≡ (if l && f then 1 else 0)
  by_tests cell true true is =
      let one : ◌≡◌ {A = ℕ} (if cell.last then 1 else 0) 1 = ap (λ (b : Bool). if b then 1 else 0) is in
      omega (arith, lasts-cons cell [], one)
  by_tests cell true false is =
      let none : ◌≡◌ {A = ℕ} (if cell.last then 1 else 0) 0 = ap (λ (b : Bool). if b then 1 else 0) is in
      omega (arith, lasts-cons cell [], none)
  by_tests cell false true is = refl
  by_tests cell false false is = refl

  one_end : (o : Option Cell) → lasts (flow_cells i level kind (option_to_list o)) ≡ (if is_end_of flow o then 1 else 0)
  one_end None = refl
  one_end (Some cell) = by_tests cell (is_of_flow i level kind cell) cell.last refl

  end_count : (ts : List ℕ) → lasts (flow_cells i level kind (flat_map (λ t. option_to_list (crosses t)) ts)) ≡ count_by (λ t. is_end_of flow (crosses t)) ts
  end_count [] = refl
  end_count (t ∷ ts) =
      let here = option_to_list (crosses t) in
      let rest = flat_map (λ t. option_to_list (crosses t)) ts in
      let test : ℕ → Bool = λ t. is_end_of flow (crosses t) in
      let split : lasts (flow_cells i level kind (here ++ rest)) ≡ lasts (flow_cells i level kind here ++ flow_cells i level kind rest) =
      ap lasts (filter-append (is_of_flow i level kind) here rest) in
      omega (arith, split, lasts-append (flow_cells i level kind here) (flow_cells i level kind rest), one_end (crosses t), end_count ts, count-cons test t ts)

  -- up to the end of number r more than r last cells crossed
  pub number_lasts : (r t : ℕ) → slice_get (ends_of scheduler plan flow slots) r ≡ Some t
      → (t < slots) × (r < lasts (flow_cells i level kind (cells_under scheduler plan j (suc t))))
  number_lasts r t is =
      let test : ℕ → Bool = λ u. is_end_of flow (crosses u) in
      let o = slot_of test slots r t is in
      let less = count_less test (range_with_len 0 slots) t (suc t) t (range_get 0 slots t t o.0 (omega arith)) o.1 (omega arith) in
      let upto : count_by test (take (suc t) (range_with_len 0 slots)) ≡ count_by test (range_with_len 0 (suc t)) =
      ap (count_by test) (take_range 0 slots (suc t) (omega (arith, o.0))) in
      (o.0, omega (arith, less, upto, o.2, end_count (range_with_len 0 (suc t))))

-- ---- the messages of a flow
module _ (scheduler : Scheduler) (scheduling : IsScheduler scheduler) (plan : SwitchPlan) (good : IsGood plan) (slots : ℕ)
    (ends : IsLengthUnder scheduler plan slots) (i j level : ℕ) (kind : Kind) (inside : i < ports_of plan) where
  abbrev card : Plan
  card = card_at plan i

  abbrev q : Queue
  q = queue_to j level kind

  abbrev parts : List (Option Served)
  parts = parts_under scheduler plan i slots

  abbrev goes : Planned → Bool
  goes = goes_by scheduler plan slots (flow_to scheduler plan j i level kind)

  abbrev all_messages : List (List ℕ)
  all_messages = map (message_of card) (filter goes card.packets)

  abbrev messages_before : ℕ → List (List ℕ)
  messages_before t = map (message_of card) (packets_to card q j parts t)

  card_good : IsGoodPlan card
  card_good = (good-card plan good i inside).good

  packets_early : (t : ℕ) → packets_to card q j parts t ≡ filter (early goes t) card.packets
  packets_early t =
      filter_agree (λ p. nat_lt p.arrival t && enters card q parts p && has p.fan j) (early goes t)
      (λ p. and_assoc (nat_lt p.arrival t) (enters card q parts p) (has p.fan j)) card.packets

  -- those of the packets before a slot are the first
  messages_first : (t : ℕ) → (more : List (List ℕ)) × (all_messages ≡ messages_before t ++ more)
  messages_first t =
      let (rest, is) = early_first goes t card.packets card_good.rising in (
        map (message_of card) rest,
        ap (map (message_of card)) (is ∙ ap (λ ps. ps ++ rest) (sym (packets_early t)))
            ∙ map-append (message_of card) (packets_to card q j parts t) rest,
      )

  own_cells : (ms : List (List ℕ)) → flat_map (cells_of_message i level kind) ms ≡ flat_map (cells_of_message card.card (level_of q) (kind_of q)) ms
  own_cells ms =
      ap (λ x. flat_map (cells_of_message x level kind) ms) (sym (good-card plan good i inside).number)
      ∙ ap (λ x. flat_map (cells_of_message card.card x kind) ms) (sym (level_to j level kind))
      ∙ ap (λ x. flat_map (cells_of_message card.card (level_of q) x) ms) (sym (kind_to j level kind))

  -- the flow's cells are the first of all cells of these messages
  flow_part : (t : ℕ) → t ≤ slots → (rest : List Cell)
      × (flat_map (cells_of_message i level kind) (messages_before t) ≡ flow_cells i level kind (cells_under scheduler plan j (suc t)) ++ rest)
  flow_part t few =
      let now = parts_under scheduler plan i t in
      let (rest, is) = flow_first scheduler scheduling plan good i j level kind inside t in (
        rest,
        own_cells (messages_before t)
            ∙ sym (packets_cells card card_good q j parts t)
            ∙ ap (λ s. named card (to_output j s.entered)) (before-same scheduler plan i t slots few q)
            ∙ packets_cells card card_good q j now t
            ∙ sym (own_cells (map (message_of card) (packets_to card q j now t)))
            ∙ is,
      )

  flow_length : (t : ℕ) → t ≤ slots → length (flow_cells i level kind (cells_under scheduler plan j (suc t))) ≡ length (granted_to card q j parts t)
  flow_length t few =
      ap length (granted_cells scheduler scheduling plan good i j level kind inside t)
      ∙ length-map (granted_to card q j (parts_under scheduler plan i t) t) (λ (c : FanCell). cell_named card c.name)
      ∙ ap length (sym (granted_to-same scheduler plan i t slots few q j))

  -- at the end of number r the cells of r + 1 messages were granted
  granted_least : (r t : ℕ) → slice_get (ends_of scheduler plan (flow_to scheduler plan j i level kind) slots) r ≡ Some t
      → sum_by weight (take (suc r) all_messages) ≤ length (granted_to card q j parts t)
  granted_least r t is =
      let (below, number) = number_lasts scheduler plan slots i j level kind r t is in
      let flow_so_far = flow_cells i level kind (cells_under scheduler plan j (suc t)) in
      let (rest, first) = flow_part t (omega (arith, below)) in
      let (more, all) = messages_first t in
      let taken : take (length flow_so_far) (flat_map (cells_of_message i level kind) (messages_before t)) ≡ flow_so_far =
      ap (take (length flow_so_far)) first ∙ take-append_seam flow_so_far rest in
      let same : lasts (take (length flow_so_far) (flat_map (cells_of_message i level kind) (messages_before t))) ≡ lasts flow_so_far = ap lasts taken in
      let whole = whole_messages i level kind (messages_before t) (length flow_so_far) r (omega (arith, same, number)) in
      let front : sum_by weight (take (suc r) all_messages) ≡ sum_by weight (take (suc r) (messages_before t)) =
      ap (λ ms. sum_by weight (take (suc r) ms)) all ∙ ap (sum_by weight) (take-append-le (suc r) (messages_before t) more (omega (arith, whole.1))) in
      omega (arith, front, whole.0, flow_length t (omega (arith, below)))

  module _ (k : ℕ) (p : Planned) (found : slice_get card.packets k ≡ Some p) (passes : goes p ≡ true) where
    abbrev number : ℕ
    number = count_by goes (take k card.packets)

    arrives : p.arrival < slots
    arrives =
        let same : slice_index_or card.packets k p ≡ p = get_or_from_slice_get card.packets k p p found in
        let e : (slice_index_or card.packets k p).arrival ≡ p.arrival = ap (λ (x : Planned). x.arrival) same in
        omega (arith, e, arrivals_first scheduler plan slots ends i inside k p (slice_get_within card.packets k p found))

    -- when it arrives no cells were granted but of the messages before
    granted_most : length (granted_to card q j parts p.arrival) ≤ sum_by weight (take number all_messages)
    granted_most =
        let t = p.arrival in
        let entered = to_output j (queue_before card q parts t).entered in
        let few = granted_few card card_good parts q j t (λ u less. servable scheduler scheduling plan good i u slots inside (omega (arith, less, arrives))) in
        let cells : length entered ≡ sum_by weight (messages_before t) =
        sym (length-map entered (λ (c : FanCell). cell_named card c.name))
        ∙ ap length (packets_cells card card_good q j parts t)
        ∙ cells_weigh card.card (level_of q) (kind_of q) (messages_before t) in
        let (more, all) = messages_first t in
        let count : length (messages_before t) ≡ count_by (early goes t) card.packets =
        length-map (packets_to card q j parts t) (message_of card) ∙ ap length (packets_early t) ∙ length-filter (early goes t) card.packets in
        let first : sum_by weight (take (length (messages_before t)) all_messages) ≡ sum_by weight (messages_before t) =
        ap (λ ms. sum_by weight (take (length (messages_before t)) ms)) all ∙ ap (sum_by weight) (take-append_seam (messages_before t) more) in
        let least = early_few goes card.packets k p card_good.rising found in
        let most = sum_most weight all_messages (length (messages_before t)) number (omega (arith, count, least)) in
        omega (arith, few, cells, first, most)

    own_message : sum_by weight (take (suc number) all_messages) ≡ sum_by weight (take number all_messages) + size_of p
    own_message =
        let at : slice_get all_messages number ≡ Some (message_of card p) =
        place_map (message_of card) (filter goes card.packets) number p (place_in goes card.packets k p found passes) in
        let next : suc number ≡ number + 1 = omega arith in
        let size : weight (message_of card p) ≡ size_of p = ap cells_in (message-long card card_good k p found) in
        ap (λ n. sum_by weight (take n all_messages)) next
        ∙ sum_by_more weight all_messages number [] (slice_get_within all_messages number (message_of card p) at)
        ∙ ap (λ m. sum_by weight (take number all_messages) + weight m) (get_or_from_slice_get all_messages number (message_of card p) [] at)
        ∙ ap (λ n. sum_by weight (take number all_messages) + n) size

    -- its last cell crosses after all its cells were granted, one in a slot, of which the first is its arrival slot
    pub earliest : (t : ℕ) → slice_get (ends_of scheduler plan (flow_to scheduler plan j i level kind) slots) number ≡ Some t → p.arrival + size_of p ≤ t
    earliest t is =
        let least = granted_least number t is in
        let some : 0 < size_of p = omega arith in
        let more : length (granted_to card q j parts p.arrival) < length (granted_to card q j parts t) =
        omega (arith, least, granted_most, own_message, some) in
        omega (arith, least, granted_most, own_message, granted_from card q j parts p.arrival t more)
