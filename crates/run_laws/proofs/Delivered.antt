-- What an output delivers has room there.
use Rattle.std.proofs.Common.{◌≡◌, ◌≢◌, ◌∙◌, ℕ, ◌+◌, ◌<◌, ◌≤◌, ◌==◌, ◌&&◌, nat_lt, Bool, true, false, List, [], ◌∷◌, All, map, filter, take, length}
use Rattle.std.proofs.Common.{sum_by, Option, Some, slice_get, slice_index_or, refl, sym, ap, arith, if◌then◌else◌}
use Rattle.std.specs.List.{range_with_len}
use Rattle.std.proofs.lemmas.Bool.{ne_eqb}
use Rattle.std.proofs.lemmas.List.{length-map}
use Rattle.std.proofs.lemmas.List.Elements.{All-head, All-tail, All-filter, All-from_get_or}
use Rattle.std.proofs.lemmas.List.Folds.{fold-map}
use Rattle.std.proofs.lemmas.List.FromFn.{fill_by_all}
use Rattle.std.proofs.lemmas.List.Sums.{sum_by-cons, sum_by-take-le}
use Rattle.std.proofs.lemmas.Option.{slice_get-get_or}
use Rattle.rotating_pick.specs.declared.kinds.Kind.{Kind}
use Rattle.rotating_pick.specs.declared.kinds.Kind.TheVariants.{Uni, Multi}
use Rattle.rotating_pick.specs.declared.limits.TheConstants.{LEVELS}
use Rattle.slot_match.specs.declared.matching.Served.{Served}
use Rattle.eslip_rounds.specs.Schedulers.{Scheduler, IsScheduler}
use Rattle.slot_histories.specs.Tests.{has}
use Rattle.reassembly.specs.Cutting.{messages_of}
use Rattle.card_core.specs.declared.plan.Planned.{Planned}
use Rattle.card_core.specs.Plans.{Plan, Queue, OfOutput, OfLevel, is_queue, queue_of, message_of, no_packet}
use Rattle.card_core.specs.Queues.{is_routed, is_admitted, enters}
use Rattle.card_core.specs.Grants.{packets_to}
use Rattle.card_core.specs.Deliveries.{flow_cells, messages_from, delivered}
use Rattle.card_core.proofs.Delivering.{flow_is_cut}
use Rattle.card_core.proofs.Messaging.{message-long}
use Rattle.switch_plan.specs.Totals.{message_length, body_room_for, packet_room_for}
use Rattle.switch_plan.specs.GoodPlans.{SwitchPlan, IsGood, packets_in}
use Rattle.run_laws.specs.Runs.{ports_of, card_at, parts_under}
use Rattle.run_laws.specs.Crossings.{cells_under, queue_to}
use Rattle.run_laws.proofs.Base.{good-card}
use Rattle.run_laws.proofs.Rooms.{packets-at}
use Rattle.run_laws.proofs.OfFlows.{all_of_flows}
use Rattle.run_laws.proofs.FlowCells.{flow-messages}
use Rattle.std_lemmas.proofs.Sums.{sum_by-same, range_sum-le, range_sum-most}
use Rattle.run_laws.proofs.FlowSums.{level_sum, level_add, delivered-sum}

-- ---- sums over what a test lets through, and over what a function makes
filter_sum : {X : Type 0} (v : X → ℕ) (f g : X → Bool) → ((x : X) → f x ≡ true → g x ≡ true) → (xs : List X)
    → sum_by v (filter f xs) ≤ sum_by (λ x. if g x then v x else 0) xs
filter_sum v f g weaker [] = omega arith
filter_sum {X} v f g weaker (x ∷ xs) = by_test (f x) refl (filter_sum v f g weaker xs) where
  by_test : (b : Bool) → f x ≡ b → sum_by v (filter f xs) ≤ sum_by (λ x. if g x then v x else 0) xs
      → sum_by v (if b then x ∷ filter f xs else filter f xs) ≤ sum_by (λ x. if g x then v x else 0) (x ∷ xs)
  by_test true is rest =
      let kept : (if g x then v x else 0) ≡ v x = rw (weaker x is) in
      omega (arith, sum_by-cons v x (filter f xs), sum_by-cons (λ x. if g x then v x else 0) x xs, kept, rest)
  by_test false is rest = omega (arith, sum_by-cons (λ x. if g x then v x else 0) x xs, rest)

map_sum : {X Y : Type 0} (w : Y → ℕ) (v : X → ℕ) (f : X → Y) (xs : List X) → All (λ x. w (f x) ≡ v x) xs → sum_by w (map f xs) ≡ sum_by v xs
map_sum w v f [] same = refl
map_sum w v f (x ∷ xs) same =
    let here = All-head (λ x. w (f x) ≡ v x) x xs same in
    let rest = map_sum w v f xs (All-tail (λ x. w (f x) ≡ v x) x xs same) in
    omega (arith, sum_by-cons w (f x) (map f xs), sum_by-cons v x xs, here, rest)

-- ---- each packet is in one queue
if_more : (c h : Bool) (x : ℕ) → (if c && h then x else 0) ≤ (if h then x else 0)
if_more true h x = omega arith
if_more false true x = omega arith
if_more false false x = omega arith

module _ (j : ℕ) (h : Bool) (x : ℕ) where
  -- what a packet of queue r adds to the queue of a level and a kind
  abbrev part_in : Queue → ℕ → Kind → ℕ
  part_in r l k = if is_queue (queue_to j l k) r && h then x else 0

  one_queue : (r : Queue) → level_sum (part_in r) ≤ (if h then x else 0)
  one_queue (OfOutput a b) =
      let other : (l : ℕ) → l ≢ b → part_in (OfOutput a b) l Uni + part_in (OfOutput a b) l Multi ≡ 0 =
      λ l differ. unis (j == a) (l == b) (ne_eqb l b differ) in
      let most = range_sum-most (λ l. part_in (OfOutput a b) l Uni + part_in (OfOutput a b) l Multi) b other 0 LEVELS in
      let own = if_more ((j == a) && (b == b)) h x in
      omega (arith, most, own) where
        unis : (c e : Bool) → e ≡ false → (if (c && e) && h then x else 0) + (if false && h then x else 0) ≡ 0
        unis true e is = rw is refl
        unis false e is = refl
  one_queue (OfLevel b) =
      let other : (l : ℕ) → l ≢ b → part_in (OfLevel b) l Uni + part_in (OfLevel b) l Multi ≡ 0 = λ l differ. rw (ne_eqb l b differ) refl in
      let most = range_sum-most (λ l. part_in (OfLevel b) l Uni + part_in (OfLevel b) l Multi) b other 0 LEVELS in
      let own = if_more (b == b) h x in
      omega (arith, most, own)

kept_test : (a r s d h : Bool) → a && (r && s && d) && h ≡ true → s && h ≡ true
kept_test true true true true true is = refl
kept_test true true true true false is = is
kept_test true true true false h is = absurd (cc)
kept_test true true false d h is = absurd (cc)
kept_test true false s d h is = absurd (cc)
kept_test false r s d h is = absurd (cc)

module _ (j : ℕ) (v : Planned → ℕ) where
  -- what a packet adds to a queue from which it goes to the output
  abbrev queue_part : Queue → Planned → ℕ
  queue_part q p = if is_queue q (queue_of p) && has p.fan j then v p else 0

  -- what it adds to the output
  abbrev output_part : Planned → ℕ
  output_part p = if has p.fan j then v p else 0

  queue_sum : (plan : Plan) (q : Queue) (served : List (Option Served)) (t : ℕ) → sum_by v (packets_to plan q j served t) ≤ sum_by (queue_part q) plan.packets
  queue_sum plan q served t =
      filter_sum v (λ p. nat_lt p.arrival t && enters plan q served p && has p.fan j) (λ p. is_queue q (queue_of p) && has p.fan j)
      (λ p is. kept_test (nat_lt p.arrival t) (is_routed p) (is_queue q (queue_of p)) (is_admitted plan served p.arrival p) (has p.fan j) is) plan.packets

  -- over all queues, the packets add no more than all that go to the output
  queues_sum : (ps : List Planned) → level_sum (λ l k. sum_by (queue_part (queue_to j l k)) ps) ≤ sum_by output_part ps
  queues_sum [] = omega arith
  queues_sum (p ∷ ps) =
      let here = one_queue j (has p.fan j) (v p) (queue_of p) in
      let rest = queues_sum ps in
      let parts : ℕ → Kind → ℕ = λ l k. queue_part (queue_to j l k) p in
      let more : ℕ → Kind → ℕ = λ l k. sum_by (queue_part (queue_to j l k)) ps in
      let split : level_sum (λ l k. sum_by (queue_part (queue_to j l k)) (p ∷ ps)) ≡ level_sum (λ l k. parts l k + more l k) =
      sum_by-same (λ l. sum_by (queue_part (queue_to j l Uni)) (p ∷ ps) + sum_by (queue_part (queue_to j l Multi)) (p ∷ ps))
      (λ l. parts l Uni + more l Uni + (parts l Multi + more l Multi)) (range_with_len 0 LEVELS)
      (λ l. omega (arith, sum_by-cons (queue_part (queue_to j l Uni)) p ps, sum_by-cons (queue_part (queue_to j l Multi)) p ps)) in
      omega (arith, split, level_add parts more, sum_by-cons output_part p ps, here, rest)

-- ---- what is delivered
module _ (scheduler : Scheduler) (scheduling : IsScheduler scheduler) (plan : SwitchPlan) (good : IsGood plan) where
  -- the packets of all ports, by port
  all_packets : packets_in plan ≡ map (λ i. (card_at plan i).packets) (range_with_len 0 (ports_of plan))
  all_packets = fill_by_all (λ i. (card_at plan i).packets) (packets_in plan) (ports_of plan) [] (length-map plan.cards (λ (card : Plan). card.packets))
      (λ i inside. packets-at plan good i inside)

  inputs_sum : (f : List Planned → ℕ) → sum_by (λ i. f (card_at plan i).packets) (range_with_len 0 (ports_of plan)) ≡ sum_by f (packets_in plan)
  inputs_sum f =
      sym (fold-map (λ a packets. a + f packets) (λ i. (card_at plan i).packets) 0 (range_with_len 0 (ports_of plan)))
      ∙ ap (sum_by f) (sym all_packets)

  module _ (j t : ℕ) (within : All (λ cell. (cell.input < ports_of plan) × (cell.level < LEVELS)) (cells_under scheduler plan j t))
      (first : (i level : ℕ) (kind : Kind) → i < ports_of plan → level < LEVELS → (m u : ℕ)
      × (messages_of (flow_cells i level kind (cells_under scheduler plan j t)) ≡ take m
      (map (message_of (card_at plan i)) (packets_to (card_at plan i) (queue_to j level kind) j (parts_under scheduler plan i u) u)))) where
    -- of packets whose messages have this weight
    module _ (w : List ℕ → ℕ) (v : Planned → ℕ) (same : (i k : ℕ) (p : Planned) → i < ports_of plan → slice_get (card_at plan i).packets k ≡ Some p
        → w (message_of (card_at plan i) p) ≡ v p) where
      weights : (i : ℕ) → i < ports_of plan → All (λ p. w (message_of (card_at plan i) p) ≡ v p) (card_at plan i).packets
      weights i inside =
          All-from_get_or (λ p. w (message_of (card_at plan i) p) ≡ v p) (card_at plan i).packets no_packet
          (λ k below. same i k (slice_index_or (card_at plan i).packets k no_packet) inside (slice_get-get_or (card_at plan i).packets k no_packet below))

      flow_weight : (i level : ℕ) (kind : Kind) → i < ports_of plan → level < LEVELS
          → sum_by w (messages_from i level kind [] (cells_under scheduler plan j t)) ≤ sum_by (queue_part j v (queue_to j level kind)) (card_at plan i).packets
      flow_weight i level kind inside small =
          let card : Plan = card_at plan i in
          let (m, u, is) = first i level kind inside small in
          let packets : List Planned = packets_to card (queue_to j level kind) j (parts_under scheduler plan i u) u in
          let cut : sum_by w (messages_from i level kind [] (cells_under scheduler plan j t)) ≡ sum_by w (take m (map (message_of card) packets)) =
          ap (sum_by w) (flow_is_cut i level kind (cells_under scheduler plan j t) ∙ is) in
          let fewer = sum_by-take-le w (map (message_of card) packets) m in
          let made = map_sum w v (message_of card) packets
          (All-filter (λ p. nat_lt p.arrival u && enters card (queue_to j level kind) (parts_under scheduler plan i u) p && has p.fan j)
          (λ p. w (message_of card p) ≡ v p) card.packets (weights i inside)) in
          let some = queue_sum j v card (queue_to j level kind) (parts_under scheduler plan i u) u in
          omega (arith, cut, fewer, made, some)

      input_weight : (i : ℕ) → i < ports_of plan
          → level_sum (λ l k. sum_by w (messages_from i l k [] (cells_under scheduler plan j t))) ≤ sum_by (output_part j v) (card_at plan i).packets
      input_weight i inside =
          let flows = range_sum-le 0 LEVELS
          (λ l. sum_by w (messages_from i l Uni [] (cells_under scheduler plan j t)) + sum_by w (messages_from i l Multi [] (cells_under scheduler plan j t)))
          (λ l. sum_by (queue_part j v (queue_to j l Uni)) (card_at plan i).packets + sum_by (queue_part j v (queue_to j l Multi)) (card_at plan i).packets)
          (λ l from below. omega (arith, flow_weight i l Uni inside (omega arith), flow_weight i l Multi inside (omega arith))) in
          omega (arith, flows, queues_sum j v (card_at plan i).packets)

      delivered_weight : sum_by w (delivered (cells_under scheduler plan j t)) ≤ sum_by (sum_by (output_part j v)) (packets_in plan)
      delivered_weight =
          let all = delivered-sum w (ports_of plan) (cells_under scheduler plan j t) within in
          let inputs = range_sum-le 0 (ports_of plan) (λ i. level_sum (λ l k. sum_by w (messages_from i l k [] (cells_under scheduler plan j t))))
          (λ i. sum_by (output_part j v) (card_at plan i).packets) (λ i from below. input_weight i (omega arith)) in
          omega (arith, all, inputs, inputs_sum (sum_by (output_part j v)))

    delivered_fits : j < ports_of plan → (sum_by length (delivered (cells_under scheduler plan j t)) ≤ (card_at plan j).body_room)
        × (length (delivered (cells_under scheduler plan j t)) ≤ (card_at plan j).packet_room)
    delivered_fits to =
        let mine = good-card plan good j to in
        let bytes : sum_by length (delivered (cells_under scheduler plan j t)) ≤ body_room_for j (packets_in plan) =
        delivered_weight length message_length (λ i k p inside there. message-long (card_at plan i) (good-card plan good i inside).good k p there) in
        let count : sum_by (λ m. 1) (delivered (cells_under scheduler plan j t)) ≤ packet_room_for j (packets_in plan) =
        delivered_weight (λ m. 1) (λ p. 1) (λ i k p inside there. refl) in
        (omega (arith, bytes, mine.body), omega (arith, count, mine.messages, ones (delivered (cells_under scheduler plan j t)))) where
          ones : (xs : List (List ℕ)) → sum_by (λ m. 1) xs ≡ length xs
          ones [] = refl
          ones (x ∷ xs) = let rest = ones xs in omega (arith, sum_by-cons (λ (m : List ℕ). 1) x xs, rest)

  -- the messages of the cells that cross to an output have room there
  pub delivered-fit : (j t : ℕ) → j < ports_of plan → (sum_by length (delivered (cells_under scheduler plan j t)) ≤ (card_at plan j).body_room)
      × (length (delivered (cells_under scheduler plan j t)) ≤ (card_at plan j).packet_room)
  delivered-fit j t to = delivered_fits j t (all_of_flows scheduler scheduling plan good j t)
      (λ i level kind inside small. flow-messages scheduler scheduling plan good i j level kind inside t) to
