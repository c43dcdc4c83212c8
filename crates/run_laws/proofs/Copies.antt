-- As many packets leave by an output as its capture has messages.
use Rattle.std.proofs.Common.{◌≡◌, ◌∙◌, ℕ, ◌+◌, ◌<◌, ◌==◌, ◌&&◌, Bool, true, false, All, List, [], ◌∷◌, map, filter, length, count_by}
use Rattle.std.proofs.Common.{sum_by, slice_index_or, refl, sym, ap, arith, inl, inr, if◌then◌else◌}
use Rattle.std.specs.List.{range_with_len}
use Rattle.std.proofs.lemmas.Bool.{and_from, and_right, cases_Bool, eq-eqb, ne_eqb}
use Rattle.std.proofs.lemmas.List.{length-map}
use Rattle.std.proofs.lemmas.List.Elements.{All-head, All-tail}
use Rattle.std.proofs.lemmas.List.Sums.{sum_by-cons, length-filter}
use Rattle.std.proofs.lemmas.Option.{slice_get-get_or}
use Rattle.rotating_pick.specs.declared.kinds.Kind.{Kind}
use Rattle.rotating_pick.specs.declared.kinds.Kind.TheVariants.{Uni, Multi}
use Rattle.rotating_pick.specs.declared.limits.TheConstants.{LEVELS}
use Rattle.eslip_rounds.specs.Schedulers.{Scheduler, IsScheduler}
use Rattle.slot_histories.specs.Tests.{has}
use Rattle.slot_histories.proofs.SetTests.{Decides-has}
use Rattle.card_core.specs.declared.plan.Planned.{Planned}
use Rattle.card_core.specs.Plans.{Queue, OfOutput, OfLevel, level_of, is_queue, queue_of, message_of}
use Rattle.card_core.specs.Queues.{is_routed, is_admitted}
use Rattle.card_core.specs.Deliveries.{messages_from}
use Rattle.card_core.proofs.After.{level-queue}
use Rattle.switch_plan.specs.GoodPlans.{SwitchPlan, IsGood}
use Rattle.run_laws.specs.Outcomes.{messages_under, over_ports, summary_under}
use Rattle.run_laws.specs.Runs.{ports_of, card_at, parts_under}
use Rattle.run_laws.specs.Ends.{IsLengthUnder}
use Rattle.run_laws.specs.Crossings.{cells_under, queue_to}
use Rattle.run_laws.proofs.Base.{good-card}
use Rattle.run_laws.proofs.Emptied.{packets_delivered}
use Rattle.std_lemmas.proofs.Sums.{sum_by-same, range_sum-at}
use Rattle.run_laws.proofs.FlowSums.{level_sum, level_add, delivered-sum}
use Rattle.run_laws.proofs.OfFlows.{all_of_flows}
use Rattle.run_laws.specs.Departures.{goes_by}
use Rattle.run_laws.specs.DeparturePromises.{leaves_by, leaving_by, CountsDepartures}
use Rattle.std_lemmas.proofs.Filters.{count-cons}
use Rattle.std_lemmas.proofs.RangeSums.{sum_by-range_same}
use Rattle.run_laws.proofs.FlowEnds.{flow_to, only_output, admitted_go}

ones : (ms : List (List ℕ)) → sum_by (λ m. 1) ms ≡ length ms
ones [] = refl
ones (m ∷ ms) = omega (arith, sum_by-cons (λ (m : List ℕ). 1) m ms, ones ms)

-- ---- a packet that leaves is of one flow
module _ (r a h : Bool) where
  of_none : (s : Bool) → s ≡ false → ◌≡◌ {A = ℕ} (if r && s && a && h then 1 else 0) 0
  of_none s is = others r s is where
    others : (r s : Bool) → s ≡ false → ◌≡◌ {A = ℕ} (if r && s && a && h then 1 else 0) 0
    others true true is = absurd (cc)
    others true false is = refl
    others false s is = refl

  of_one : (s : Bool) → s ≡ true → ◌≡◌ {A = ℕ} (if r && s && a && h then 1 else 0) (if r && a && h then 1 else 0)
  of_one s is = own r s is where
    own : (r s : Bool) → s ≡ true → ◌≡◌ {A = ℕ} (if r && s && a && h then 1 else 0) (if r && a && h then 1 else 0)
    own true true is = refl
    own true false is = absurd (cc)
    own false s is = refl

  stays : (b : Bool) → h ≡ false → ◌≡◌ {A = ℕ} (if b && h then 1 else 0) 0
  stays b is = ap (λ (v : Bool). if v then 1 else 0) (and_right b h is)

  module _ (j : ℕ) where
    -- what a packet of a queue adds to the flow of a level and a kind
    abbrev part : Queue → ℕ → Kind → ℕ
    part q l k = if r && is_queue (queue_to j l k) q && a && h then 1 else 0

    one_flow : (q : Queue) → level_of q < LEVELS → ((o l : ℕ) → q ≡ OfOutput o l → h ≡ true → j ≡ o) → level_sum (part q) ≡ (if r && a && h then 1 else 0)
    one_flow (OfOutput o b) below only =
        range_sum-at (λ l. part (OfOutput o b) l Uni + part (OfOutput o b) l Multi) b
        (λ l differ. omega (arith, of_none ((j == o) && (l == b)) (and_right (j == o) (l == b) (ne_eqb l b differ)), of_none false refl))
        0 LEVELS (omega arith) (omega (arith, below))
        ∙ elim (cases_Bool h) [
          | inl goes ↦
              let here = and_from (j == o) (b == b) (eq-eqb j o (only o b refl goes)) (eq-eqb b b refl) in
              omega (arith, of_one ((j == o) && (b == b)) here, of_none false refl)
          | inr none ↦ omega (arith, stays (r && ((j == o) && (b == b)) && a) none, stays (r && a) none, of_none false refl)
        ]
    one_flow (OfLevel b) below only =
        range_sum-at (λ l. part (OfLevel b) l Uni + part (OfLevel b) l Multi) b
        (λ l differ. omega (arith, of_none (l == b) (ne_eqb l b differ), of_none false refl)) 0 LEVELS (omega arith) (omega (arith, below))
        ∙ omega (arith, of_one (b == b) (eq-eqb b b refl), of_none false refl)

-- ---- the packets of an input
module _ (scheduler : Scheduler) (plan : SwitchPlan) (slots i j : ℕ) where
  abbrev goes : ℕ → Kind → Planned → Bool
  goes level kind = goes_by scheduler plan slots (flow_to scheduler plan j i level kind)

  abbrev leaves : Planned → Bool
  leaves = leaves_by scheduler plan slots i j

  packet_flows : (p : Planned) → p.level < LEVELS → level_sum (λ l k. if goes l k p then 1 else 0) ≡ (if leaves p then 1 else 0)
  packet_flows p below =
      one_flow (is_routed p) (is_admitted (card_at plan i) (parts_under scheduler plan i slots) p.arrival p) (has p.fan j) j (queue_of p)
      (omega (arith, level-queue p, below))
      (λ o l is member. only_output j o l p (sym is) ((Decides-has p.fan j).0 member))

  packets_flows : (ps : List Planned) → All (λ p. p.level < LEVELS) ps → level_sum (λ l k. count_by (goes l k) ps) ≡ count_by leaves ps
  packets_flows [] small = refl
  packets_flows (p ∷ ps) small =
      let here = packet_flows p (All-head (λ p. p.level < LEVELS) p ps small) in
      let rest = packets_flows ps (All-tail (λ p. p.level < LEVELS) p ps small) in
      let one : ℕ → Kind → ℕ = λ l k. if goes l k p then 1 else 0 in
      let more : ℕ → Kind → ℕ = λ l k. count_by (goes l k) ps in
      let split : level_sum (λ l k. count_by (goes l k) (p ∷ ps)) ≡ level_sum (λ l k. one l k + more l k) =
      sum_by-same (λ l. count_by (goes l Uni) (p ∷ ps) + count_by (goes l Multi) (p ∷ ps)) (λ l. one l Uni + more l Uni + (one l Multi + more l Multi))
      (range_with_len 0 LEVELS) (λ l. omega (arith, count-cons (goes l Uni) p ps, count-cons (goes l Multi) p ps)) in
      omega (arith, split, level_add one more, count-cons leaves p ps, here, rest)

-- ---- the messages of an output
module _ (scheduler : Scheduler) (scheduling : IsScheduler scheduler) (plan : SwitchPlan) (good : IsGood plan) (slots : ℕ)
    (ends : IsLengthUnder scheduler plan slots) where
  module _ (j : ℕ) (to : j < ports_of plan) where
    abbrev messages : ℕ → ℕ → Kind → ℕ
    messages i l k = sum_by (λ m. 1) (messages_from i l k [] (cells_under scheduler plan j slots))

    flow_messages : (i l : ℕ) (k : Kind) → i < ports_of plan → l < LEVELS
        → messages i l k ≡ count_by (goes scheduler plan slots i j l k) (card_at plan i).packets
    flow_messages i l k inside below =
        let own = filter (goes scheduler plan slots i j l k) (card_at plan i).packets in
        ones (messages_from i l k [] (cells_under scheduler plan j slots))
        ∙ ap length (packets_delivered scheduler scheduling plan good i j l k slots ends inside to below
        ∙ ap (map (message_of (card_at plan i))) (admitted_go scheduler plan slots ends i j l k inside))
        ∙ length-map own (message_of (card_at plan i))
        ∙ length-filter (goes scheduler plan slots i j l k) (card_at plan i).packets

    levels_below : (i : ℕ) → i < ports_of plan → All (λ p. p.level < LEVELS) (card_at plan i).packets
    levels_below i inside k d short =
        let ps = (card_at plan i).packets in
        ((good-card plan good i inside).good.packets k (slice_index_or ps k d) (slice_get-get_or ps k d short)).level

    input_messages : (i : ℕ) → i < ports_of plan → level_sum (messages i) ≡ count_by (leaves_by scheduler plan slots i j) (card_at plan i).packets
    input_messages i inside =
        let ps = (card_at plan i).packets in
        sum_by-range_same 0 LEVELS (λ l. count_by (goes scheduler plan slots i j l Uni) ps + count_by (goes scheduler plan slots i j l Multi) ps)
        (λ l. messages i l Uni + messages i l Multi)
        (λ l from below. omega (arith, flow_messages i l Uni inside (omega arith), flow_messages i l Multi inside (omega arith)))
        ∙ packets_flows scheduler plan slots i j ps (levels_below i inside)

    each_counted : leaving_by scheduler plan slots j ≡ length (messages_under scheduler plan j slots)
    each_counted =
        let cells = cells_under scheduler plan j slots in
        sym (sum_by-range_same 0 (ports_of plan) (λ i. count_by (leaves_by scheduler plan slots i j) (card_at plan i).packets) (λ i. level_sum (messages i))
        (λ i from below. input_messages i (omega (arith, below))))
        ∙ delivered-sum (λ m. 1) (ports_of plan) cells (all_of_flows scheduler scheduling plan good j slots)
        ∙ ones (messages_under scheduler plan j slots)

  all_counted : over_ports plan (leaving_by scheduler plan slots) ≡ (summary_under scheduler plan slots).copies
  unfolding summary_under
  all_counted =
      sum_by-range_same 0 (ports_of plan) (λ j. length (messages_under scheduler plan j slots)) (leaving_by scheduler plan slots)
      (λ j from below. each_counted j (omega (arith, below)))

  pub counted : CountsDepartures scheduler plan slots
  counted = record { each = each_counted; all = all_counted }
