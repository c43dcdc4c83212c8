-- The packets of an input, one after the other: what of each is counted, and its departures.
use Rattle.std.proofs.Common.{◌≡◌, ◌∙◌, ℕ, ◌+◌, ◌-◌, ◌^◌, ◌<◌, ◌==◌, ◌&&◌, Bool, true, false, List, [], length, take, Some, slice_get}
use Rattle.std.proofs.Common.{slice_index, slice_index_or, refl, sym, ap, subst, arith, replicate, length-take, if◌then◌else◌}
use Rattle.std.proofs.lemmas.Bool.{eqb-true, eq-eqb, lt-ltb, both_ways}
use Rattle.std.proofs.lemmas.List.{length-replicate}
use Rattle.std.proofs.lemmas.List.Sums.{count_by-le-length, count_by_more_yes, count_by_more_no}
use Rattle.std.proofs.lemmas.Option.{get_or_from_slice_get, slice_get_within}
use Rattle.std_lemmas.proofs.Lists.{get_or-same}
use Rattle.run_laws.proofs.FlowCells.{level_to, kind_to}
use Rattle.rotating_pick.proofs.Members.{only_member}
use Rattle.card_core.proofs.After.{level-queue}
use Rattle.rotating_pick.specs.PortSets.{Has}
use Rattle.rotating_pick.specs.declared.limits.TheConstants.{LEVELS, MAX_PORTS}
use Rattle.eslip_rounds.specs.Schedulers.{Scheduler}
use Rattle.slot_histories.specs.Tests.{has}
use Rattle.card_core.specs.declared.plan.Planned.{Planned}
use Rattle.card_core.specs.Plans.{OfOutput, OfLevel, IsPlanned, is_queue, queue_of, level_of, kind_of, last_port, no_packet}
use Rattle.card_core.proofs.Arriving.{is_queue-refl}
use Rattle.card_core.proofs.Passing.{is_queue-same}
use Rattle.switch_plan.specs.GoodPlans.{SwitchPlan, IsGood}
use Rattle.run_laws.specs.Runs.{ports_of, card_at, parts_under}
use Rattle.run_laws.specs.Promises.{ArrivalsComeFirst}
use Rattle.run_laws.specs.Crossings.{queue_to}
use Rattle.run_laws.proofs.Base.{good-card, served-length}
use Rattle.run_laws.specs.Departures.{Flow, flow_of, ends_of, goes_by, earlier_by, departure_under}
use Rattle.packet_times.specs.declared.flow_counts.TheConstants.{MOST_FLOWS}
use Rattle.packet_times.specs.NotingSteps.{Times, no_input, IsFlow, flow_place, was_admitted, HasNoted}
use Rattle.packet_times.specs.WalkingSteps.{own_place, one_more, IsCounted, HasGone}
use Rattle.packet_times.specs.KeptSteps.{kept_ports}
use Rattle.packet_times.proofs.Places.{kind_few, kind_same}
use Rattle.packet_times.proofs.Told.{admitted-at}

-- ---- the queue of a packet

own-if : (b : Bool) (fan last level j : ℕ) → (b ≡ true → fan ≡ 2 ^ last) → Has fan j
    → queue_to j level (kind_of (if b then OfOutput last level else OfLevel level)) ≡ (if b then OfOutput last level else OfLevel level)
own-if true fan last level j is member = ap (λ k. OfOutput k level) (only_member last j (subst (λ f. Has f j) (is refl) member))
own-if false fan last level j is member = refl

own-queue : (p : Planned) (j : ℕ) → Has p.fan j → queue_to j p.level (kind_of (queue_of p)) ≡ queue_of p
own-queue p j member =
    let last = last_port MAX_PORTS p.fan in
    own-if (p.fan == 2 ^ last) p.fan last p.level j (λ e. eqb-true p.fan (2 ^ last) e) member

-- ---- whether a packet goes by a flow
goes-parts : (a b c d : Bool) → (a && b && c) && d ≡ true → (b ≡ true) × (d ≡ true)
goes-parts true true true true e = (refl, refl)
goes-parts true true true false e = absurd (cc)
goes-parts true true false d e = absurd (cc)
goes-parts true false c d e = absurd (cc)
goes-parts false b c d e = absurd (cc)

goes-all : (a b c d : Bool) → a && c ≡ true → b ≡ true → d ≡ true → (a && b && c) && d ≡ true
goes-all true true true true e f g = refl
goes-all a b c false e f g = absurd (cc)
goes-all a false c d e f g = absurd (cc)
goes-all true b false d e f g = absurd (cc)
goes-all false b c d e f g = absurd (cc)

goes-none : (a b c d : Bool) → a && c ≡ false → (a && b && c) && d ≡ false
goes-none true true true d e = absurd (cc)
goes-none true true false d e = refl
goes-none true false c d e = refl
goes-none false b c d e = refl

-- ---- one packet more
module _ (scheduler : Scheduler) (plan : SwitchPlan) (slots k : ℕ) (p : Planned) (good : IsGood plan)
    (few : (i : ℕ) → i < ports_of plan → length (card_at plan i).packets < 2 ^ 32) where
  module _ (flow : Flow) (is : IsFlow (ports_of plan) flow) (at : slice_get (card_at plan flow.input).packets k ≡ Some p) where
    packets : List Planned
    packets = (card_at plan flow.input).packets

    inside : k < length (card_at plan flow.input).packets
    inside = slice_get_within (card_at plan flow.input).packets k p at

    here : slice_index_or (card_at plan flow.input).packets k no_packet ≡ p
    here = get_or_from_slice_get (card_at plan flow.input).packets k p no_packet at

    more-yes : goes_by scheduler plan slots flow p ≡ true → earlier_by scheduler plan slots flow (k + 1) ≡ earlier_by scheduler plan slots flow k + 1
    more-yes goes = count_by_more_yes (goes_by scheduler plan slots flow) (card_at plan flow.input).packets k no_packet inside
        (ap (goes_by scheduler plan slots flow) here ∙ goes)

    more-no : goes_by scheduler plan slots flow p ≡ false → earlier_by scheduler plan slots flow (k + 1) ≡ earlier_by scheduler plan slots flow k
    more-no goes = count_by_more_no (goes_by scheduler plan slots flow) (card_at plan flow.input).packets k no_packet inside
        (ap (goes_by scheduler plan slots flow) here ∙ goes)

    few-earlier : earlier_by scheduler plan slots flow k < 2 ^ 32 - 1
    few-earlier =
        let most = few flow.input is.input in
        let count = count_by-le-length (goes_by scheduler plan slots flow) (take k (card_at plan flow.input).packets) in
        let long = length-take k (card_at plan flow.input).packets in
        omega (arith, inside, most, count, long)

    counted-one : (n : ℕ) → n < 2 ^ 32 - 1 → one_more n ≡ n + 1
    counted-one n low = rw (lt-ltb n 4294967295 (omega arith)) refl

    module _ (counts new : List ℕ) (was : slice_index counts (own_place flow.output flow.level flow.kind) ≡ earlier_by scheduler plan slots flow k)
        (admitted : was_admitted (card_at plan flow.input) (parts_under scheduler plan flow.input slots) p ≡ true)
        (counted : IsCounted (Has p.fan) p.level (kind_of (queue_of p)) counts new) where
      step-yes : goes_by scheduler plan slots flow p ≡ true
          → slice_index new (own_place flow.output flow.level flow.kind) ≡ earlier_by scheduler plan slots flow (k + 1)
      step-yes goes =
          let both = goes-parts _ (is_queue (queue_to flow.output flow.level flow.kind) (queue_of p)) _ (has p.fan flow.output) goes in
          let same = is_queue-same (queue_to flow.output flow.level flow.kind) (queue_of p) (both.0) in
          let level : flow.level ≡ p.level = sym (level_to flow.output flow.level flow.kind) ∙ ap level_of same ∙ level-queue p in
          let kind : flow.kind ≡ kind_of (queue_of p) = sym (kind_to flow.output flow.level flow.kind) ∙ ap kind_of same in
          let place : own_place flow.output flow.level flow.kind ≡ own_place flow.output p.level (kind_of (queue_of p)) =
          ap (λ l. own_place flow.output l flow.kind) level ∙ ap (own_place flow.output p.level) kind in
          let more = counted.here flow.output (eqb-true _ 1 (both.1)) in
          ap (slice_index new) place
          ∙ more
          ∙ ap (λ n. one_more (slice_index counts n)) (sym place)
          ∙ ap one_more was
          ∙ counted-one (earlier_by scheduler plan slots flow k) few-earlier
          ∙ sym (more-yes goes)

      step-no : goes_by scheduler plan slots flow p ≡ false
          → slice_index new (own_place flow.output flow.level flow.kind) ≡ earlier_by scheduler plan slots flow (k + 1)
      step-no goes =
          counted.others (own_place flow.output flow.level flow.kind)
          (λ j member at.
          let a = kind_few flow.kind in
          let b = kind_few (kind_of (queue_of p)) in
          let low = is.level in
          let planned = (good-card plan good flow.input is.input).good.packets k p at' in
          let below = planned.level in
          let output : flow.output ≡ j = omega (arith, a, b, low, below, at) in
          let level : flow.level ≡ p.level = omega (arith, a, b, low, below, at) in
          let kind = kind_same flow.kind (kind_of (queue_of p)) (omega (arith, a, b, low, below, at)) in
          let queue : queue_to flow.output flow.level flow.kind ≡ queue_of p =
          ap (λ o. queue_to o flow.level flow.kind) output ∙ ap (λ l. queue_to j l flow.kind) level ∙ ap (queue_to j p.level) kind ∙ own-queue p j member in
          let there : has p.fan flow.output ≡ true = ap (has p.fan) output ∙ eq-eqb _ 1 member in
          let goes' = goes-all _ (is_queue (queue_to flow.output flow.level flow.kind) (queue_of p)) _ (has p.fan flow.output) admitted
          (ap (λ q. is_queue q (queue_of p)) queue ∙ is_queue-refl (queue_of p)) there in
          both_ways (goes_by scheduler plan slots flow p) goes goes')
          ∙ was
          ∙ sym (more-no goes) where
            at' : slice_get (card_at plan flow.input).packets k ≡ Some p
            at' = at

      step-of : (b : Bool) → goes_by scheduler plan slots flow p ≡ b
          → slice_index new (own_place flow.output flow.level flow.kind) ≡ earlier_by scheduler plan slots flow (k + 1)
      step-of true e = step-yes e
      step-of false e = step-no e

  module _ (input : ℕ) (counts : List ℕ) (at : slice_get (card_at plan input).packets k ≡ Some p) (was : HasGone scheduler plan slots input k counts) where
    pub gone-more : (new : List ℕ) → was_admitted (card_at plan input) (parts_under scheduler plan input slots) p ≡ true
        → IsCounted (Has p.fan) p.level (kind_of (queue_of p)) counts new
        → HasGone scheduler plan slots input (k + 1) new
    gone-more new admitted counted = record {
      long = counted.long ∙ was.long;
      each = λ flow is e.
          step-of flow is (subst (λ i. slice_get (card_at plan i).packets k ≡ Some p) (sym e) at) counts new (was.each flow is e)
          (subst (λ i. was_admitted (card_at plan i) (parts_under scheduler plan i slots) p ≡ true) (sym e) admitted) counted
          (goes_by scheduler plan slots flow p) refl;
    }

    pub gone-same : was_admitted (card_at plan input) (parts_under scheduler plan input slots) p ≡ false → HasGone scheduler plan slots input (k + 1) counts
    gone-same dropped = record {
      long = was.long;
      each = λ flow is e.
          let none = subst (λ i. was_admitted (card_at plan i) (parts_under scheduler plan i slots) p ≡ false) (sym e) dropped in
          was.each flow is e
          ∙ sym (more-no flow is (subst (λ i. slice_get (card_at plan i).packets k ≡ Some p) (sym e) at)
          (goes-none _ (is_queue (queue_to flow.output flow.level flow.kind) (queue_of p)) _ (has p.fan flow.output) none));
    }

pub gone-first : (scheduler : Scheduler) (plan : SwitchPlan) (slots input : ℕ) → HasGone scheduler plan slots input 0 (replicate MOST_FLOWS 0)
gone-first scheduler plan slots input = record {
  long = length-replicate {A = ℕ} MOST_FLOWS 0;
  each = λ flow is e. get_or-same 0 MOST_FLOWS (own_place flow.output flow.level flow.kind);
}

-- ---- what is kept of a packet
module _ (scheduler : Scheduler) (plan : SwitchPlan) (slots : ℕ) (times : Times) (noted : HasNoted scheduler plan times slots) where
  pub ports-kept : kept_ports times ≡ ports_of plan
  ports-kept = omega (arith, noted.count, noted.good.size.most)

  module _ (i k : ℕ) (p : Planned) (inside : i < ports_of plan) (at : slice_get (card_at plan i).packets k ≡ Some p) where
    pub planned-is : IsPlanned (ports_of plan) (length (card_at plan i).bytes) p
    planned-is =
        let card = good-card plan noted.good i inside in
        subst (λ n. IsPlanned n (length (card_at plan i).bytes) p) card.ports (card.good.packets k p at)

    -- whether it was admitted
    pub admitted-is : ArrivalsComeFirst plan slots → slice_index_or (slice_index_or times.inputs i no_input).admitted k false
        ≡ was_admitted (card_at plan i) (parts_under scheduler plan i slots) p
    admitted-is come =
        admitted-at (card_at plan i) (slice_index_or times.inputs i no_input) (parts_under scheduler plan i slots) (noted.each i inside)
        (λ j less. let early = come i inside j no_packet less in let long = served-length scheduler plan i slots in omega (arith, early, long))
        k (slice_get_within (card_at plan i).packets k p at)
        ∙ ap (was_admitted (card_at plan i) (parts_under scheduler plan i slots)) (get_or_from_slice_get (card_at plan i).packets k p no_packet at)

    -- when it left
    pub departure-is : (j : ℕ) (counts : List ℕ) → j < ports_of plan → HasGone scheduler plan slots i k counts
        → slice_get (slice_index_or times.ends
        (flow_place (ports_of plan) (record { input = i; output = j; level = p.level; kind = kind_of (queue_of p) })) [])
        (slice_index counts (own_place j p.level (kind_of (queue_of p))))
        ≡ departure_under scheduler plan slots i j k p
    departure-is j counts below gone =
        let flow = flow_of i j p in
        let low : level_of (queue_of p) < LEVELS = subst (λ l. l < LEVELS) (sym (level-queue p)) planned-is.level in
        let flows : IsFlow (ports_of plan) flow = record { input = inside; output = below; level = low } in
        ap (λ (l : ℕ). slice_get (slice_index_or times.ends
        (flow_place (ports_of plan) (record { input = i; output = j; level = l; kind = kind_of (queue_of p) })) [])
        (slice_index counts (own_place j l (kind_of (queue_of p))))) (sym (level-queue p))
        ∙ ap (λ (ends : List ℕ). slice_get ends (slice_index counts (own_place j flow.level flow.kind))) (noted.ends flow flows)
        ∙ ap (slice_get (ends_of scheduler plan flow slots)) (gone.each flow flows refl)
