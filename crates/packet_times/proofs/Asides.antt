-- The packets that the rows tell as unrouted and as oversize are as many as the plan has.
use Rattle.std.proofs.Common.{◌≡◌, ◌∙◌, ℕ, suc, ◌+◌, ◌<◌, ◌==◌, ◌&&◌, not, nat_lt, Bool, true, false, List, [], ◌∷◌, map}
use Rattle.std.proofs.Common.{cond, count_by, sum_by, Some, slice_get, refl, sym, ap, arith, inl, inr}
use Rattle.std.specs.List.{range_with_len, zip}
use Rattle.std.proofs.lemmas.Bool.{cases_Bool, cases_eq, eq-eqb, ltb-true}
use Rattle.std.proofs.lemmas.List.Sums.{sum_by-cons}
use Rattle.std.proofs.lemmas.Option.{get_or_from_slice_get}
use Rattle.cell_cutter.specs.declared.sizes.TheConstants.{MAX_FORWARDED_BYTES}
use Rattle.pcap_records.specs.Packets.{Packet}
use Rattle.forward_table.specs.declared.route_lines.RouteLine.{RouteLine}
use Rattle.eslip_rounds.specs.Schedulers.{Scheduler, IsScheduler}
use Rattle.card_core.specs.declared.plan.Planned.{Planned}
use Rattle.card_core.specs.Plans.{Plan}
use Rattle.card_core.specs.Queues.{is_routed}
use Rattle.line_pace.specs.Arrivals.{arrival_slots}
use Rattle.switch_words.specs.declared.job.Settings.{Settings}
use Rattle.switch_plan.specs.Traffic.{CaptureFile, is_oversize, unplaced, pace_of, stamp_of, planned, port_traffic}
use Rattle.switch_plan.specs.Refusals.{first_link}
use Rattle.switch_plan.specs.GoodPlans.{SwitchPlan, packets_in, IsGood, IsPlanOf}
use Rattle.switch_plan.proofs.Rising.{slots_long}
use Rattle.run_laws.specs.Runs.{ports_of, card_at, no_plan}
use Rattle.run_laws.specs.Ends.{IsLengthUnder}
use Rattle.run_laws.proofs.Base.{good-card}
use Rattle.std_lemmas.proofs.Sums.{sum_by-same, sum_by-plus}
use Rattle.std_lemmas.proofs.RangeSums.{sum_by-range_same}
use Rattle.std_lemmas.proofs.MappedSums.{sum_by-map, sum_of, count_map, count_left}
use Rattle.run_laws.specs.Outcomes.{over_ports, summary_under}
use Rattle.packet_times.specs.declared.state.PacketState.TheVariants.{Unrouted, Oversize}
use Rattle.packet_times.specs.Sums.{input_told, packets_told, RowsAddUp}
use Rattle.packet_times.proofs.Telling.{unrouted-if, oversize-if}
use Rattle.packet_times.proofs.Summing.{input-counted, forwarded-told, dropped-told, copies-told}

-- a packet that is too long to be forwarded
abbrev is_long : Planned → Bool
is_long p = nat_lt MAX_FORWARDED_BYTES p.len

-- one that goes nowhere
abbrev is_aside : Planned → Bool
is_aside p = p.fan == 0

same-counts : (f g : Planned → Bool) (ps : List Planned) → ((k : ℕ) (p : Planned) → slice_get ps k ≡ Some p → f p ≡ g p) → count_by f ps ≡ count_by g ps
same-counts f g [] each = refl
same-counts f g (p ∷ ps) each =
    sum_by-cons (λ r. cond (f r) 1 0) p ps
    ∙ ap (λ b. cond b 1 0 + count_by f ps) (each 0 p refl)
    ∙ ap (λ n. cond (g p) 1 0 + n) (same-counts f g ps (λ k r at. each (suc k) r at))
    ∙ sym (sum_by-cons (λ r. cond (g r) 1 0) p ps)

split : (ps : List Planned) → count_by (λ p. not (is_routed p) && not (is_long p)) ps + count_by (λ p. not (is_routed p) && is_long p) ps
    ≡ count_by is_aside ps
split [] = refl
split (p ∷ ps) =
    let short : Planned → ℕ = λ r. cond (not (is_routed r) && not (is_long r)) 1 0 in
    let long : Planned → ℕ = λ r. cond (not (is_routed r) && is_long r) 1 0 in
    let here = one (is_aside p) (is_long p) in
    let rest = split ps in
    omega (arith, here, rest, sum_by-cons short p ps, sum_by-cons long p ps, sum_by-cons (λ r. cond (is_aside r) 1 0) p ps)
  where
    one : (a l : Bool) → ◌≡◌ {A = ℕ} (cond (not (not a) && not l) 1 0 + cond (not (not a) && l) 1 0) (cond a 1 0)
    one true true = refl
    one true false = refl
    one false l = refl

-- a sum over all ports
module _ (plan : SwitchPlan) where
  of-ports : (f : List Planned → ℕ) → sum_by f (packets_in plan) ≡ over_ports plan (λ i. f (card_at plan i).packets)
  of-ports f =
      sum_by-map f (λ (card : Plan). card.packets) plan.cards
      ∙ sum_of (λ (card : Plan). f card.packets) (λ i. f (card_at plan i).packets) plan.cards (ports_of plan) refl
      (λ i card at. ap (λ (c : Plan). f c.packets) (sym (get_or_from_slice_get plan.cards i card no_plan at)))

-- ---- what the captures have
module _ (settings : Settings) (files : List (List ℕ)) (table : List RouteLine) (captures : List CaptureFile) (plan : SwitchPlan)
    (is : IsPlanOf settings files table captures plan) where
  -- the packets of a port, except for their places
  abbrev port : CaptureFile → List Planned
  port capture = port_traffic table (first_link captures) (pace_of settings.speed captures) capture.packets

  port-long : (capture : CaptureFile) → count_by is_long (port capture) ≡ count_by (λ packet. is_oversize packet.bytes) capture.packets
  port-long capture =
      let pace = pace_of settings.speed captures in
      let slots = arrival_slots pace (map stamp_of capture.packets) in
      count_map is_long (λ (pair : Packet × ℕ). planned table (first_link captures) pair.0 pair.1) (zip capture.packets slots)
      ∙ count_left (λ (packet : Packet). is_oversize packet.bytes) capture.packets slots (sym (slots_long pace capture.packets))

  long-are : sum_by (count_by is_long) (packets_in plan) ≡ plan.oversize
  long-are =
      sum_by-same (count_by is_long) (λ ps. count_by is_long (map unplaced ps)) (packets_in plan) (λ ps. sym (count_map is_long unplaced ps))
      ∙ sym (sum_by-map (count_by is_long) (map unplaced) (packets_in plan))
      ∙ ap (sum_by (count_by is_long)) is.packets
      ∙ sum_by-map (count_by is_long) port captures
      ∙ sum_by-same (λ capture. count_by is_long (port capture)) (λ capture. count_by (λ packet. is_oversize packet.bytes) capture.packets) captures port-long
      ∙ sym is.oversize

  -- ---- what the rows tell
  module _ (scheduler : Scheduler) (good : IsGood plan) (slots : ℕ) where
    -- one that is too long goes nowhere
    long-only : (i k : ℕ) (p : Planned) → i < ports_of plan → slice_get (card_at plan i).packets k ≡ Some p → not (is_routed p) && is_long p ≡ is_long p
    long-only i k p inside at = elim (cases_eq p.fan 0) [
      | inl none ↦ ap (λ b. not (not b) && is_long p) (eq-eqb p.fan 0 none)
      | inr some ↦
          let most = ((good-card plan good i inside).good.packets k p at).forwarded some in
          elim (cases_Bool (is_long p)) [
            | inl long ↦ let more = ltb-true MAX_FORWARDED_BYTES p.len long in absurd (omega (arith, most, more))
            | inr short ↦ ap (λ b. not (is_routed p) && b) short ∙ none (not (is_routed p)) ∙ sym short
          ]
    ] where
      none : (b : Bool) → b && false ≡ false
      none true = refl
      none false = refl

    input-long : (i : ℕ) → i < ports_of plan → input_told scheduler plan slots Oversize i ≡ count_by is_long (card_at plan i).packets
    input-long i inside =
        input-counted scheduler plan good slots i inside Oversize (λ p. not (is_routed p) && is_long p) (λ p. oversize-if (is_routed p) _ (is_long p))
        ∙ same-counts (λ p. not (is_routed p) && is_long p) is_long (card_at plan i).packets (λ k p at. long-only i k p inside at)

    input-both : (i : ℕ) → i < ports_of plan
        → input_told scheduler plan slots Unrouted i + input_told scheduler plan slots Oversize i ≡ count_by is_aside (card_at plan i).packets
    input-both i inside =
        let long = input-counted scheduler plan good slots i inside Oversize (λ p. not (is_routed p) && is_long p)
        (λ p. oversize-if (is_routed p) _ (is_long p)) in
        let short = input-counted scheduler plan good slots i inside Unrouted (λ p. not (is_routed p) && not (is_long p))
        (λ p. unrouted-if (is_routed p) _ (is_long p)) in
        omega (arith, long, short, split (card_at plan i).packets)

    pub oversize-told : packets_told scheduler plan slots Oversize ≡ plan.oversize
    oversize-told =
        sum_by-range_same 0 (ports_of plan) (λ i. count_by is_long (card_at plan i).packets) (input_told scheduler plan slots Oversize)
        (λ i from below. input-long i (omega (arith, below)))
        ∙ sym (of-ports plan (count_by is_long)) ∙ long-are

    pub unrouted-told : packets_told scheduler plan slots Unrouted ≡ plan.unrouted
    unrouted-told =
        let ports = range_with_len 0 (ports_of plan) in
        let parts = sum_by-plus (input_told scheduler plan slots Unrouted) (input_told scheduler plan slots Oversize) ports in
        let both = sum_by-range_same 0 (ports_of plan) (λ i. count_by is_aside (card_at plan i).packets)
        (λ i. input_told scheduler plan slots Unrouted i + input_told scheduler plan slots Oversize i)
        (λ i from below. input-both i (omega (arith, below))) in
        let all = of-ports plan (count_by is_aside) in
        let aside = good.aside in
        omega (arith, oversize-told, parts, both, all, aside)

    pub add-up : IsScheduler scheduler → IsLengthUnder scheduler plan slots → RowsAddUp scheduler plan slots
    unfolding summary_under
    add-up scheduling ends = record {
      forwarded = forwarded-told scheduler scheduling plan good slots ends;
      dropped = dropped-told scheduler scheduling plan good slots ends;
      unrouted = unrouted-told;
      oversize = oversize-told;
      copies = copies-told scheduler scheduling plan good slots ends;
    }
