-- A switch that skips a gap: from the slot after an idle slot to the next in which a packet arrives.
use Rattle.std.proofs.Common.{◌≡◌, ◌∙◌, ℕ, ◌+◌, ◌-◌, ◌<◌, ◌≤◌, ◌⊎◌, ◌++◌, false, List, All, length, map, Option}
use Rattle.std.proofs.Common.{None, Some, refl, sym, ap, subst, arith, inl, inr}
use Rattle.std.specs.Prelude.{slice_get, slice_index_or, IfSome}
use Rattle.std.specs.Option.{option_map, unwrap_or}
use Rattle.std.proofs.lemmas.Bool.{cases_lt, cases_eq}
use Rattle.std.proofs.lemmas.Option.{slice_get-get_or, slice_get_cases, slice_get_within, same_Some, none-some}
use Rattle.cell_cutter.specs.declared.cell.Cell.{Cell}
use Rattle.pcap_records.specs.Output.{capture_text}
use Rattle.eslip_rounds.specs.Schedulers.{Scheduler}
use Rattle.slot_histories.specs.Slots.{is_done_at, is_done_before, places_under}
use Rattle.service_bound.specs.Waits.{NotedSlot, noted_of, NoneWaits}
use Rattle.service_bound.specs.MeterSteps.{Meter, HasNoted}
use Rattle.card_core.specs.declared.plan.Planned.{Planned}
use Rattle.card_core.specs.Plans.{Plan as CardPlan}
use Rattle.card_core.specs.Posts.{granted_at}
use Rattle.card_core.specs.Deliveries.{delivered}
use Rattle.switch_plan.specs.GoodPlans.{SwitchPlan}
use Rattle.run_laws.specs.Runs.{ports_of, setup_for, card_at, parts_under, posts_under}
use Rattle.run_laws.specs.Crossings.{cells_under}
use Rattle.run_laws.specs.Sums.{schedule_under}
use Rattle.run_laws.proofs.Base.{places-same, served-length}
use Rattle.idle_slots.specs.Idle.{NoneArrive, AreIdle}
use Rattle.idle_slots.specs.Skipped.{AreAsAfter, IsGap}
use Rattle.descriptor_runs.specs.declared.switch.Switch.{Switch}
use Rattle.descriptor_runs.specs.InputSteps.{InputValue}
use Rattle.descriptor_runs.specs.OutputSteps.{OutputValue, HasCome}
use Rattle.descriptor_runs.specs.PortSteps.{NoneBefore, ComesTo}
use Rattle.descriptor_runs.specs.SwitchSteps.{AreInputs, AreNames, AreResting, IsNameOf, IsBefore}
use Rattle.descriptor_runs.proofs.InputPorts.{count-inputs, plan-of, in-ports}
use Rattle.descriptor_runs.proofs.Arriving.{next-late}
use Rattle.descriptor_runs.proofs.Endings.{going-to}
use Rattle.descriptor_runs.proofs.GapSlots.{gap, length-gap, gap-waits, gap-more, none-crosses}
use Rattle.descriptor_runs.proofs.GapInputs.{gap-inputs}
use Rattle.descriptor_runs.proofs.Resting.{rests-still}

-- ---- the next arrival
module _ (scheduler : Scheduler) (plan : SwitchPlan) (slot : ℕ) (inputs : List InputValue) (are : AreInputs scheduler plan slot false inputs) where
  -- so none arrives in a slot before the first of these
  module _ (first : ℕ) (least : NoneBefore (length inputs) inputs (Some first)) where
    apart : (i : ℕ) (input : InputValue) → slice_get inputs i ≡ Some input
        → All (λ packet. (packet.arrival < slot) ⊎ (first ≤ packet.arrival)) input.plan.packets
    apart i input at k d inside =
        let sent = are.served i input at in
        let long = served-length scheduler plan i slot in
        let packets = input.plan.packets in
        let packet = slice_index_or packets k d in
        let there : slice_get packets k ≡ Some packet = slice_get-get_or packets k d inside in
        elim (cases_lt k input.next) [
          | inl early ↦ let was = sent.next.before k packet there early in inl (omega arith)
          | inr late ↦
              let next = slice_index_or packets input.next d in
              let found : slice_get packets input.next ≡ Some next = slice_get-get_or packets input.next d (omega arith) in
              let soon : first ≤ next.arrival =
              least i next.arrival input (slice_get_within inputs i input at) at (ap (option_map (λ (p : Planned). p.arrival)) found) in
              inr (elim (cases_eq input.next k) [
                | inl same ↦ subst (λ m. first ≤ (slice_index_or packets m d).arrival) same soon
                | inr other ↦ let rises = sent.plan.rising input.next k next packet found there (omega arith) in omega arith
              ])
        ]

  pub none-come : (first : Option ℕ) → NoneBefore (length inputs) inputs first → NoneArrive plan slot (unwrap_or first slot)
  none-come None least i inside = λ k d within. cases_lt (slice_index_or (card_at plan i).packets k d).arrival slot
  none-come (Some first) least i inside =
      let count = count-inputs plan inputs are.plans in
      elim ((slice_get_cases inputs i).1) [
        | inl here ↦
            subst (λ (card : CardPlan). All (λ packet. (packet.arrival < slot) ⊎ (first ≤ packet.arrival)) card.packets)
            (plan-of plan inputs are.plans i here.0 here.2) (apart first least i here.0 here.2)
        | inr past ↦ let beyond = past.0 in absurd (omega arith)
      ]

  pub not-earlier : (first : Option ℕ) → ComesTo (length inputs) inputs first → slot ≤ unwrap_or first slot
  not-earlier None there = omega arith
  not-earlier (Some first) (i, input, below, at, next) = next-late scheduler plan slot inputs are i first input at next

  -- and the run does not end before it
  pub goes-to : (first : Option ℕ) → ComesTo (length inputs) inputs first
      → ((i k s : ℕ) (packet : Planned) → i < ports_of plan → slice_get (card_at plan i).packets k ≡ Some packet → s < packet.arrival
      → is_done_at (ports_of plan) (posts_under scheduler plan) s ≡ false)
      → is_done_before (ports_of plan) (posts_under scheduler plan) slot ≡ false
      → is_done_before (ports_of plan) (posts_under scheduler plan) (unwrap_or first slot) ≡ false
  goes-to None there law going = going
  goes-to (Some first) (i, input, below, at, next) law going =
      let late = next-late scheduler plan slot inputs are i first input at next in
      let here : slot + (first - slot) ≡ first = omega arith in
      subst (λ u. is_done_before (ports_of plan) (posts_under scheduler plan) u ≡ false) here
      (going-to (ports_of plan) (posts_under scheduler plan) slot (first - slot) going
      (λ s from until. comes (slice_get input.plan.packets input.next) refl next s (omega arith))) where
        comes : (packet : Option Planned) → slice_get input.plan.packets input.next ≡ packet
            → option_map (λ (p : Planned). p.arrival) packet ≡ Some first
            → (s : ℕ) → s < first → is_done_at (ports_of plan) (posts_under scheduler plan) s ≡ false
        comes None there is s before = absurd (none-some first is)
        comes (Some packet) there is s before =
            let same = same_Some packet.arrival first is in
            let own : slice_get (card_at plan i).packets input.next ≡ Some packet =
            subst (λ (card : CardPlan). slice_get card.packets input.next ≡ Some packet) (plan-of plan inputs are.plans i input at) there in
            law i input.next s packet (in-ports plan inputs are.plans i input at) own (omega arith)

  -- until then it is a gap, where nothing was asked for in the slot before this one: by the laws on idle slots
  pub gap-is : (first : Option ℕ) → NoneBefore (length inputs) inputs first → (t next : ℕ) → slot ≡ t + 1 → next ≡ unwrap_or first slot → t < next
      → (NoneArrive plan (t + 1) next → AreIdle scheduler plan t next)
      → (NoneArrive plan (t + 1) next → AreAsAfter scheduler plan (t + 1) next) → IsGap scheduler plan slot next
  gap-is first least t next begins is some idle after =
      let none : NoneArrive plan slot next = subst (NoneArrive plan slot) (sym is) (none-come first least) in
      let arrive = subst (λ s. NoneArrive plan s next) begins none in
      record {
        before = t;
        begins = begins;
        some = some;
        none = none;
        idle = idle arrive;
        after = subst (λ s. AreAsAfter scheduler plan s next) (sym begins) (after arrive);
      }

-- ---- the switch
module _ (scheduler : Scheduler) (plan : SwitchPlan) (slot next : ℕ) (skipped : IsGap scheduler plan slot next) (switch : Switch)
    (is : IsBefore scheduler plan slot switch) where
  places : places_under scheduler (setup_for plan) (posts_under scheduler plan) slot
      ≡ places_under scheduler (setup_for plan) (posts_under scheduler plan) next
  places =
      let begins = skipped.begins in
      let some = skipped.some in
      sym (places-same scheduler plan slot)
      ∙ (skipped.idle.pointers slot (omega arith) (omega arith)
      ∙ (sym (skipped.idle.pointers next (omega arith) (omega arith)) ∙ places-same scheduler plan next))

  names : AreNames scheduler plan next switch.names
  names i inside =
      let begins = skipped.begins in
      let some = skipped.some in
      let card = card_at plan i in
      let now : granted_at card (parts_under scheduler plan i slot) slot ≡ None = skipped.idle.cells i slot (omega arith) (omega arith) in
      let later : granted_at card (parts_under scheduler plan i next) next ≡ None = skipped.idle.cells i next some (omega arith) in
      subst (λ (cell : Option Cell). IsNameOf card cell (slice_index_or switch.names i None)) (now ∙ sym later) (is.names i inside)

  cells : (j : ℕ) → cells_under scheduler plan j (slot + 1) ≡ cells_under scheduler plan j (next + 1)
  cells j =
      let begins = skipped.begins in
      let some = skipped.some in
      let crossed : ℕ → List Cell = cells_under scheduler plan j in
      let stays = none-crosses scheduler plan skipped.before next skipped.idle j in
      let last : next - 1 + 1 ≡ next = omega arith in
      let first : crossed (slot + 1) ≡ crossed slot = subst (λ s. crossed (s + 1) ≡ crossed s) (sym begins) (stays skipped.before (omega arith) some) in
      let crosses : crossed (next + 1) ≡ crossed next =
      subst (λ s. crossed (s + 1) ≡ crossed s) last (stays (next - 1) (omega arith) (omega arith)) in
      first ∙ (sym (skipped.after.cells j) ∙ sym crosses)

  come : (j : ℕ) (output : OutputValue) → HasCome scheduler plan (slot + 1) j output → HasCome scheduler plan (next + 1) j output
  come j output was = record {
    text = subst (λ (all : List Cell). IfSome output.text (λ text. text ≡ capture_text plan.nano plan.link (delivered all))) (cells j) was.text;
    packets = was.packets ∙ ap (λ (all : List Cell). length (delivered all)) (cells j);
    cells = was.cells ∙ ap (λ (all : List Cell). length all) (cells j);
  }

  -- it is before the next slot when its meter has noted the slots of the gap
  pub past-gap : (meter : Meter) → meter.ports ≡ switch.meter.ports → meter.count ≡ switch.meter.count + (next - slot)
      → ((before more : List NotedSlot) → HasNoted switch.meter before → length more ≡ next - slot → All NoneWaits more → HasNoted meter (before ++ more))
      → IsBefore scheduler plan next (record switch { meter = meter })
  past-gap meter ports count noted =
      let begins = skipped.begins in
      let some = skipped.some in
      let was = is.switch_is in
      let counted = was.meter_count in
      let t = skipped.before in
      record {
        switch_is = record {
          decides = was.decides;
          rounds = was.rounds;
          nano = was.nano;
          pointers = was.pointers ∙ places;
          matched = was.matched;
          posts = was.posts;
          meter_ports = ports ∙ was.meter_ports;
          meter_count = omega arith;
          noted = subst (HasNoted meter) (gap-more scheduler plan t next skipped.idle slot (omega arith))
              (noted (map noted_of (schedule_under scheduler plan slot)) (gap scheduler plan t next skipped.idle slot) was.noted
              (length-gap scheduler plan t next skipped.idle slot) (gap-waits scheduler plan t next skipped.idle slot (omega arith)));
        };
        inputs = gap-inputs scheduler plan slot next skipped switch.inputs is.inputs;
        names = names;
        outputs = record {
          count = is.outputs.count;
          come = λ j output at. come j output (is.outputs.come j output at);
        };
        parts = is.parts;
        resting = rests-still scheduler plan t next skipped.idle switch.matched switch.inputs some
            (subst (λ s. AreResting (map noted_of (schedule_under scheduler plan s)) switch.matched switch.inputs) begins is.resting);
      }
