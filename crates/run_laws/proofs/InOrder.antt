-- The messages of an output's capture are in the order of the departures of their packets.
use Rattle.std.proofs.Common.{◌≡◌, ◌∙◌, ℕ, ◌<◌, ◌==◌, ◌&&◌, true, All, List, map, filter, take, count_by, Some, slice_get, slice_index_or, refl, sym, ap}
use Rattle.std.proofs.lemmas.Bool.{and_from, eq-eqb}
use Rattle.std.proofs.lemmas.Option.{slice_get-get_or}
use Rattle.rotating_pick.specs.declared.limits.TheConstants.{LEVELS}
use Rattle.eslip_rounds.specs.Decisions.{is_kind}
use Rattle.eslip_rounds.specs.Schedulers.{Scheduler, IsScheduler}
use Rattle.eslip_rounds.proofs.Testing.{Decides-kind}
use Rattle.card_core.specs.Plans.{message_of}
use Rattle.switch_plan.specs.GoodPlans.{SwitchPlan, IsGood}
use Rattle.run_laws.specs.Interleaving.{Departure, is_from, AreDepartures}
use Rattle.run_laws.proofs.Departing.{departures-are}
use Rattle.run_laws.specs.Runs.{ports_of, card_at}
use Rattle.run_laws.specs.Ends.{IsLengthUnder}
use Rattle.run_laws.specs.Departures.{Flow, flow_of, ends_of, goes_by, earlier_by}
use Rattle.run_laws.specs.DeparturePromises.{DepartsAs, RecordsAreInOrder}
use Rattle.std_lemmas.proofs.Filters.{place_in, place_of, map_place, place_map}
use Rattle.run_laws.proofs.FlowEnds.{flow_to, flow_is, flow_slots, goes_is, admitted_go}

from_itself : (d : Departure) → is_from d.input d.level d.kind d ≡ true
from_itself d =
    and_from ((d.input == d.input) && (d.level == d.level)) (is_kind d.kind d.kind)
    (and_from (d.input == d.input) (d.level == d.level) (eq-eqb d.input d.input refl) (eq-eqb d.level d.level refl))
    ((Decides-kind d.kind d.kind).1 refl)

module _ (scheduler : Scheduler) (plan : SwitchPlan) (slots : ℕ) (ends : IsLengthUnder scheduler plan slots) (j : ℕ) (to : j < ports_of plan)
    (departures : List Departure) (are : AreDepartures scheduler plan slots j departures) where
  module _ (d : Departure) (n : ℕ) (at : slice_get departures n ≡ Some d) (inside : d.input < ports_of plan) (below : d.level < LEVELS) where
    abbrev mine : List Departure
    mine = filter (is_from d.input d.level d.kind) departures

    -- its number among those of its flow
    abbrev number : ℕ
    number = count_by (is_from d.input d.level d.kind) (take n departures)

    abbrev flow : Flow
    flow = flow_to scheduler plan j d.input d.level d.kind

    stands : slice_get mine number ≡ Some d
    stands = place_in (is_from d.input d.level d.kind) departures n d at (from_itself d)

    slot_stands : slice_get (ends_of scheduler plan flow slots) number ≡ Some d.slot
    slot_stands =
        ap (λ xs. slice_get xs number) (sym (flow_slots scheduler plan j slots departures are d.input d.level d.kind))
        ∙ place_map (λ (e : Departure). e.slot) mine number d stands

    abbrev flow_messages : List (List ℕ)
    flow_messages = map (message_of (card_at plan d.input)) (filter (goes_by scheduler plan slots flow) (card_at plan d.input).packets)

    message_stands : slice_get flow_messages number ≡ Some d.message
    message_stands =
        ap (λ ps. slice_get (map (message_of (card_at plan d.input)) ps) number) (sym (admitted_go scheduler plan slots ends d.input j d.level d.kind inside))
        ∙ ap (λ ms. slice_get ms number) (sym (are.flows d.input d.level d.kind inside below))
        ∙ place_map (λ (e : Departure). e.message) mine number d stands

    departs_as : DepartsAs scheduler plan slots j d
    departs_as =
        let card = card_at plan d.input in
        let goes = goes_by scheduler plan slots flow in
        let (p, found, message) = map_place (message_of card) (filter goes card.packets) number d.message message_stands in
        let o = place_of goes card.packets number p found in
        let is = goes_is scheduler plan slots d.input j d.level d.kind p o.passes in
        let own : flow_of d.input j p ≡ flow = flow_is d.input j d.level d.kind p is.0 in
        record {
          number = o.place;
          packet = p;
          leaves = record { input = inside; output = to; found = o.at; routed = is.1; admitted = is.2; goes = is.3 };
          departs =
              ap (λ f. slice_get (ends_of scheduler plan f slots) (earlier_by scheduler plan slots f o.place)) own
              ∙ ap (slice_get (ends_of scheduler plan flow slots)) o.count ∙ slot_stands;
          message = sym message;
        }

  all_depart : All (DepartsAs scheduler plan slots j) departures
  all_depart n e short =
      let d = slice_index_or departures n e in
      let others = are.no_others n e short in
      departs_as d n (slice_get-get_or departures n e short) others.0 others.1

pub in_order : (scheduler : Scheduler) → IsScheduler scheduler → (plan : SwitchPlan) → IsGood plan → (slots : ℕ) → IsLengthUnder scheduler plan slots
    → RecordsAreInOrder scheduler plan slots
in_order scheduler scheduling plan good slots ends j to =
    let (departures, are) = departures-are scheduler scheduling plan good slots ends j to in
    (departures, are, all_depart scheduler plan slots ends j to departures are)
