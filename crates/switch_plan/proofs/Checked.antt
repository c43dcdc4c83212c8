-- A plan is good where its parts are.
use Rattle.std.proofs.Common.{◌≡◌, ◌∙◌, ◌↔◌, ℕ, ◌≤◌, List, length, Some, sym, ap, subst, arith}
use Rattle.std.specs.Prelude.{map, slice_get, slice_index_or, All}
use Rattle.std.specs.Option.{option_map}
use Rattle.std.proofs.lemmas.Option.{slice_get-map, slice_get-get_or, get_or_from_slice_get}
use Rattle.std.proofs.lemmas.Simd.{map-map}
use Rattle.std.proofs.lemmas.List.{get_or_default, length-map}
use Rattle.std_lemmas.proofs.Lists.{at_place, got_map}
use Rattle.rotating_pick.specs.declared.limits.TheConstants.{MAX_PORTS, MAX_ROUNDS}
use Rattle.card_core.specs.declared.plan.Planned.{Planned}
use Rattle.card_core.specs.declared.plan.CardPlan.{CardPlan}
use Rattle.card_core.specs.Plans.{Plan as CardView, plan_of as card_plan_of, IsGoodPlan, IsSmallPlan}
use Rattle.card_core.proofs.Plenty.{few_packets}
use Rattle.switch_words.specs.declared.limits.TheConstants.{MAX_WORKERS}
use Rattle.switch_words.specs.Limits.{IsUpTo}
use Rattle.switch_plan.specs.declared.plan.Plan.{Plan}
use Rattle.switch_plan.specs.declared.port_rooms.Brought.{Brought}
use Rattle.switch_plan.specs.Totals.{most_for, slots_of, total_work, total_aside, max_slots_of, sizes_for, body_room_for, packet_room_for}
use Rattle.switch_plan.specs.CountingSteps.{AreCountable, packets_of_cards}
use Rattle.switch_plan.specs.CheckingSteps.{IsOwnCard, AreOwnCards, IsSizedFor, AreSized, AreTotals, AreWhole, IsConsistent, FitsCards}
use Rattle.switch_plan.specs.PortSteps.{AreBroughtBy}
use Rattle.switch_plan.specs.GoodPlans.{IsGood, IsBurst, IsCardOf, switch_plan_of, packets_in}
use Rattle.switch_plan.proofs.Summing.{packets_at}
use Rattle.switch_plan.proofs.PortSums.{aside_is}
use Rattle.switch_plan.proofs.AllPorts.{sized_where}

-- ---- the packets of good cards can be counted
countable : (card : CardPlan) → IsGoodPlan (card_plan_of card) → IsSmallPlan (card_plan_of card) → AreCountable card.packets.items
countable card good small = record {
  few = let few = few_packets (card_plan_of card) good small in omega (arith, few);
  forwarded = λ k d inside. (good.packets k (slice_index_or card.packets.items k d) (slice_get-get_or card.packets.items k d inside)).forwarded;
}

-- the packets of cards that are all well formed
pub countable_cards : (cards : List CardPlan) (depth : ℕ) → AreOwnCards depth cards → All AreCountable (packets_of_cards cards)
countable_cards cards depth own k d inside =
    let card = at_place cards k (let l = length-map cards (λ (c : CardPlan). c.packets.items) in omega arith) in
    let is : card.0 ≡ slice_index_or cards k card.0 = sym (get_or_from_slice_get cards k card.0 card.0 card.1) in
    let same = get_or_default (packets_of_cards cards) k d card.0.packets.items inside ∙ packets_at cards k card.0 is in
    let is_own = own k card.0 card.1 in
    subst AreCountable (sym same) (countable card.0 is_own.good is_own.small)

-- ---- a plan and its cards

map_got : (cards : List CardPlan) (port : ℕ) (card : CardPlan) → slice_get cards port ≡ Some card
    → slice_get (map card_plan_of cards) port ≡ Some (card_plan_of card)
map_got cards port card there = slice_get-map card_plan_of cards port ∙ ap (option_map card_plan_of) there

pub same_packets : (plan : Plan) → packets_in (switch_plan_of plan) ≡ packets_of_cards plan.cards.items
same_packets plan = map-map (λ (card : CardView). card.packets) card_plan_of plan.cards.items

same_count : (plan : Plan) → length (switch_plan_of plan).cards ≡ length plan.cards.items
same_count plan = length-map plan.cards.items card_plan_of

pub record IsChecked (plan : Plan) : Type 0 where
  pub size : IsUpTo MAX_PORTS (length plan.cards.items)
  pub rounds : IsUpTo MAX_ROUNDS plan.rounds
  pub workers : IsUpTo MAX_WORKERS plan.workers
  pub own : AreOwnCards plan.depth plan.cards.items
  pub rest : IsConsistent plan

card_of : (plan : Plan) (packets : List (List Planned)) (ports : ℕ) → packets_in (switch_plan_of plan) ≡ packets → length (switch_plan_of plan).cards ≡ ports
    → (port : ℕ) (card : CardPlan) → IsOwnCard ports plan.depth port card → IsSizedFor packets port card
    → IsCardOf (switch_plan_of plan) port (card_plan_of card)
card_of plan packets ports same count port card own sized = record {
  good = own.good;
  number = own.number;
  ports = own.switch ∙ sym count;
  depth = own.deep;
  sizes = sized.sizes ∙ ap (sizes_for port) (sym same);
  body = sized.body ∙ ap (body_room_for port) (sym same);
  messages = sized.messages ∙ ap (packet_room_for port) (sym same);
}

-- the numbers are those of the packets where they are those of what the cards bring
pub consistent_where : (plan : Plan) (cards : List CardPlan) (brought : List Brought) → cards ≡ plan.cards.items → length cards ≤ 64
    → AreBroughtBy (packets_of_cards cards) brought → FitsCards plan cards brought ↔ IsConsistent plan
consistent_where plan cards brought same few are =
    let aside = aside_is (packets_of_cards cards) brought are in
    let rooms = sized_where cards brought few are in
    let totals = λ (them : List CardPlan). AreTotals (length them) plan.max_slots (packets_of_cards them) in (
      λ fits. record {
        totals = subst totals same fits.totals;
        aside = fits.aside ∙ aside ∙ ap (λ (them : List CardPlan). total_aside (packets_of_cards them)) same;
        sized = subst (λ (them : List CardPlan). AreSized them) same (rooms.0 fits.rooms);
        whole = fits.whole;
      },
      λ is. record {
        totals = subst totals (sym same) is.totals;
        aside = is.aside ∙ ap (λ (them : List CardPlan). total_aside (packets_of_cards them)) (sym same) ∙ sym aside;
        rooms = rooms.1 (subst (λ (them : List CardPlan). AreSized them) (sym same) is.sized);
        whole = is.whole;
      },
    )

pub good_from : (plan : Plan) → IsChecked plan → IsGood (switch_plan_of plan)
good_from plan checked =
    let same = same_packets plan in
    let count = same_count plan in
    record {
      size = subst (IsUpTo MAX_PORTS) (sym count) checked.size;
      rounds = checked.rounds;
      workers = checked.workers;
      cards = λ port card there.
          let made = got_map card_plan_of plan.cards.items port card there in
          subst (IsCardOf (switch_plan_of plan) port) made.2
          (card_of plan (packets_of_cards plan.cards.items) (length plan.cards.items) same count port made.0 (checked.own port made.0 made.1)
          (checked.rest.sized port made.0 made.1));
      max_slots = checked.rest.totals.end ∙ ap max_slots_of (sym same);
      aside = checked.rest.aside ∙ ap total_aside (sym same);
      whole = λ micro. subst (λ ps. All AreWhole ps) (sym same) (checked.rest.whole micro);
    }

pub burst_from : (plan : Plan) → IsChecked plan → IsBurst (switch_plan_of plan)
burst_from plan checked =
    let same = same_packets plan in
    let count = same_count plan in
    record {
      slots = subst (λ n. All (λ packets. slots_of packets ≤ most_for n) (packets_in (switch_plan_of plan))) (sym count)
          (subst (λ ps. All (λ packets. slots_of packets ≤ most_for (length plan.cards.items)) ps) (sym same) checked.rest.totals.slots);
      cells = subst (λ n. total_work (packets_in (switch_plan_of plan)) ≤ most_for n) (sym count)
          (subst (λ ps. total_work ps ≤ most_for (length plan.cards.items)) (sym same) checked.rest.totals.cells);
      cards = λ port card there.
          let made = got_map card_plan_of plan.cards.items port card there in
          subst IsSmallPlan made.2 (checked.own port made.0 made.1).small;
    }

pub good_to : (plan : Plan) → IsGood (switch_plan_of plan) → IsBurst (switch_plan_of plan) → IsChecked plan
good_to plan good burst =
    let same = same_packets plan in
    let count = same_count plan in
    record {
      size = subst (IsUpTo MAX_PORTS) count good.size;
      rounds = good.rounds;
      workers = good.workers;
      own = λ port card there.
          let got = map_got plan.cards.items port card there in
          let is = good.cards port (card_plan_of card) got in
          record { good = is.good; small = burst.cards port (card_plan_of card) got; number = is.number; switch = is.ports ∙ count; deep = is.depth };
      rest = record {
        sized = λ port card there.
            let is = good.cards port (card_plan_of card) (map_got plan.cards.items port card there) in
            record {
              sizes = is.sizes ∙ ap (sizes_for port) same;
              body = is.body ∙ ap (body_room_for port) same;
              messages = is.messages
                  ∙ ap (packet_room_for port) same;
            };
        totals = record {
          slots = subst (λ n. All (λ packets. slots_of packets ≤ most_for n) (packets_of_cards plan.cards.items)) count
              (subst (λ ps. All (λ packets. slots_of packets ≤ most_for (length (switch_plan_of plan).cards)) ps) same burst.slots);
          cells = subst (λ n. total_work (packets_of_cards plan.cards.items) ≤ most_for n) count
              (subst (λ ps. total_work ps ≤ most_for (length (switch_plan_of plan).cards)) same burst.cells);
          end = good.max_slots ∙ ap max_slots_of same;
        };
        aside = good.aside ∙ ap total_aside same;
        whole = λ micro. subst (λ ps. All AreWhole ps) same (good.whole micro);
      };
    }
