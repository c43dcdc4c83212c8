-- A plan with queues of another depth: what stays, and that it is as good.
use Rattle.std.proofs.Common.{◌≡◌, ◌∙◌, ℕ, suc, ◌<◌, ◌≤◌, List, [], ◌∷◌, map, Option, Some, None, slice_get, refl, sym, ap, subst, arith}
use Rattle.std.specs.Option.{option_map}
use Rattle.std.proofs.lemmas.List.{length-map, get_or-map, get_or_past}
use Rattle.std.proofs.lemmas.Option.{slice_get-map, same_Some}
use Rattle.std.proofs.lemmas.Simd.{map-map}
use Rattle.voq_banks.specs.declared.limits.TheConstants.{MAX_DEPTH}
use Rattle.forward_table.specs.declared.route_lines.RouteLine.{RouteLine}
use Rattle.card_core.specs.Plans.{Plan as CardPlan, IsGoodPlan, IsSmallPlan, bytes_of}
use Rattle.switch_words.specs.declared.job.Settings.{Settings}
use Rattle.switch_words.specs.Limits.{IsUpTo}
use Rattle.switch_plan.specs.Traffic.{CaptureFile, unplaced}
use Rattle.switch_plan.specs.Totals.{total_aside, max_slots_of, sizes_for, body_room_for, packet_room_for}
use Rattle.switch_plan.specs.GoodPlans.{SwitchPlan, IsCardOf, IsGood, IsBurst, IsPlanOf, packets_in}
use Rattle.run_laws.specs.Runs.{ports_of, setup_for, card_at, no_plan}
use Rattle.queue_measures.specs.Sizing.{card_with_depth, with_depth}

module _ (depth : ℕ) (plan : SwitchPlan) where
  abbrev other : SwitchPlan
  other = with_depth depth plan

  -- ---- its ports and their packets
  pub ports_same : ports_of other ≡ ports_of plan
  ports_same = length-map plan.cards (card_with_depth depth)

  pub setup_same : setup_for other ≡ setup_for plan
  setup_same = ap (λ n. record { ports = n; rounds = plan.rounds; max_slots = plan.max_slots }) ports_same

  pub card_other : (i : ℕ) → i < ports_of plan → card_at other i ≡ card_with_depth depth (card_at plan i)
  card_other i inside = get_or-map (card_with_depth depth) plan.cards i no_plan no_plan inside

  pub card_beyond : (i : ℕ) → ports_of plan ≤ i → card_at other i ≡ card_at plan i
  card_beyond i beyond = get_or_past other.cards i no_plan (omega (arith, beyond, ports_same)) ∙ sym (get_or_past plan.cards i no_plan beyond)

  packets_same : packets_in other ≡ packets_in plan
  packets_same = map-map (λ (card : CardPlan). card.packets) (card_with_depth depth) plan.cards

  -- ---- it is as good
  abbrev Found : ℕ → CardPlan → Type 0
  Found i card = (mine : CardPlan) × (slice_get plan.cards i ≡ Some mine) × (card_with_depth depth mine ≡ card)

  found_by : (i : ℕ) (card : CardPlan) (mine : Option CardPlan) → slice_get plan.cards i ≡ mine
      → option_map (card_with_depth depth) mine ≡ Some card → Found i card
  found_by i card None is there = absurd (cc)
  found_by i card (Some mine) is there = (mine, is, same_Some (card_with_depth depth mine) card there)

  found : (i : ℕ) (card : CardPlan) → slice_get other.cards i ≡ Some card → Found i card
  found i card there = found_by i card (slice_get plan.cards i) refl (sym (slice_get-map (card_with_depth depth) plan.cards i) ∙ there)

  good_card : 0 < depth → (card : CardPlan) → IsGoodPlan card → IsGoodPlan (card_with_depth depth card)
  good_card some card good = record {
    some = good.some;
    size = good.size;
    card = good.card;
    deep = some;
    packets = good.packets;
    rising = good.rising;
    flows = good.flows;
    sizes = good.sizes;
  }

  card_of : 0 < depth → (i : ℕ) (card : CardPlan) → IsCardOf plan i card → IsCardOf other i (card_with_depth depth card)
  card_of some i card is = record {
    good = good_card some card is.good;
    number = is.number;
    ports = is.ports ∙ sym ports_same;
    depth = refl;
    sizes = is.sizes ∙ ap (sizes_for i) (sym packets_same);
    body = is.body ∙ ap (body_room_for i) (sym packets_same);
    messages = is.messages ∙ ap (packet_room_for i) (sym packets_same);
  }

  pub IsGood-depth : IsGood plan → 0 < depth → IsGood other
  IsGood-depth good some = record {
    size = subst (IsUpTo _) (sym ports_same) good.size;
    rounds = good.rounds;
    workers = good.workers;
    cards = λ i card there.
        let at = found i card there in
        subst (IsCardOf other i) at.2 (card_of some i at.0 (good.cards i at.0 at.1));
    max_slots = good.max_slots ∙ ap max_slots_of (sym packets_same);
    aside = good.aside ∙ ap total_aside (sym packets_same);
    whole = rw packets_same good.whole;
  }

  small_card : depth ≤ MAX_DEPTH → (card : CardPlan) → IsSmallPlan card → IsSmallPlan (card_with_depth depth card)
  small_card few card small = record { early = small.early; depth = few; messages = small.messages; body = small.body }

  -- and as small
  pub IsBurst-depth : IsBurst plan → depth ≤ MAX_DEPTH → IsBurst other
  IsBurst-depth burst few = record {
    slots = rw (packets_same, ports_same) burst.slots;
    cells = rw (packets_same, ports_same) burst.cells;
    cards = λ i card there.
        let at = found i card there in
        subst IsSmallPlan at.2 (small_card few at.0 (burst.cards i at.0 at.1));
  }

  -- and the plan of the job with that depth
  pub IsPlanOf-depth : (settings : Settings) (files : List (List ℕ)) (table : List RouteLine) (captures : List CaptureFile)
      → IsPlanOf settings files table captures plan → IsPlanOf (record settings { depth = depth }) files table captures other
  IsPlanOf-depth settings files table captures is = record {
    nano = is.nano;
    link = is.link;
    rounds = is.rounds;
    depth = refl;
    workers = is.workers;
    oversize = is.oversize;
    unrouted = is.unrouted;
    packets = ap (map (map unplaced)) packets_same ∙ is.packets;
    places = ap (map (map (λ packet. packet.start))) packets_same ∙ is.places;
    kept = map-map (λ (card : CardPlan). card.bytes) (card_with_depth depth) plan.cards ∙ is.kept;
    bodies = map-map (λ (card : CardPlan). map (bytes_of card) card.packets) (card_with_depth depth) plan.cards ∙ is.bodies;
  }

-- ---- with its own depth again the plan is what it was
cards_again : (depth own : ℕ) (cards : List CardPlan) → ((i : ℕ) (card : CardPlan) → slice_get cards i ≡ Some card → card.depth ≡ own)
    → map (card_with_depth own) (map (card_with_depth depth) cards) ≡ cards
cards_again depth own [] are = refl
cards_again depth own (card ∷ cards) are =
    let first : card_with_depth own card ≡ card = ap (λ d. card_with_depth d card) (sym (are 0 card refl)) in
    ap (λ c. c ∷ map (card_with_depth own) (map (card_with_depth depth) cards)) first
    ∙ ap (λ cs. card ∷ cs) (cards_again depth own cards (λ i c there. are (suc i) c there))

pub own_depth_again : (depth : ℕ) (plan : SwitchPlan) → IsGood plan → with_depth plan.depth (with_depth depth plan) ≡ plan
own_depth_again depth plan good =
    ap (λ cards. record plan { cards = cards }) (cards_again depth plan.depth plan.cards (λ i card there. (good.cards i card there).depth))
