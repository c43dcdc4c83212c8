-- What is told of a card's packets is what a reference takes.
use Rattle.std.proofs.Common.{◌≡◌, ◌≢◌, ◌∙◌, ℕ, zero, suc, ◌+◌, ◌<◌, not, Bool, true, false, List, [], ◌∷◌, ◌++◌, map, take, length, Some, slice_get}
use Rattle.std.proofs.Common.{slice_index_or, refl, ap, subst, arith, if◌then◌else◌}
use Rattle.std.specs.Prelude.{filter}
use Rattle.std.proofs.lemmas.Bool.{eq-eqb}
use Rattle.std.proofs.lemmas.List.{length-map, map-append}
use Rattle.std.proofs.lemmas.List.Elements.{filter_more}
use Rattle.std.proofs.lemmas.List.Filters.{length-filter_both}
use Rattle.std.proofs.lemmas.List.Sums.{get_or-le-sum_by}
use Rattle.std.proofs.lemmas.Option.{same_Some, slice_get_within, get_or_from_slice_get}
use Rattle.std_lemmas.proofs.Lists.{got_map}
use Rattle.std_lemmas.proofs.MappedSums.{sum_by-map}
use Rattle.card_core.specs.declared.plan.Planned.{Planned}
use Rattle.card_core.specs.Plans.{Plan, IsGoodPlan}
use Rattle.card_core.specs.Queues.{is_routed}
use Rattle.switch_plan.specs.GoodPlans.{SwitchPlan, IsGood, IsCountable}
use Rattle.output_queued.specs.declared.coming.Coming.{Coming}
use Rattle.output_queued.specs.Switches.{IsComing, IsInput, IsSwitch}
use Rattle.reference_run.specs.Meeting.{coming_of, coming_in}

abbrev told : List Planned → List Coming
told ps = map coming_of (filter is_routed ps)

-- where a packet that is told of stands
pub record StandsAt (ps : List Planned) (c : Coming) : Type 0 where
  pub place : ℕ
  pub packet : Planned
  pub found : slice_get ps place ≡ Some packet
  pub routed : is_routed packet ≡ true
  pub same : coming_of packet ≡ c

abbrev later : (p : Planned) (ps : List Planned) (c : Coming) → StandsAt ps c → StandsAt (p ∷ ps) c
later p ps c at = record { place = suc at.place; packet = at.packet; found = at.found; routed = at.routed; same = at.same }

stands-step : (p : Planned) (ps : List Planned) (c : Coming) → ((k : ℕ) → slice_get (told ps) k ≡ Some c → StandsAt ps c) → (b : Bool) → is_routed p ≡ b
    → (k : ℕ)
    → slice_get (map coming_of (if b then p ∷ filter is_routed ps else filter is_routed ps)) k ≡ Some c → StandsAt (p ∷ ps) c
stands-step p ps c rest true routed zero is = record { place = 0; packet = p; found = refl; routed = routed; same = same_Some (coming_of p) c is }
stands-step p ps c rest true routed (suc k) is = later p ps c (rest k is)
stands-step p ps c rest false routed k is = later p ps c (rest k is)

pub stands-at : (ps : List Planned) (k : ℕ) (c : Coming) → slice_get (told ps) k ≡ Some c → StandsAt ps c
stands-at [] k c is = absurd (cc)
stands-at (p ∷ ps) k c is = stands-step p ps c (λ m at. stands-at ps m c at) (is_routed p) refl k is

pub record StandInOrder (ps : List Planned) (c d : Coming) : Type 0 where
  pub first : StandsAt ps c
  pub second : StandsAt ps d
  pub order : first.place < second.place

both-later : (p : Planned) (ps : List Planned) (c d : Coming) → StandInOrder ps c d → StandInOrder (p ∷ ps) c d
both-later p ps c d two = record { first = later p ps c two.first; second = later p ps d two.second; order = let less = two.order in omega arith }

-- where the one stands before the other in a list, the packets do
abbrev KeepOrder : List Coming → List Planned → Coming → Coming → Type 0
KeepOrder coming ps c d = (k m : ℕ) → slice_get coming k ≡ Some c → slice_get coming m ≡ Some d → k < m → StandInOrder ps c d

order-step : (p : Planned) (ps : List Planned) (c d : Coming) → KeepOrder (told ps) ps c d → (b : Bool) → is_routed p ≡ b
    → KeepOrder (map coming_of (if b then p ∷ filter is_routed ps else filter is_routed ps)) (p ∷ ps) c d
order-step p ps c d rest true routed k zero is there less = absurd (omega arith)
order-step p ps c d rest true routed zero (suc m) is there less = record {
  first = record { place = 0; packet = p; found = refl; routed = routed; same = same_Some (coming_of p) c is };
  second = later p ps d (stands-at ps m d there);
  order = omega arith;
}
order-step p ps c d rest true routed (suc k) (suc m) is there less = both-later p ps c d (rest k m is there (omega arith))
order-step p ps c d rest false routed k m is there less = both-later p ps c d (rest k m is there less)

pub stand-in_order : (ps : List Planned) (k m : ℕ) (c d : Coming) → slice_get (told ps) k ≡ Some c → slice_get (told ps) m ≡ Some d → k < m
    → StandInOrder ps c d
stand-in_order [] k m c d is there less = absurd (cc)
stand-in_order (p ∷ ps) k m c d is there less =
    order-step p ps c d (λ a b at at' before. stand-in_order ps a b c d at at' before) (is_routed p) refl k m is there less

module _ (card : Plan) (good : IsGoodPlan card) where
  pub some_fan : (p : Planned) → is_routed p ≡ true → p.fan ≢ 0
  some_fan p routed none = let e = eq-eqb p.fan 0 none in let r : not true ≡ true = rw e at routed in absurd (cc)

  told-packet : (c : Coming) → StandsAt card.packets c → IsComing card.ports c
  told-packet c at =
      let planned = good.packets at.place at.packet at.found in
      let some = some_fan at.packet at.routed in
      let len = planned.forwarded some in
      subst (IsComing card.ports) at.same (record {
        some = omega arith;
        few = omega arith;
        level = planned.level;
        routed = some;
        fan = planned.fan;
      })

  pub told-input : length card.packets < 4294967296 → IsInput card.ports (coming_in card)
  told-input few = record {
    few =
        let long = length-map (filter is_routed card.packets) coming_of in
        let all = length-filter_both is_routed (λ p. not (is_routed p)) (λ p. refl) card.packets in
        omega arith;
    packets = λ k c there. told-packet c (stands-at card.packets k c there);
    rising = λ k m c d at there less.
        let two = stand-in_order card.packets k m c d at there less in
        let up = good.rising two.first.place two.second.place two.first.packet two.second.packet two.first.found two.second.found two.order in
        let first : two.first.packet.arrival ≡ c.slot = ap (λ (x : Coming). x.slot) two.first.same in
        let second : two.second.packet.arrival ≡ d.slot = ap (λ (x : Coming). x.slot) two.second.same in
        omega arith;
  }

first-card : (cards : List Plan) → 0 < length cards → (card : Plan) × (slice_get cards 0 ≡ Some card)
first-card [] some = absurd (omega arith)
first-card (card ∷ cards) some = (card, refl)

-- the cards of a countable plan make a switch
pub told-switch : (plan : SwitchPlan) → IsGood plan → IsCountable plan → IsSwitch (length plan.cards) plan.depth (map coming_in plan.cards)
told-switch plan good countable = record {
  some = good.size.some;
  size = good.size.most;
  deep = let (card, first) = first-card plan.cards good.size.some in let is = good.cards 0 card first in let deep = is.good.deep in let same = is.depth in
      omega arith;
  count = length-map plan.cards coming_in;
  each = λ i coming there.
      let (card, at, same) = got_map coming_in plan.cards i coming there in
      let is = good.cards i card at in
      let packets : Plan → ℕ = λ c. length c.packets in
      let one = get_or-le-sum_by packets plan.cards i card (slice_get_within plan.cards i card at) in
      let found = ap packets (get_or_from_slice_get plan.cards i card card at) in
      let all = sum_by-map length (λ (c : Plan). c.packets) plan.cards in
      let most = countable.packets in
      subst (IsInput (length plan.cards)) same (subst (λ n. IsInput n (coming_in card)) is.ports (told-input card is.good (omega arith)));
}

-- ---- packets and cards, as far as they were looked at
told-if : (b : Bool) (p : Planned) → is_routed p ≡ b → map coming_of (if is_routed p then p ∷ [] else []) ≡ (if b then coming_of p ∷ [] else [])
told-if true p is = rw is refl
told-if false p is = rw is refl

pub told-more : (ps : List Planned) (i : ℕ) (d : Planned) → i < length ps → (b : Bool) → is_routed (slice_index_or ps i d) ≡ b
    → map coming_of (filter is_routed (take (i + 1) ps)) ≡ map coming_of (filter is_routed (take i ps))
    ++ (if b then coming_of (slice_index_or ps i d) ∷ [] else [])
told-more ps i d inside b is =
    let x = slice_index_or ps i d in
    ap (map coming_of) (filter_more is_routed ps i d inside)
    ∙ map-append coming_of (filter is_routed (take i ps)) (if is_routed x then x ∷ [] else [])
    ∙ ap (λ ys. map coming_of (filter is_routed (take i ps)) ++ ys) (told-if b x is)
