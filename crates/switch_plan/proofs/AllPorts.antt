-- The cards that are made of all ports and of what these bring.
use Rattle.std.proofs.Common.{◌≡◌, ◌∙◌, ◌↔◌, ℕ, ◌+◌, ◌<◌, ◌≤◌, List, [], ◌∷◌, ◌++◌, length, Some, ap, sym, subst, arith, inl, inr}
use Rattle.std.specs.Prelude.{slice_get, sum_by}
use Rattle.std.proofs.lemmas.List.{length_push}
use Rattle.std.proofs.lemmas.Option.{slice_get_within}
use Rattle.std.proofs.lemmas.Slice.Zip.{AllZip-long}
use Rattle.std_lemmas.proofs.Lists.{get-snoc}
use Rattle.card_core.specs.declared.plan.Planned.{Planned}
use Rattle.card_core.specs.declared.plan.CardPlan.{CardPlan}
use Rattle.switch_plan.specs.declared.port_rooms.Brought.{Brought}
use Rattle.switch_plan.specs.declared.port_plans.PortPlan.{PortPlan}
use Rattle.switch_plan.specs.Totals.{greatest_slots, max_slots_of}
use Rattle.switch_plan.specs.CountingSteps.{AreCountable, packets_of_cards}
use Rattle.switch_plan.specs.PortSteps.{IsBroughtBy, AreBroughtBy, HasRooms}
use Rattle.switch_plan.specs.CheckingSteps.{IsSizedFor, AreSized, HaveRooms}
use Rattle.switch_plan.specs.JobSteps.{packets_of_ports, IsCardWith, IsCardOfPort, AreCardsOf}
use Rattle.switch_plan.proofs.OverLimits.{map_both}
use Rattle.switch_plan.proofs.PortSums.{ports_long, work_is, sizes_are, bytes_are, messages_are}

-- the second list has an item for each of the first, and this holds of the two, number by number
pub record AreBoth {A B : Type 0} (R : ℕ → A → B → Type 0) (xs : List A) (ys : List B) : Type 0 where
  pub count : length ys ≡ length xs
  pub each : (k : ℕ) (a : A) (b : B) → slice_get xs k ≡ Some a → slice_get ys k ≡ Some b → R k a b

-- with one item more of each
pub both_push : {A B : Type 0} (R : ℕ → A → B → Type 0) (xs : List A) (ys : List B) (x : A) (y : B) → AreBoth R xs ys → R (length xs) x y
    → AreBoth R (xs ++ x ∷ []) (ys ++ y ∷ [])
both_push R xs ys x y before here =
    let same = before.count in
    record {
      count = omega (arith, length_push ys y, length_push xs x);
      each = λ k a b at_a at_b. elim (get-snoc xs x a k at_a) [
        | inl first ↦ elim (get-snoc ys y b k at_b) [
          | inl second ↦ before.each k a b first second
          | inr last ↦ absurd (let inside = slice_get_within xs k a first in let is = last.0 in omega arith)
        ]
        | inr end ↦ elim (get-snoc ys y b k at_b) [
          | inl second ↦ absurd (let inside = slice_get_within ys k b second in let is = end.0 in omega arith)
          | inr last ↦ subst (λ j. R j a b) (sym end.0) (subst (R (length xs) a) last.1 (subst (λ c. R (length xs) c y) end.1 here))
        ]
      ];
    }

module _ (ports : List (List Planned)) (brought : List Brought) (are : AreBroughtBy ports brought) where
  -- there are as many ports as packets of ports
  pub brought_long : length brought ≡ length ports
  brought_long = AllZip-long (λ packets port. AreCountable packets × IsBroughtBy packets port) ports brought are

  -- a card with the rooms for what ports bring is sized for their packets, and the other way round
  module _ (output : ℕ) (below : output < 64) (card : CardPlan) where
    pub sized_from : HasRooms brought output card → IsSizedFor ports output card
    sized_from rooms = record {
      sizes = rooms.sizes ∙ sizes_are output below ports brought are;
      body = rooms.body ∙ bytes_are output below ports brought are;
      messages = rooms.messages ∙ messages_are output below ports brought are;
    }

    pub sized_to : IsSizedFor ports output card → HasRooms brought output card
    sized_to sized = record {
      sizes = sized.sizes ∙ sym (sizes_are output below ports brought are);
      body = sized.body ∙ sym (bytes_are output below ports brought are);
      messages = sized.messages ∙ sym (messages_are output below ports brought are);
    }

-- cards with the rooms for what they bring are sized for their packets, and the other way round
pub sized_where : (cards : List CardPlan) (brought : List Brought) → length cards ≤ 64 → AreBroughtBy (packets_of_cards cards) brought
    → HaveRooms brought cards ↔ AreSized cards
sized_where cards brought few are =
    let below : (port : ℕ) (card : CardPlan) → slice_get cards port ≡ Some card → port < 64 = λ port card there.
    omega (arith, few, slice_get_within cards port card there) in (
      λ have port card there. sized_from (packets_of_cards cards) brought are port (below port card there) card (have port card there),
      λ sized port card there. sized_to (packets_of_cards cards) brought are port (below port card there) card (sized port card there),
    )

-- the card of a port that has the rooms for what all ports bring
pub card_made : (ports : List PortPlan) (brought : List Brought) (depth k : ℕ) (port : PortPlan) (card : CardPlan)
    → AreBroughtBy (packets_of_ports ports) brought → k < 64 → IsCardWith brought depth k port card → IsCardOfPort ports depth k port card
card_made ports brought depth k port card are below is =
    let sized = sized_from (packets_of_ports ports) brought are k below card is.rooms in
    record {
      number = is.number;
      size = is.size ∙ brought_long (packets_of_ports ports) brought are ∙ ports_long ports;
      deep = is.deep;
      kept = ap (λ bytes. bytes.items) is.kept;
      packets = ap (λ packets. packets.items) is.packets;
      sizes = sized.sizes;
      body = sized.body;
      messages = sized.messages;
    }

-- the run of cards ends with that of the ports that they are made of
pub end_is : (ports : List PortPlan) (brought : List Brought) (depth : ℕ) (cards these : List CardPlan) → AreBroughtBy (packets_of_ports ports) brought
    → AreCardsOf ports depth cards → these ≡ cards
    → greatest_slots (packets_of_cards these) + sum_by (λ (port : Brought). port.work) brought + 1 ≡ max_slots_of (packets_of_ports ports)
end_is ports brought depth cards these bring are same =
    let packets : packets_of_cards cards ≡ packets_of_ports ports =
    map_both (λ (card : CardPlan). card.packets.items) (λ (port : PortPlan). port.packets.items) cards ports (sym are.count)
    (λ k card port at_card at_port. (are.each k port card at_port at_card).packets) in
    let slots = ap (λ (them : List CardPlan). greatest_slots (packets_of_cards them)) same ∙ ap greatest_slots packets in
    omega (arith, slots, work_is (packets_of_ports ports) brought bring)
