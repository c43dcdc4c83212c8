-- The totals of a plan by the greatest number of arrival slots, and facts of all cards as far as a loop has come.
use Rattle.std.proofs.Common.{◌≡◌, ◌∙◌, ◌↔◌, ℕ, ◌+◌, ◌<◌, ◌≤◌, max, List, [], ◌∷◌, length, take, slice_index_or, Some, sym, subst, arith, inl, inr}
use Rattle.std.specs.Prelude.{fold, slice_get, All}
use Rattle.std.proofs.lemmas.Bool.{cases_eq}
use Rattle.std.proofs.lemmas.Option.{get_or_from_slice_get}
use Rattle.std.proofs.lemmas.List.Elements.{All-nil, All-cons, All-head, All-tail, All-more}
use Rattle.std.proofs.lemmas.List.{take_all, length-map}
use Rattle.card_core.specs.declared.plan.Planned.{Planned}
use Rattle.card_core.specs.declared.plan.CardPlan.{CardPlan}
use Rattle.switch_plan.specs.Totals.{most_for, slots_of, greatest_slots, total_work}
use Rattle.switch_plan.specs.CountingSteps.{packets_of_cards}
use Rattle.switch_plan.specs.CheckingSteps.{AreTotals}
use Rattle.switch_plan.proofs.Summing.{packets_at}

-- ---- the greatest number of slots
greatest_tells : (most a : ℕ) (ports : List (List Planned)) → fold (λ m packets. max m (slots_of packets)) a ports ≤ most → (a ≤ most)
    × All (λ packets. slots_of packets ≤ most) ports
greatest_tells most a [] few = (few, All-nil (λ packets. slots_of packets ≤ most))
greatest_tells most a (packets ∷ ports) few =
    let rest = greatest_tells most (max a (slots_of packets)) ports few in
    let both = rest.0 in
    (omega arith, All-cons (λ packets. slots_of packets ≤ most) packets ports (omega arith) rest.1)

pub greatest_few : (most a : ℕ) (ports : List (List Planned)) → a ≤ most → All (λ packets. slots_of packets ≤ most) ports
    → fold (λ m packets. max m (slots_of packets)) a ports ≤ most
greatest_few most a [] few all = few
greatest_few most a (packets ∷ ports) few all =
    let first = All-head (λ packets. slots_of packets ≤ most) packets ports all in
    greatest_few most (max a (slots_of packets)) ports (omega arith) (All-tail (λ packets. slots_of packets ≤ most) packets ports all)

-- what `is_end` tells of these counts and their greatest
abbrev pub IsEnd : ℕ → ℕ → ℕ → ℕ → Type 0
IsEnd slots cells end most = (slots ≤ most) × (cells ≤ most) × (end ≡ slots + cells + 1)

pub totals_where : (ports max_slots : ℕ) (packets : List (List Planned))
    → IsEnd (greatest_slots packets) (total_work packets) max_slots (most_for ports) ↔ AreTotals ports max_slots packets
totals_where ports max_slots packets = (
  λ is. record { slots = (greatest_tells (most_for ports) 0 packets is.0).1; cells = is.1; end = is.2 },
  λ totals. (greatest_few (most_for ports) 0 packets (omega arith) totals.slots, totals.cells, totals.end),
)

-- ---- all cards as far as a loop has come
-- by the packets of each card
pub all_at : (P : List Planned → Type 0) (cards : List CardPlan) (k : ℕ) (card : CardPlan) → All P (packets_of_cards cards) → k < length cards
    → card ≡ slice_index_or cards k card → P card.packets.items
all_at P cards k card all inside is =
    subst P (packets_at cards k card is) (all k card.packets.items (let l = length-map cards (λ (c : CardPlan). c.packets.items) in omega arith))

pub all_next : (P : List Planned → Type 0) (cards : List CardPlan) (k : ℕ) (card : CardPlan) → k < length cards → card ≡ slice_index_or cards k card
    → All P (take k (packets_of_cards cards)) → P card.packets.items → All P (take (k + 1) (packets_of_cards cards))
all_next P cards k card inside is before here =
    All-more P (packets_of_cards cards) k card.packets.items (let l = length-map cards (λ (c : CardPlan). c.packets.items) in omega arith) before
    (subst P (sym (packets_at cards k card is)) here)

pub all_end : (P : List Planned → Type 0) (cards : List CardPlan) (k : ℕ) → length cards ≤ k → All P (take k (packets_of_cards cards))
    → All P (packets_of_cards cards)
all_end P cards k past before =
    subst (All P) (take_all k (packets_of_cards cards) (let l = length-map cards (λ (c : CardPlan). c.packets.items) in omega arith)) before

-- by the number of each card
abbrev pub HoldsBelow : ℕ → (ℕ → CardPlan → Type 0) → List CardPlan → Type 0
HoldsBelow k P cards = (j : ℕ) (c : CardPlan) → j < k → slice_get cards j ≡ Some c → P j c

pub each_next : (P : ℕ → CardPlan → Type 0) (cards : List CardPlan) (k : ℕ) (card : CardPlan) → card ≡ slice_index_or cards k card
    → HoldsBelow k P cards → P k card → HoldsBelow (k + 1) P cards
each_next P cards k card is before here j c less there = elim (cases_eq j k) [
  | inl same ↦
      let found : slice_get cards k ≡ Some c = subst (λ i. slice_get cards i ≡ Some c) same there in
      subst (λ i. P i c) (sym same) (subst (P k) (is ∙ get_or_from_slice_get cards k c card found) here)
  | inr other ↦ before j c (omega arith) there
]
