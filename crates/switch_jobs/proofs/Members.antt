-- Lists that were gone through in part, and members of a board that are made one by one.
use Rattle.std.proofs.Common.{◌≡◌, ◌∙◌, ℕ, List, [], ◌∷◌, ◌++◌, length, map, sym, ap, subst, inl, inr}
use Rattle.std.specs.Prelude.{Some, slice_get}
use Rattle.std.proofs.lemmas.List.{map_push}
use Rattle.std_lemmas.proofs.Lists.{get-snoc}
use Rattle.slot_histories.specs.declared.events.Event.{Event}
use Rattle.turn_lock.specs.Seats.{TurnValue}
use Rattle.slot_board.specs.Seats.{refusals}
use Rattle.card_core.specs.declared.plan.CardPlan.{CardPlan}
use Rattle.card_core.specs.Plans.{plan_of}
use Rattle.card_worker.specs.declared.hands.Member.{Member}
use Rattle.card_worker.specs.Trying.{IsMember}
use Rattle.switch_jobs.specs.ReadinessSteps.{plans_in}

-- members that were not refused
abbrev pub AreFresh : List Member → Type 0
AreFresh members = (i : ℕ) (member : Member) → slice_get members i ≡ Some member → refusals member.seat ≡ 0

pub AreFresh-more : (members : List Member) (member : Member) → AreFresh members → refusals member.seat ≡ 0 → AreFresh (members ++ member ∷ [])
AreFresh-more members member each own i m at =
    elim (get-snoc members member m i at) [
      | inl early ↦ each i m early
      | inr last ↦ subst (λ (x : Member). refusals x.seat ≡ 0) last.1 own
    ]

-- members of a board, by card
abbrev pub AreInPlace : TurnValue Event → List Member → Type 0
AreInPlace board members = (i : ℕ) (member : Member) → slice_get members i ≡ Some member → IsMember board member × (member.seat.number ≡ i)

pub AreInPlace-more : (board : TurnValue Event) (members : List Member) (member : Member) → AreInPlace board members → IsMember board member
    → member.seat.number ≡ length members → AreInPlace board (members ++ member ∷ [])
AreInPlace-more board members member each own number i m at =
    elim (get-snoc members member m i at) [
      | inl early ↦ each i m early
      | inr last ↦ (subst (IsMember board) last.1 own, ap (λ (x : Member). x.seat.number) (sym last.1) ∙ (number ∙ sym last.0))
    ]

pub plans_more : (members : List Member) (member : Member) (cards : List CardPlan) (card : CardPlan) → plans_in members ≡ map plan_of cards
    → member.hand.card.sends.plan ≡ plan_of card → plans_in (members ++ member ∷ []) ≡ map plan_of (cards ++ card ∷ [])
plans_more members member cards card so_far own =
    map_push (λ (m : Member). m.hand.card.sends.plan) members member
    ∙ (ap (λ ps. ps ++ member.hand.card.sends.plan ∷ []) so_far
    ∙ (ap (λ p. map plan_of cards ++ p ∷ []) own ∙ sym (map_push plan_of cards card)))
