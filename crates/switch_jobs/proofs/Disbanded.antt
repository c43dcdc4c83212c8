-- Hands and seats of groups that were disbanded, and what the hands' cards leave.
use Rattle.std.proofs.Common.{◌≡◌, ◌∙◌, ◌⊎◌, ℕ, ◌-◌, ◌^◌, List, [], ◌∷◌, ◌++◌, sym, ap, subst, arith, inl, inr}
use Rattle.std.specs.Prelude.{Some, slice_get}
use Rattle.std.specs.Option.{option_map}
use Rattle.std.proofs.lemmas.List.{length-map, length_push}
use Rattle.std.proofs.lemmas.Option.{slice_get-map, slice_get_within}
use Rattle.std_lemmas.proofs.Options.{some_same}
use Rattle.std_lemmas.proofs.Lists.{at_place, get-snoc}
use Rattle.slot_histories.specs.declared.events.Event.{Event}
use Rattle.turn_lock.specs.Seats.{SeatValue}
use Rattle.slot_board.specs.Seats.{is_due, refusals}
use Rattle.slot_board.specs.Boards.{least_refused}
use Rattle.card_core.specs.Plans.{Plan as CardPlan}
use Rattle.card_core.specs.declared.outcome.CardOut.{CardOut}
use Rattle.card_worker.specs.declared.hands.Hand.{Hand}
use Rattle.card_worker.specs.declared.hands.Group.{Group}
use Rattle.card_worker.specs.AloneSteps.{plans_of}
use Rattle.card_worker.specs.Disbanding.{AreFrom}
use Rattle.switch_jobs.specs.OneJournal.{HaveWaited}
use Rattle.switch_jobs.specs.SharingSteps.{ArePlanned}
use Rattle.switch_jobs.specs.EndingSteps.{Leaves, AreLeft, AreOfPlans}
use Rattle.switch_jobs.proofs.Adding.{least-exact}

module _ (groups : List Group) (seats : List (SeatValue Event)) (hands : List Hand) (count : ℕ) (from : AreFrom groups seats hands count) where
  -- the hands are of the plans, and so are hands of the same plans
  pub planned_left : (plans : List CardPlan) (after : List Hand) → ArePlanned plans groups → plans_of after ≡ plans_of hands → AreOfPlans plans after
  planned_left plans after planned same i hand at =
      let plan = λ (h : Hand). h.card.sends.plan in
      let own : slice_get (plans_of hands) i ≡ Some hand.card.sends.plan = ap (λ ps. slice_get ps i) (sym same)
      ∙ (slice_get-map plan after i ∙ ap (option_map plan) at) in
      let inside = slice_get_within (plans_of hands) i hand.card.sends.plan own in
      let long = length-map hands plan in
      let seats_are = from.seats_are in
      let hands_are = from.hands_are in
      let (old, was) = at_place hands i (omega arith) in
      let (seat, too) = at_place seats i (omega arith) in
      let is : old.card.sends.plan ≡ hand.card.sends.plan =
      some_same old.card.sends.plan hand.card.sends.plan (slice_get (plans_of hands) i) (slice_get-map plan hands i ∙ ap (option_map plan) was) own in
      let each = from.each i old seat was too in
      ap (slice_get plans) (sym each.0) ∙ (planned (record { hand = old; seat = seat }) each.1 ∙ ap Some is)

  -- each due seat was refused as often
  pub waited_left : (patience : ℕ) → HaveWaited patience groups → (least_refused seats ≡ patience) ⊎ (least_refused seats ≡ 2 ^ 64 - 1)
  waited_left patience waited =
      least-exact is_due refusals seats patience (λ i seat at due.
      let inside = slice_get_within seats i seat at in
      let seats_are = from.seats_are in
      let hands_are = from.hands_are in
      let (hand, mine) = at_place hands i (omega arith) in
      waited (record { hand = hand; seat = seat }) (from.each i hand seat mine at).1 due)

-- one more card left something
pub AreLeft-more : (hands : List Hand) (outputs : List CardOut) (hand : Hand) (out : CardOut) → AreLeft hands outputs → Leaves hand.card out
    → AreLeft (hands ++ hand ∷ []) (outputs ++ out ∷ [])
AreLeft-more hands outputs hand out left own =
    let count = left.count in
    record {
      count = let a = length_push hands hand in let b = length_push outputs out in omega arith;
      each = λ i h o at too.
          elim (get-snoc hands hand h i at) [
            | inl early ↦
                let inside = slice_get_within hands i h early in
                elim (get-snoc outputs out o i too) [
                  | inl early_too ↦ left.each i h o early early_too
                  | inr last ↦ let end = last.0 in absurd (omega arith)
                ]
            | inr last ↦
                elim (get-snoc outputs out o i too) [
                  | inl early ↦ let inside = slice_get_within outputs i o early in let end = last.0 in absurd (omega arith)
                  | inr last_too ↦ subst (λ (x : Hand). Leaves x.card o) last.1 (subst (λ (x : CardOut). Leaves hand.card x) last_too.1 own)
                ]
          ];
    }
