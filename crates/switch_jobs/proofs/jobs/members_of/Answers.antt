use Rattle.std.proofs.Common.{◌≡◌, ◌∙◌, suc, ◌+◌, ◌<◌, ◌∷◌, [], ◌++◌, length, refl, ap, sym, subst, arith}
use Rattle.std.specs.Prelude.{Some, slice_get}
use Rattle.std.specs.Vec.Iter.{into_iter_items}
use Rattle.std.proofs.lemmas.List.{length-map, length_push}
use Rattle.std.proofs.lemmas.Option.{slice_get-get_or, slice_get_within}
use Rattle.std.proofs.lemmas.List.Edits.{length-remove}
use Rattle.std_lemmas.proofs.Lists.{slice_get-remove_first, gone_more, here_of}
use Rattle.slot_histories.specs.declared.events.Event.{Event}
use Rattle.turn_lock.specs.Seats.{SeatValue, new_seat}
use Rattle.slot_board.specs.Seats.{refusals}
use Rattle.card_core.specs.Plans.{Plan, plan_of}
use Rattle.card_worker.specs.declared.hands.Member.{Member}
use Rattle.card_worker.specs.Trying.{IsMember}
use Rattle.switch_jobs.specs.ReadinessSteps.{plans_in}
use Rattle.switch_jobs.proofs.Members.{AreInPlace, AreInPlace-more, AreFresh, AreFresh-more, plans_more}
use Rattle.switch_jobs.proofs.jobs.members_of.Goals as goal

pub hand_of-requires : goal.hand_of-requires
hand_of-requires c =
    let at = c.loop-card in
    let x = c.in-Some.card in
    let rest = into_iter_items at.card-iterator in
    let whole : at.yielded ++ rest ≡ c.args.cards.items = at.invariant.rest ∙ c.into_iter-card-iterator.ensures.into_iter_gives.0 in
    let here = here_of at.yielded rest (into_iter_items c.next.new.self) c.args.cards.items x whole c.in-Some.ensures.steps.0 in
    record { good = c.requires.good (length at.yielded) x here; small = c.requires.small (length at.yielded) x here }

pub push_reserved-requires : goal.push_reserved-requires
push_reserved-requires c =
    let at = c.loop-card in
    let x = c.in-Some.card in
    let cards = c.args.cards.items in
    let rest = into_iter_items at.card-iterator in
    let whole : at.yielded ++ rest ≡ cards = at.invariant.rest ∙ c.into_iter-card-iterator.ensures.into_iter_gives.0 in
    let below = slice_get_within cards (length at.yielded) x
    (here_of at.yielded rest (into_iter_items c.next.new.self) cards x whole c.in-Some.ensures.steps.0) in
    let made : length at.members.items ≡ length at.yielded = sym (length-map at.members.items (λ (m : Member). m.hand.card.sends.plan))
    ∙ (ap length at.invariant.plans ∙ length-map at.yielded plan_of) in
    let held = at.members.ok.0 in
    let room = at.invariant.room in
    let ports = c.requires.ports in
    omega arith

pub loop-card-preserved : goal.loop-card-preserved
loop-card-preserved c =
    let board = c.args.board.now in
    let cards = c.args.cards.items in
    let at = c.loop-card in
    let x = c.in-Some.card in
    let done = length at.yielded in
    let rest = into_iter_items at.card-iterator in
    let steps : rest ≡ x ∷ into_iter_items c.next.new.self = c.in-Some.ensures.steps.0 in
    let whole : at.yielded ++ rest ≡ cards = at.invariant.rest ∙ c.into_iter-card-iterator.ensures.into_iter_gives.0 in
    let here : slice_get cards done ≡ Some x = here_of at.yielded rest (into_iter_items c.next.new.self) cards x whole steps in
    let below = slice_get_within cards done x here in
    let ports = c.requires.ports in
    let left = at.invariant.seats_left in
    let inside : 0 < length at.seats.items = omega arith in
    let seat = c.remove-seat.result in
    let first : slice_get at.seats.items 0 ≡ Some seat = slice_get-get_or at.seats.items 0 seat inside ∙ ap Some (sym c.remove-seat.ensures.value) in
    let items = c.remove-seat.ensures.items in
    let long : length c.remove-seat.new.self.items + 1 ≡ length at.seats.items = ap (λ xs. length xs + 1) items ∙ length-remove at.seats.items 0 inside in
    let hand = c.in_ok-hand.hand in
    let plan : hand.card.sends.plan ≡ plan_of x = c.in_ok-hand.ensures.plan in
    let sized = c.requires.sized done x here in
    let new = c.new_members_agree.ensures board hand c.legal.ensures c.in_ok-hand.ensures.kept c.in_ok-hand.ensures.after
    (ap (λ (p : Plan). p.ports) plan ∙ (sized.1 ∙ sym ports)) in
    let number : hand.card.sends.plan.card ≡ done = ap (λ (p : Plan). p.card) plan ∙ sized.0 in
    let from : hand.card.sends.plan.card ≡ 0 + done = omega arith in
    let is : new_seat board hand.card.sends.plan.card ≡ seat = ap (λ k. new_seat board k) from ∙ sym (at.invariant.seats_new 0 seat first) in
    let member : Member = record { hand = hand; seat = seat } in
    let sound : IsMember board member = subst (λ (s : SeatValue Event). IsMember board (record { hand = hand; seat = s })) is new in
    let made : length at.members.items ≡ done = sym (length-map at.members.items (λ (m : Member). m.hand.card.sends.plan))
    ∙ (ap length at.invariant.plans ∙ length-map at.yielded plan_of) in
    let in_place : seat.number ≡ length at.members.items = ap (λ (s : SeatValue Event). s.number) (sym is) ∙ (number ∙ sym made) in
    let unrefused : refusals seat ≡ 0 = subst (λ (s : SeatValue Event). refusals s ≡ 0) is refl in
    let more = length_push at.yielded x in
    record {
      rest = gone_more at.yielded rest (into_iter_items c.next.new.self) _ x at.invariant.rest steps;
      left = let was = at.invariant.left in let gone = c.in-Some.ensures.steps.1 in let short = ap length steps in omega arith;
      plans = ap plans_in c.push_reserved.ensures.items ∙ plans_more at.members.items member at.yielded x at.invariant.plans plan;
      each = subst (AreInPlace board) (sym c.push_reserved.ensures.items) (AreInPlace-more board at.members.items member at.invariant.each sound in_place);
      fresh = subst AreFresh (sym c.push_reserved.ensures.items) (AreFresh-more at.members.items member at.invariant.fresh unrefused);
      room = let room = at.invariant.room in let same = c.push_reserved.ensures.capacity in omega arith;
      seats_left = omega arith;
      seats_new = λ i s mine.
          let next = sym (slice_get-remove_first at.seats.items i) in
          let there : slice_get at.seats.items (suc i) ≡ Some s = next ∙ (ap (λ xs. slice_get xs i) (sym items) ∙ mine) in
          let same : suc i + done ≡ i + length (at.yielded ++ x ∷ []) = omega arith in
          at.invariant.seats_new (suc i) s there ∙ ap (λ k. new_seat board k) same;
    }
