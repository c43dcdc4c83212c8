use Rattle.std.proofs.Common.{◌≡◌, ◌∙◌, suc, ◌+◌, ◌<◌, ap, sym, subst, arith, length}
use Rattle.std.specs.Prelude.{Some, slice_get}
use Rattle.std.proofs.lemmas.Option.{slice_get-get_or}
use Rattle.std.proofs.lemmas.List.Edits.{length-remove}
use Rattle.std_lemmas.proofs.Lists.{slice_get-remove_first}
use Rattle.slot_histories.specs.declared.events.Event.{Event}
use Rattle.turn_lock.specs.Seats.{SeatValue, new_seat}
use Rattle.card_worker.specs.Trying.{IsMember}
use Rattle.card_worker.proofs.Grouping.{AreGroups-none}
use Rattle.card_worker.proofs.tests.groups.join_all.Goals as goal

pub loop-card-init : goal.loop-card-init
loop-card-init c =
    let board = c.args.board.now in
    record {
      groups = AreGroups-none board c.in_ok-groups.groups.items c.in_ok-groups.ensures.empty;
      some = let count = c.in_ok-groups.ensures.count in let some = c.requires.some in omega arith;
      left = let count = c.requires.seats.count in omega arith;
      seats = λ i s at. let same : i ≡ i + 0 = omega arith in c.requires.seats.each i s at ∙ ap (λ k. new_seat board k) same;
    }

pub loop-card-preserved : goal.loop-card-preserved
loop-card-preserved c =
    let board = c.args.board.now in
    let at = c.loop-card in
    let left = at.invariant.left in
    let below = c.loop-card-test.true in
    let ports = c.requires.ports in
    let inside : 0 < length at.seats.items = omega arith in
    let items = c.remove-seat.ensures.items in
    let long : length c.remove-seat.new.self.items + 1 ≡ length at.seats.items = ap (λ xs. length xs + 1) items ∙ length-remove at.seats.items 0 inside in
    record {
      groups = c.in_ok-join.ensures.groups;
      some = let count = c.in_ok-join.ensures.count in let some = at.invariant.some in omega arith;
      left = omega arith;
      seats = λ i s mine.
          let next = sym (slice_get-remove_first at.seats.items i) in
          let there : slice_get at.seats.items (suc i) ≡ Some s = next ∙ ap (λ xs. slice_get xs i) (sym items) ∙ mine in
          let same : suc i + at.card ≡ i + (at.card + 1) = omega arith in
          at.invariant.seats (suc i) s there ∙ ap (λ k. new_seat board k) same;
    }

pub join-requires-clause-card : goal.join-requires-clause-card
join-requires-clause-card c =
    let at = c.loop-card in
    let left = at.invariant.left in
    let below = c.loop-card-test.true in
    let ports = c.requires.ports in
    let inside : 0 < length at.seats.items = omega arith in
    let first : slice_get at.seats.items 0 ≡ Some c.remove-seat.result = slice_get-get_or at.seats.items 0 c.remove-seat.result inside
    ∙ ap Some (sym c.remove-seat.ensures.value) in
    c.prepared-member.ensures.number ∙ ap (λ (s : SeatValue Event). s.number) (at.invariant.seats 0 c.remove-seat.result first) ∙ omega arith

pub prepared-member-requires : goal.prepared-member-requires
prepared-member-requires c =
    let board = c.args.board.now in
    let at = c.loop-card in
    let hand = c.in_ok-hand.hand in
    let left = at.invariant.left in
    let below = c.loop-card-test.true in
    let ports = c.requires.ports in
    let inside : 0 < length at.seats.items = omega arith in
    let first : slice_get at.seats.items 0 ≡ Some c.remove-seat.result = slice_get-get_or at.seats.items 0 c.remove-seat.result inside
    ∙ ap Some (sym c.remove-seat.ensures.value) in
    let card = c.in_ok-hand.ensures.card in
    let same : hand.card.sends.plan.card ≡ 0 + at.card = omega arith in
    let seat : new_seat board hand.card.sends.plan.card ≡ c.remove-seat.result = ap (λ k. new_seat board k) same
    ∙ sym (at.invariant.seats 0 c.remove-seat.result first) in
    let new = c.new_members_agree.ensures board hand c.legal.ensures c.in_ok-hand.ensures.kept c.in_ok-hand.ensures.after
    (c.in_ok-hand.ensures.ports ∙ sym ports) in
    subst (λ (s : SeatValue Event). IsMember board (record { hand = hand; seat = s })) seat new
