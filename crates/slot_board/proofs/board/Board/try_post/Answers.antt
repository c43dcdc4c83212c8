use Rattle.std.proofs.Common.{◌≡◌, ◌∙◌, ◌<◌, false, sym, ap, subst, arith}
use Rattle.slot_board.specs.Turns.{setup_of}
use Rattle.slot_board.specs.Seats.{setup_at, slot_of, IsPosted, is_done, Accepts, HasPosted}
use Rattle.slot_board.proofs.PostTurns.{posted_turn, kept_then}
use Rattle.slot_board.proofs.SeatColumns.{HasPosted-column}
use Rattle.slot_board.specs.Calls.{IsSeat}
use Rattle.slot_board.proofs.AfterCalls.{IsSeat-kept, AfterPost-has}
use Rattle.slot_board.proofs.board.Board.try_post.Goals as goal

pub invariant_of-seat : goal.invariant_of-seat
invariant_of-seat c =
    let s = c.seat.inside in
    let same = c.seat.view_is in
    let going : is_done s.seat ≡ false = ap is_done same ∙ c.requires.not_done in
    let left : slot_of s.seat < (setup_at s.seat).max_slots =
    subst (λ seat. slot_of seat < (setup_at seat).max_slots) (sym same)
    (subst (λ turn. slot_of c.args.seat.now < (setup_of turn.numbers).max_slots) (sym c.requires.seat) c.requires.room) in
    let accepted : Accepts s.seat c.args.post = subst (λ seat. Accepts seat c.args.post) (sym same) c.requires.accepted in
    kept_then s.seat s.ports s.card s.slot s.posted s.done s.last s.served s.refused s.room.items _ c.seat.invariant c.try_turn.new.seat c.args.post
    c.in-Ok.ensures.turn (λ it. c.requires.not_posted (subst IsPosted same it)) going left accepted

pub returns-in-Ok-clause-posted : goal.returns-in-Ok-clause-posted
returns-in-Ok-clause-posted c =
    let s = c.seat.inside in
    let same = c.seat.view_is in
    let going : is_done s.seat ≡ false = ap is_done same ∙ c.requires.not_done in
    let left : slot_of s.seat < (setup_at s.seat).max_slots =
    subst (λ seat. slot_of seat < (setup_at seat).max_slots) (sym same)
    (subst (λ turn. slot_of c.args.seat.now < (setup_of turn.numbers).max_slots) (sym c.requires.seat) c.requires.room) in
    let accepted : Accepts s.seat c.args.post = subst (λ seat. Accepts seat c.args.post) (sym same) c.requires.accepted in
    subst (λ seat. HasPosted c.args.post seat c.try_turn.new.seat) same
    (posted_turn s.seat s.ports s.card s.slot s.posted s.done s.last s.served s.refused s.room.items _ c.seat.invariant c.try_turn.new.seat c.args.post
    c.in-Ok.ensures.turn (λ it. c.requires.not_posted (subst IsPosted same it)) going left accepted)

pub returns-in-Ok-clause-column : goal.returns-in-Ok-clause-column
returns-in-Ok-clause-column c = HasPosted-column c.args.post c.args.seat.now c.try_turn.new.seat (returns-in-Ok-clause-posted c)

pub returns-in-Ok-clause-after : goal.returns-in-Ok-clause-after
returns-in-Ok-clause-after c =
    let s = c.seat.inside in
    let kept = c.seat.invariant in
    let inside : s.seat.number < (setup_at s.seat).ports =
    let below = kept.card_in in let ports = kept.ports_are in let number = kept.card_is in omega arith in
    let seat : IsSeat c.args.seat.now = subst IsSeat c.seat.view_is (IsSeat-kept s.seat kept.board inside kept.column.legal) in
    AfterPost-has c.args.post c.args.seat.now c.try_turn.new.seat seat (returns-in-Ok-clause-posted c)
