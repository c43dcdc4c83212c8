use Rattle.std.proofs.Common.{◌∙◌, ◌<◌, ap, sym, subst}
use Rattle.std.specs.Prelude.{Some}
use Rattle.turn_lock.specs.Seats.{TurnValue}
use Rattle.slot_histories.specs.declared.events.Event.{Event}
use Rattle.slot_board.specs.Seats.{column_at, slot_of}
use Rattle.slot_board.specs.Turns.{setup_of}
use Rattle.card_worker.specs.Agreeing.{IsAhead}
use Rattle.card_worker.proofs.Steps.{next_post}
use Rattle.card_worker.proofs.Members.{posts_same, due_free, can_post, accepts, posted_next, refused_next}
use Rattle.card_worker.proofs.tries.post.Goals as goal

pub next_post-post-requires : goal.next_post-post-requires
next_post-post-requires c = can_post c.args.board.now c.args.member.now c.requires.sound c.requires.free c.requires.due

pub try_post-requires-clause-accepted : goal.try_post-requires-clause-accepted
try_post-requires-clause-accepted c =
    let old = c.args.member.now in
    let column = column_at old.seat in
    let ahead : IsAhead c.next_post-post.result c.next_post-post.new.hand.card column =
    c.next_post-post.ensures.ahead column c.requires.sound.agrees.agrees.step (posts_same c.args.board.now old c.requires.sound c.requires.free) in
    accepts c.args.board.now old c.requires.sound c.requires.free c.requires.due c.next_post-post.result
    (ahead.is ∙ ap (λ p. next_post p column) c.next_post-post.ensures.plan)

pub returns-in-Ok : goal.returns-in-Ok
returns-in-Ok c =
    let board = c.args.board.now in
    let old = c.args.member.now in
    let column = column_at old.seat in
    let free = c.requires.free in
    let ahead : IsAhead c.next_post-post.result c.next_post-post.new.hand.card column =
    c.next_post-post.ensures.ahead column c.requires.sound.agrees.agrees.step (posts_same board old c.requires.sound free) in
    posted_next board old c.requires.sound _ c.try_post.new.seat c.in-Ok.ensures.same c.legal-in-Ok.ensures c.next_post-post.ensures.plan free
    c.next_post-post.result c.forget.ensures ahead c.in-Ok.ensures.after c.in-Ok.ensures.column

pub try_post-requires-clause-not_done : goal.try_post-requires-clause-not_done
try_post-requires-clause-not_done c = (due_free c.args.board.now c.args.member.now c.requires.sound c.requires.free c.requires.due).0

pub try_post-requires-clause-room : goal.try_post-requires-clause-room
try_post-requires-clause-room c =
    let old = c.args.member.now in
    let room = (due_free c.args.board.now old c.requires.sound c.requires.free c.requires.due).1 in
    subst (λ (t : TurnValue Event). slot_of old.seat < (setup_of t.numbers).max_slots) c.requires.sound.agrees.turn room

pub returns-in-Err : goal.returns-in-Err
returns-in-Err c =
    let board = c.args.board.now in
    let old = c.args.member.now in
    let column = column_at old.seat in
    let card = c.next_post-post.new.hand.card in
    let ahead : IsAhead c.next_post-post.result card column =
    c.next_post-post.ensures.ahead column c.requires.sound.agrees.agrees.step (posts_same board old c.requires.sound c.requires.free) in
    let kept : IsAhead c.in-Err.busy.act card column = subst (λ post. IsAhead post card column) (sym c.in-Err.ensures.busy.0) ahead in
    refused_next board old c.requires.sound
    (record { card = card; kept = Some c.in-Err.busy.act }) c.try_post.new.seat c.in-Err.ensures.same c.legal-in-Err.ensures c.next_post-post.ensures.plan
    c.in-Err.ensures.refused kept
