use Rattle.std.proofs.Common.{◌<◌, sym, subst, arith}
use Rattle.slot_board.specs.DrawingSteps.{drawn_answer}
use Rattle.slot_board.specs.Seats.{setup_at, IsPosted, HasTaken, IsUndecided}
use Rattle.slot_board.proofs.CardTurns.{slot-small}
use Rattle.slot_board.proofs.Drawings.{ready-is, waiting-is}
use Rattle.slot_board.proofs.TakeTurns.{taken_turn, kept_taken, undecided_turn, kept_undecided}
use Rattle.slot_board.proofs.SeatColumns.{HasTaken-column, IsUndecided-column}
use Rattle.slot_board.specs.Calls.{IsSeat}
use Rattle.slot_board.proofs.AfterCalls.{IsSeat-kept, AfterTaking-has, AfterRefusal-undecided}
use Rattle.slot_board.proofs.board.Board.try_take.Goals as goal

pub overflow_add-seat : goal.overflow_add-seat
overflow_add-seat c =
    let s = c.seat.inside in
    let few = slot-small s.seat s.ports s.card s.slot s.posted s.done s.last s.served s.refused s.room.items _ c.seat.invariant in
    omega arith

pub invariant_of-seat : goal.invariant_of-seat
invariant_of-seat c =
    let s = c.seat.inside in
    kept_taken s.seat s.ports s.card s.slot s.posted s.done s.last s.served s.refused s.room.items _ c.seat.invariant c.try_turn.new.seat
    (drawn_answer c.in-Ok.drawn) c.in-Ok.ensures.turn (subst IsPosted (sym c.seat.view_is) c.requires.posted) c.in-Ok.drawn.taken
    (ready-is c.in-Ok.drawn c.if-drawn.true)

pub invariant_of-seat-else-drawn : goal.invariant_of-seat-else-drawn
invariant_of-seat-else-drawn c =
    let s = c.seat.inside in
    kept_undecided s.seat s.ports s.card s.slot s.posted s.done s.last s.served s.refused s.room.items _ c.seat.invariant c.try_turn.new.seat
    (drawn_answer c.in-Ok.drawn) c.in-Ok.ensures.turn (subst IsPosted (sym c.seat.view_is) c.requires.posted) c.in-Ok.drawn.posted
    (waiting-is c.in-Ok.drawn c.if-drawn.false) c.saturating_add-seat-inside.result c.saturating_add-seat-inside.ensures

pub returns-then-drawn-clause-taken : goal.returns-then-drawn-clause-taken
returns-then-drawn-clause-taken c =
    let s = c.seat.inside in
    subst (λ seat. HasTaken c.in-Ok.drawn.taken seat c.try_turn.new.seat) c.seat.view_is
    (taken_turn s.seat s.ports s.card s.slot s.posted s.done s.last s.served s.refused s.room.items _ c.seat.invariant c.try_turn.new.seat
    (drawn_answer c.in-Ok.drawn) c.in-Ok.ensures.turn (subst IsPosted (sym c.seat.view_is) c.requires.posted) c.in-Ok.drawn.taken
    (ready-is c.in-Ok.drawn c.if-drawn.true))

pub returns-else-drawn-clause-wait : goal.returns-else-drawn-clause-wait
returns-else-drawn-clause-wait c =
    let s = c.seat.inside in
    subst (λ seat. IsUndecided c.in-Ok.drawn.posted seat c.try_turn.new.seat) c.seat.view_is
    (undecided_turn s.seat s.ports s.card s.slot s.posted s.done s.last s.served s.refused s.room.items _ c.seat.invariant c.try_turn.new.seat
    (drawn_answer c.in-Ok.drawn) c.in-Ok.ensures.turn (subst IsPosted (sym c.seat.view_is) c.requires.posted) c.in-Ok.drawn.posted
    (waiting-is c.in-Ok.drawn c.if-drawn.false))

pub returns-then-drawn-clause-column : goal.returns-then-drawn-clause-column
returns-then-drawn-clause-column c = HasTaken-column c.in-Ok.drawn.taken c.args.seat.now c.try_turn.new.seat (returns-then-drawn-clause-taken c)

pub returns-else-drawn-clause-stays : goal.returns-else-drawn-clause-stays
returns-else-drawn-clause-stays c = IsUndecided-column c.in-Ok.drawn.posted c.args.seat.now c.try_turn.new.seat (returns-else-drawn-clause-wait c)

pub returns-then-drawn-clause-after : goal.returns-then-drawn-clause-after
returns-then-drawn-clause-after c =
    let s = c.seat.inside in
    let kept = c.seat.invariant in
    let inside : s.seat.number < (setup_at s.seat).ports =
    let below = kept.card_in in let ports = kept.ports_are in let number = kept.card_is in omega arith in
    let seat : IsSeat c.args.seat.now = subst IsSeat c.seat.view_is (IsSeat-kept s.seat kept.board inside kept.column.legal) in
    AfterTaking-has c.in-Ok.drawn.taken c.args.seat.now c.try_turn.new.seat seat c.requires.posted (returns-then-drawn-clause-taken c)

pub returns-else-drawn-clause-refused : goal.returns-else-drawn-clause-refused
returns-else-drawn-clause-refused c =
    let s = c.seat.inside in
    let kept = c.seat.invariant in
    let inside : s.seat.number < (setup_at s.seat).ports =
    let below = kept.card_in in let ports = kept.ports_are in let number = kept.card_is in omega arith in
    let seat : IsSeat c.args.seat.now = subst IsSeat c.seat.view_is (IsSeat-kept s.seat kept.board inside kept.column.legal) in
    AfterRefusal-undecided c.in-Ok.drawn.posted c.args.seat.now c.try_turn.new.seat seat (returns-else-drawn-clause-wait c)
