use Rattle.std.proofs.Common.{ap, arith}
use Rattle.slot_histories.specs.declared.events.Event.TheVariants.{Take}
use Rattle.board_state.specs.Boards.{with_event}
use Rattle.board_state.proofs.Keeping.{IsKept-take, decided_few, event_fits, take_events}
use Rattle.board_state.proofs.Reading.{may_come}
use Rattle.board_state.proofs.state.BoardState.add_take.Goals as goal

pub raise-requires-clause-room : goal.raise-requires-clause-room
raise-requires-clause-room c =
    let may = may_come c.self.invariant c.self.view_is (Take c.args.card) c.requires in
    let kept = c.self.invariant.kept in
    omega (arith, kept.books.takes_are c.args.card may.card_in, may.decided, decided_few kept, kept.setup.slots_few)

pub push_reserved-requires : goal.push_reserved-requires
push_reserved-requires c =
    let may = may_come c.self.invariant c.self.view_is (Take c.args.card) c.requires in
    omega (arith, event_fits c.self.invariant.kept c.self.invariant.room (Take c.args.card) may, c.self.inside.order.ok)

pub invariant_of-self : goal.invariant_of-self
invariant_of-self c =
    let may = may_come c.self.invariant c.self.view_is (Take c.args.card) c.requires in
    let kept = c.self.invariant.kept in
    let next = IsKept-take kept c.args.card (omega (arith, c.self.told.1, may.card_in, kept.setup.ports_few)) may in
    record {
      kept = rw (c.push_reserved.ensures.items, c.raise.ensures, take_events kept c.args.card may.card_in) next;
      parts = c.self.invariant.parts;
      room = rw c.push_reserved.ensures.capacity c.self.invariant.room;
    }

pub returns-clause-board : goal.returns-clause-board
returns-clause-board c =
    let may = may_come c.self.invariant c.self.view_is (Take c.args.card) c.requires in
    rw (c.push_reserved.ensures.items, take_events c.self.invariant.kept c.args.card may.card_in)
    (ap (λ b. with_event b (Take c.args.card)) c.self.view_is)
