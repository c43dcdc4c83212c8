use Rattle.std.proofs.Common.{ap, arith}
use Rattle.slot_histories.specs.declared.events.Event.TheVariants.{Post}
use Rattle.board_state.specs.Boards.{with_event}
use Rattle.board_state.proofs.Keeping.{IsKept-post, event_fits, post_events, post_few}
use Rattle.board_state.proofs.Reading.{may_come}
use Rattle.board_state.proofs.state.BoardState.add_post.Goals as goal

pub write_post-requires : goal.write_post-requires
write_post-requires c =
    let may = may_come c.self.invariant c.self.view_is (Post c.args.card c.args.post.now) c.requires in
    omega (arith, post_few c.self.invariant.kept c.args.card c.args.post.now may, c.self.invariant.room.for_posts)

pub raise-requires-clause-room : goal.raise-requires-clause-room
raise-requires-clause-room c =
    let may = may_come c.self.invariant c.self.view_is (Post c.args.card c.args.post.now) c.requires in
    let kept = c.self.invariant.kept in
    omega (arith, kept.books.counts_are c.args.card may.card_in, may.room, kept.setup.slots_few)

pub push_reserved-requires : goal.push_reserved-requires
push_reserved-requires c =
    let may = may_come c.self.invariant c.self.view_is (Post c.args.card c.args.post.now) c.requires in
    omega (arith, event_fits c.self.invariant.kept c.self.invariant.room (Post c.args.card c.args.post.now) may, c.self.inside.order.ok)

pub invariant_of-self : goal.invariant_of-self
invariant_of-self c =
    let may = may_come c.self.invariant c.self.view_is (Post c.args.card c.args.post.now) c.requires in
    let kept = c.self.invariant.kept in
    let mask = c.with-self-inside in
    let events = post_events kept c.args.card c.args.post.now mask.result may in
    let next = IsKept-post kept c.args.card c.args.post.now mask.result (omega (arith, c.self.told.0, may.card_in, kept.setup.ports_few)) may mask.ensures in
    record {
      kept = rw (c.write_post.ensures.items, c.push_reserved.ensures.items, c.raise.ensures, events) next;
      parts = c.self.invariant.parts;
      room = rw (c.write_post.ensures.room, c.push_reserved.ensures.capacity) c.self.invariant.room;
    }

pub returns : goal.returns
returns c =
    let may = may_come c.self.invariant c.self.view_is (Post c.args.card c.args.post.now) c.requires in
    let events = post_events c.self.invariant.kept c.args.card c.args.post.now c.with-self-inside.result may in
    rw (c.write_post.ensures.items, c.push_reserved.ensures.items, events)
    (ap (λ b. with_event b (Post c.args.card c.args.post.now)) c.self.view_is)
