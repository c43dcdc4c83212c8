use Rattle.std.proofs.Common.{◌∙◌, ◌<◌, ap, sym, arith}
use Rattle.slot_histories.specs.Events.{posted}
use Rattle.board_state.proofs.Reading.{decided_fit, decided_are, crossed_later}
use Rattle.board_state.proofs.state.BoardState.cell_for.Goals as goal

pub crossing-requires-clause-posts : goal.crossing-requires-clause-posts
crossing-requires-clause-posts c =
    let wide = c.matched.ensures.ports ∙ sym (ap (λ b. b.setup.ports) c.self.view_is) in
    rw (wide, c.deref.ensures.value) (decided_fit c.self.invariant c.self.view_is c.args.slot c.requires.slot_in)

pub returns-else-slot-eq0 : goal.returns-else-slot-eq0
returns-else-slot-eq0 c =
    let board = c.args.self.now in
    let later : 0 < c.args.slot = omega (arith, c.if-slot-eq0.false) in
    let wide = c.matched.ensures.ports ∙ sym (ap (λ b. b.setup.ports) c.self.view_is) in
    let posts = decided_are c.self.invariant c.self.view_is c.args.slot c.requires.slot_in in
    c.crossing.ensures
    ∙ rw (wide, c.deref.ensures.value, posts, c.matched.ensures.matched)
    (sym (crossed_later board.setup (posted board.events) c.args.card c.args.slot later))
