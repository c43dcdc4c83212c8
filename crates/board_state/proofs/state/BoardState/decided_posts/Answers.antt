use Rattle.std.proofs.Common.{◌∙◌, ap, length}
use Rattle.slot_histories.specs.Events.{posted}
use Rattle.slot_histories.proofs.PostedRows.{length-slot_posts}
use Rattle.board_state.proofs.Reading.{decided_fit, decided_are}
use Rattle.board_state.proofs.state.BoardState.decided_posts.Goals as goal

pub posts_at-requires : goal.posts_at-requires
posts_at-requires c = rw c.deref.ensures.value (decided_fit c.self.invariant c.self.view_is c.args.slot c.requires)

pub returns-clause-posts : goal.returns-clause-posts
returns-clause-posts c = c.posts_at.ensures ∙ rw c.deref.ensures.value (decided_are c.self.invariant c.self.view_is c.args.slot c.requires)

pub returns-clause-ports : goal.returns-clause-ports
returns-clause-ports c =
    let board = c.args.self.now in
    ap length (c.posts_at.ensures ∙ rw c.deref.ensures.value (decided_are c.self.invariant c.self.view_is c.args.slot c.requires))
    ∙ length-slot_posts board.setup.ports (posted board.events) c.args.slot
