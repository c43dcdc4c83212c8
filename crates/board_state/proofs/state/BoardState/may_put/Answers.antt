use Rattle.slot_histories.specs.declared.events.Event.TheVariants.{Post}
use Rattle.slot_histories.proofs.EventTests.{is_allowed-only}
use Rattle.board_state.proofs.state.BoardState.may_put.Goals as goal

pub returns-clause-test : goal.returns-clause-test
returns-clause-test c =
    let board = c.args.self.now in
    is_allowed-only board.setup board.events (Post c.args.card c.args.post.now) c.may_post.result c.legal.ensures.legal c.may_post.ensures
