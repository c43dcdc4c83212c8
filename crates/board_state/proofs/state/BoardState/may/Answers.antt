use Rattle.slot_histories.proofs.EventTests.{is_allowed-only}
use Rattle.board_state.proofs.state.BoardState.may.Goals as goal

pub returns-clause-test : goal.returns-clause-test
returns-clause-test c =
    let board = c.args.self.now in
    is_allowed-only board.setup board.events c.args.event.now c.is_possible.result c.legal.ensures.legal c.is_possible.ensures
