use Rattle.slot_histories.specs.declared.events.Event.TheVariants.{Take}
use Rattle.slot_histories.proofs.EventTests.{is_allowed-only}
use Rattle.board_state.proofs.state.BoardState.may_draw.Goals as goal

pub returns-clause-test : goal.returns-clause-test
returns-clause-test c =
    let board = c.args.self.now in
    is_allowed-only board.setup board.events (Take c.args.card) c.may_take.result c.legal.ensures.legal c.may_take.ensures
