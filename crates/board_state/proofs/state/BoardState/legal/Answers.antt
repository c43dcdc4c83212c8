use Rattle.std.proofs.Common.{subst}
use Rattle.slot_histories.specs.Legal.{IsLegal}
use Rattle.board_state.specs.Boards.{BoardValue, IsSetup}
use Rattle.board_state.proofs.Journaling.{AreJournalRows-legal}
use Rattle.board_state.proofs.state.BoardState.legal.Goals as goal

pub returns-clause-rows : goal.returns-clause-rows
returns-clause-rows c =
    let board = c.args.self.now in
    let kept = c.self.invariant.kept in
    let setup : IsSetup board.setup = subst (λ (b : BoardValue). IsSetup b.setup) c.self.view_is kept.setup in
    let legal : IsLegal board.setup board.events = subst (λ (b : BoardValue). IsLegal b.setup b.events) c.self.view_is kept.legal in
    AreJournalRows-legal board.setup board.events setup legal
