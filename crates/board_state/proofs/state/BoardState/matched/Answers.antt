use Rattle.std.proofs.Common.{◌∙◌, ap, length}
use Rattle.board_state.proofs.Reading.{match_is, match_wide}
use Rattle.board_state.proofs.state.BoardState.matched.Goals as goal

pub returns-clause-matched : goal.returns-clause-matched
returns-clause-matched c = match_is c.self.invariant c.self.view_is c.args.slot c.index.result.now c.requires c.index.ensures

pub returns-clause-ports : goal.returns-clause-ports
returns-clause-ports c =
    ap length (match_is c.self.invariant c.self.view_is c.args.slot c.index.result.now c.requires c.index.ensures)
    ∙ match_wide c.self.invariant c.self.view_is c.args.slot c.requires
