use Rattle.board_state.proofs.Reading.{taken_few}
use Rattle.board_state.proofs.state.BoardState.takes.Goals as goal

pub returns-clause-decided : goal.returns-clause-decided
returns-clause-decided c = taken_few c.self.invariant c.self.view_is c.args.card c.requires
