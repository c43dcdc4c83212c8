use Rattle.board_state.proofs.Reading.{have_posted}
use Rattle.board_state.proofs.state.BoardState.posted.Goals as goal

pub returns : goal.returns
returns c = have_posted c.self.invariant c.self.view_is
