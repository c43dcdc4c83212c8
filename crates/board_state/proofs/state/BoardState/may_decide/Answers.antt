use Rattle.board_state.proofs.Reading.{all_have_posted}
use Rattle.board_state.proofs.state.BoardState.may_decide.Goals as goal

pub returns : goal.returns
returns c =
    let all = all_have_posted c.self.invariant c.self.view_is c.all.result c.all.ensures.members in
    (λ passed. all.0 (c.is_subset.ensures.0 passed), λ may. c.is_subset.ensures.1 (all.1 may))
