use Rattle.std.proofs.Common.{subst}
use Rattle.board_state.specs.Boards.{BoardValue}
use Rattle.slot_board.specs.Turns.{numbers_of, post_adds, StayLegal}
use Rattle.slot_board.proofs.acts.PostActActKeptState.apply.Goals as goal

pub returns-clause-answer : goal.returns-clause-answer
returns-clause-answer c =
    let act = c.args.self in
    subst (λ (b : BoardValue). StayLegal b.setup b.events
    (post_adds act.card act.post.now (numbers_of b.setup) b.events)) c.deref_mut.ensures.value c.add_post.ensures.legal
