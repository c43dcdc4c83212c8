use Rattle.std.proofs.Common.{sym, arith}
use Rattle.board_state.proofs.Placing.{with_place-old}
use Rattle.board_state.proofs.posts.make_place.Goals as goal

pub returns-else-len-place-clause-items : goal.returns-else-len-place-clause-items
returns-else-len-place-clause-items c =
    let posts = c.args.posts.now in
    sym (with_place-old c.args.place posts.items (omega (arith, posts.ok)))
