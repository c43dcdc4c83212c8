use Rattle.std.proofs.Common.{◌+◌, ◌*◌, ◌∙◌, ap, sym, length, arith}
use Rattle.board_state.proofs.Placing.{with_place-long, with_place-next}
use Rattle.board_state.proofs.posts.write_post.Goals as goal

pub index_mut-requires : goal.index_mut-requires
index_mut-requires c =
    let posts = c.args.posts.now in
    omega (arith, with_place-long (c.args.slot * c.args.ports + c.args.card) posts.items, ap length c.make_place.ensures.items, c.make_place.new.posts.ok)

pub returns-then-place-len-clause-items : goal.returns-then-place-len-clause-items
returns-then-place-len-clause-items c =
    let posts = c.args.posts.now in
    c.push_reserved.ensures.items
    ∙ sym (with_place-next (c.args.slot * c.args.ports + c.args.card) posts.items c.args.post.now (omega (arith, c.if-place-len.true, posts.ok)))
