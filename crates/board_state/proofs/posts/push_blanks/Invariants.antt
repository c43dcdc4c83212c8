use Rattle.std.proofs.Common.{◌≡◌, ◌++◌, replicate, vec_capacity}
use Rattle.slot_histories.specs.Events.{no_post}
use Rattle.board_state.proofs.posts.push_blanks.Given as goal

abbrev pub invariant-loop : goal.invariant-loop
invariant-loop l = record {
  items : l.posts.items ≡ l.fn.posts.items ++ replicate l.counter no_post;
  room : vec_capacity l.posts ≡ vec_capacity l.fn.posts;
}
