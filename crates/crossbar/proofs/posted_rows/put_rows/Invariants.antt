use Rattle.std.proofs.Common.{◌≡◌, take, drop, map, length}
use Rattle.rotating_pick.specs.declared.limits.TheConstants.{MAX_PORTS}
use Rattle.crossbar.specs.declared.cards.Post.{Post as CardPost}
use Rattle.crossbar.proofs.posted_rows.put_rows.Given as goal

abbrev pub invariant-loop-place : goal.invariant-loop-place
invariant-loop-place l = record {
  long : length l.rows ≡ MAX_PORTS;
  rows : take l.place l.rows ≡ map (λ (post : CardPost). post.row) (take l.place l.posts);
  others : drop (length l.posts) l.rows ≡ drop (length l.posts) l.fn.rows;
}
