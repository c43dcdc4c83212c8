use Rattle.std.proofs.Common.{◌≡◌, ◌∙◌, ◌++◌, ◌∷◌, [], ℕ, drop, subst, arith}
use Rattle.std.proofs.Math.ListN.{length-set}
use Rattle.std.proofs.lemmas.Result.{err_from_is_err_and}
use Rattle.journal_check.specs.declared.posts.FilePost.{FilePost}
use Rattle.journal_check.specs.Files.{post_in}
use Rattle.journal_check.proofs.Loops.{step_ok}
use Rattle.journal_check.proofs.SlotLoops.{ArePostsRead, placed, posts_begin, posts_fail, posts_end}
use Rattle.journal_check.proofs.slots.read_posts.Goals as goal

pub loop-i-init : goal.loop-i-init
loop-i-init c = posts_begin c.args.ports c.args.bytes.now c.args.at c.args.rows.now c.args.more.now c.requires.place c.told-rows c.told-more

pub loop-i-preserved : goal.loop-i-preserved
loop-i-preserved c =
    let n = c.args.ports in
    let i = c.loop-i.i in
    let bytes = c.args.bytes.now in
    let post = c.in_ok-post.post.value in
    let next = c.in_ok-post.post.next in
    let so_far = c.loop-i.invariant in
    let long = so_far.long_rows in
    let also = so_far.long_more in
    let below = c.loop-i-test.true in
    let few = c.requires.few in
    record {
      long_rows = length-set c.loop-i.rows i post.row ∙ long;
      long_more = length-set c.loop-i.more i post.more ∙ also;
      posts = so_far.posts ++ post ∷ [];
      within = c.in_ok-post.ensures.within;
      whole = so_far.whole
          ∙ step_ok (λ k. post_in n) so_far.posts i n (drop c.loop-i.next bytes) (drop next bytes) post below c.in_ok-post.ensures.reads;
      rows_are = placed (λ (p : FilePost). p.row) c.loop-i.rows i so_far.posts post (omega arith) so_far.rows_are;
      more_are = placed (λ (p : FilePost). p.more) c.loop-i.more i so_far.posts post (omega arith) so_far.more_are;
    }

pub returns-in_err-post : goal.returns-in_err-post
returns-in_err-post c =
    let p = err_from_is_err_and c.from_residual.result c.from_residual.ensures.1 in
    rw (p.1, p.2) (posts_fail c.args.ports c.args.bytes.now c.args.at c.loop-i.i c.loop-i.next c.in_err-post.field-0.0.at c.loop-i.rows c.loop-i.more
    c.loop-i-test.true c.loop-i.invariant c.in_err-post.ensures)

pub returns : goal.returns
returns c =
    let end : c.loop-i.i ≡ c.args.ports = omega arith in
    let P = λ (i : ℕ). ArePostsRead c.args.ports c.args.bytes.now c.args.at i c.loop-i.next c.loop-i.rows c.loop-i.more in
    let done = subst P end c.loop-i.invariant in
    (done.posts, posts_end c.args.ports c.args.bytes.now c.args.at c.loop-i.next c.loop-i.rows c.loop-i.more done, done.rows_are, done.more_are)
