use Rattle.std.proofs.Common.{None, false, get_or, arith}
use Rattle.std.proofs.lemmas.List.{get_or_default}
use Rattle.slot_match.specs.Rows.{no_row}
use Rattle.crossbar.specs.declared.cards.Post.{Post as CardPost}
use Rattle.journal_check.specs.Texts.{HasLevels, post_text, file_post}
use Rattle.journal_check.proofs.Written.{first_more, longer}
use Rattle.journal_check.proofs.bytes.posts_len.Goals as goal

pub loop-post-preserved : goal.loop-post-preserved
loop-post-preserved c =
    let posts = c.args.posts.now in
    let i = c.loop-post.post-index in
    let inv = c.loop-post.invariant in
    let none : CardPost = record { row = no_row; cell = None; more = false } in
    let post : CardPost = get_or posts i none in
    let below = c.loop-post-test.true in
    let value = c.post_len-len.ensures.value in
    let few = c.post_len-len.ensures.few in
    let so_far = inv.0 in
    let bound = inv.1 in
    let more = longer (λ (p : CardPost). post_text (file_post p)) posts i post 0 c.loop-post.len below (get_or_default posts i none post below) (omega arith) in
    (omega arith, omega arith, first_more (λ (p : CardPost). HasLevels p.row) posts i none below c.post_len-len.ensures.levels inv.2)
