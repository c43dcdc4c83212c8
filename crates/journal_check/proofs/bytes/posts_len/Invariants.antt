use Rattle.std.proofs.Common.{◌≡◌, ◌≤◌, ◌<◌, ◌*◌, ℕ, length, take, get_or}
use Rattle.std.specs.List.{flat_map}
use Rattle.crossbar.specs.declared.cards.Post.{Post as CardPost}
use Rattle.journal_check.specs.Texts.{post_text, file_post, HasLevels}
use Rattle.journal_check.proofs.bytes.posts_len.Given as goal

abbrev pub invariant-loop-post : goal.invariant-loop-post
invariant-loop-post l =
    (l.len ≡ length (flat_map (λ post. post_text (file_post post)) (take l.post-index l.posts))) × (l.len ≤ 66 * l.post-index)
    × ((k : ℕ) (d : CardPost) → k < l.post-index → HasLevels (get_or l.posts k d).row)
