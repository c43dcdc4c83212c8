use Rattle.std.proofs.Common.{◌≡◌, ◌++◌, take}
use Rattle.std.specs.List.{flat_map}
use Rattle.journal_check.specs.Texts.{post_text, file_post}
use Rattle.journal_check.proofs.bytes.put_posts.Given as goal

abbrev pub invariant-loop-post : goal.invariant-loop-post
invariant-loop-post l = l.text.items ≡ l.initial.text.items ++ flat_map (λ post. post_text (file_post post)) (take l.post-index l.posts)
