use Rattle.std.proofs.Common.{ℕ}
use Rattle.std_lemmas.proofs.Lists.{get_or-same}
use Rattle.known_answers.proofs.fields.table_of.Goals as goal

pub loop-k-init : goal.loop-k-init
loop-k-init c = λ k. rw (get_or-same {X = ℕ} 0 64 k) c.requires.some
