use Rattle.std.proofs.Common.{ℕ, ◌<◌, slice_index}
use Rattle.known_answers.proofs.fields.table_of.Given as goal

abbrev pub invariant-loop-k : goal.invariant-loop-k
invariant-loop-k l = (k : ℕ) → slice_index l.table k < l.n
