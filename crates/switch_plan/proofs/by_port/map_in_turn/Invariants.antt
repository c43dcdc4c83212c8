use Rattle.std.proofs.Common.{◌≡◌, ℕ, ◌<◌, ◌++◌, length, slice_index_or}
use Rattle.std.specs.Fork.{GivesJob}
use Rattle.std.specs.Vec.Iter.{into_iter_items, into_iter_len}
use Rattle.switch_plan.proofs.by_port.map_in_turn.Given as goal

abbrev pub invariant-loop-job : goal.invariant-loop-job
invariant-loop-job g l = record {
  rest : l.yielded ++ into_iter_items l.job-iterator ≡ into_iter_items l.initial.job-iterator;
  left : into_iter_len l.job-iterator ≡ length (into_iter_items l.job-iterator);
  long : length l.answers.items ≡ length l.yielded;
  given : (i : ℕ) (d : g.row.X.Denot) → i < length l.yielded
      → GivesJob g.F.Fn l.f (into_iter_items l.initial.job-iterator) i (slice_index_or l.answers.items i d);
}
