use Rattle.std.proofs.Common.{◌≡◌, ◌≤◌, ◌++◌, length, map}
use Rattle.std.specs.Prelude.{vec_capacity}
use Rattle.std.specs.List.{filter_map}
use Rattle.std.specs.Vec.Iter.{into_iter_items, into_iter_len}
use Rattle.descriptor_runs.specs.FinishingSteps.{line_of}
use Rattle.descriptor_runs.proofs.ends.leave.Given as goal

abbrev pub invariant-loop-output : goal.invariant-loop-output
invariant-loop-output l = record {
  rest : l.yielded ++ into_iter_items l.output-iterator ≡ into_iter_items l.initial.output-iterator;
  left : into_iter_len l.output-iterator ≡ length (into_iter_items l.output-iterator);
  captures : map (λ capture. capture.items) l.captures.items ≡ filter_map (λ output. output.text) l.yielded;
  lines : l.lines.items ≡ map line_of l.yielded;
  fewer : length l.captures.items ≤ length l.yielded;
  captures_room : length l.fn.outputs.items ≤ vec_capacity l.captures;
  lines_room : length l.fn.outputs.items ≤ vec_capacity l.lines;
}
