use Rattle.std.proofs.Common.{◌≡◌, ◌<◌, ◌++◌, ℕ, [], map, length}
use Rattle.std.specs.Vec.Iter.{into_iter_items, into_iter_len}
use Rattle.output_queued.specs.Switches.{card_for}
use Rattle.output_queued.specs.NotingSteps.{source_at, IsBefore}
use Rattle.output_queued.proofs.reference.inputs.Given as goal

abbrev pub invariant-loop-packets : goal.invariant-loop-packets
invariant-loop-packets l = record {
  rest : l.yielded ++ into_iter_items l.packets-iterator ≡ into_iter_items l.initial.packets-iterator;
  left : into_iter_len l.packets-iterator ≡ length (into_iter_items l.packets-iterator);
  coming : map (λ source. source.coming) l.inputs.items ≡ map (λ list. list.items) l.yielded;
  before : (i : ℕ) → i < length l.inputs.items → IsBefore (card_for l.n l.depth (source_at l.inputs.items i).coming) (source_at l.inputs.items i) [];
}
