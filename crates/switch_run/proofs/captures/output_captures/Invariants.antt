use Rattle.std.proofs.Common.{◌≡◌, ◌++◌, ℕ, List, map, length}
use Rattle.std.specs.List.{range_with_len}
use Rattle.std.specs.Vec.Iter.{into_iter_items, into_iter_len}
use Rattle.pcap_records.specs.Output.{capture_text}
use Rattle.switch_plan.specs.ReadingSteps.{bytes_of_files}
use Rattle.switch_run.specs.MakingSteps.{HaveMessages}
use Rattle.switch_run.proofs.captures.output_captures.Given as goal

abbrev pub invariant-loop-output : goal.invariant-loop-output
invariant-loop-output l = record {
  rest : l.yielded ++ into_iter_items l.output-iterator ≡ into_iter_items l.initial.output-iterator;
  left : into_iter_len l.output-iterator ≡ length (into_iter_items l.output-iterator);
  captures : (messages : ℕ → List (List ℕ)) → HaveMessages messages l.fn.outputs.items
      → bytes_of_files l.captures ≡ map (λ j. capture_text l.fn.nano l.fn.link (messages j)) (range_with_len 0 (length l.yielded));
}
