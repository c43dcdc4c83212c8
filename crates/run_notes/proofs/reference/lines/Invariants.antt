use Rattle.std.proofs.Common.{◌≡◌, List, map}
use Rattle.std.specs.List.{range_with_len}
use Rattle.output_queued.specs.Lines.{line_of}
use Rattle.output_queued.specs.NotingSteps.{cards_in, HasNoted}
use Rattle.output_queued.specs.Switches.{Matched}
use Rattle.run_notes.proofs.reference.lines.Given as goal

abbrev pub invariant-loop-output : goal.invariant-loop-output
invariant-loop-output l = (matches : List Matched) → HasNoted l.reference matches
    → l.lines.items ≡ map (line_of (cards_in l.reference) matches) (range_with_len 0 l.output)
