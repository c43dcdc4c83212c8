use Rattle.std.proofs.Common.{arith}
use Rattle.std.proofs.lemmas.List.FromFn.{map-range_with_len_more}
use Rattle.output_queued.specs.Lines.{line_of}
use Rattle.output_queued.specs.NotingSteps.{cards_in}
use Rattle.run_notes.proofs.reference.lines.Goals as goal

pub loop-output-preserved : goal.loop-output-preserved
loop-output-preserved c = λ matches noted.
    let before = c.loop-output.invariant matches noted in
    let line = c.line.ensures.value matches noted in
    let more = map-range_with_len_more (line_of (cards_in c.args.reference.now) matches) 0 c.loop-output.output c.loop-output.output (omega arith) in
    cc (c.in_ok-push.ensures.items)
