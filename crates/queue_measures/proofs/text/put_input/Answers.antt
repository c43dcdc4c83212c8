use Rattle.std.proofs.Common.{◌∙◌, arith, string_bytes}
use Rattle.slot_report.specs.Lines.{lines_text}
use Rattle.slot_report.proofs.Appending.{place_more, places_all}
use Rattle.queue_measures.specs.NotingSteps.{no_numbers}
use Rattle.queue_measures.specs.Steps.{line_at}
use Rattle.queue_measures.proofs.text.put_input.Goals as goal

pub loop-place-preserved : goal.loop-place-preserved
loop-place-preserved c =
    c.in_ok-put_used.ensures
    ∙ place_more lines_text (line_at c.args.ports c.args.input) c.args.numbers.now c.loop-place.place no_numbers (string_bytes c.args.text.now)
    (string_bytes c.loop-place.text) (omega arith) c.loop-place.invariant

pub returns : goal.returns
returns c = places_all lines_text (line_at c.args.ports c.args.input) c.args.numbers.now c.loop-place.place (string_bytes c.args.text.now)
    (string_bytes c.loop-place.text) (omega arith) c.loop-place.invariant
