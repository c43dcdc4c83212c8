use Rattle.std.proofs.Common.{◌∙◌, [], arith, string_bytes}
use Rattle.slot_report.specs.Lines.{line_text}
use Rattle.slot_report.proofs.Appending.{place_more, places_all}
use Rattle.output_queued.specs.Texts.{reference_line}
use Rattle.output_queued.proofs.text.reference_text.Goals as goal

pub loop-j-preserved : goal.loop-j-preserved
loop-j-preserved c =
    c.in_ok-put_line.ensures
    ∙ place_more line_text reference_line c.args.lines.now c.loop-j.j (record { ends = 0; runs = 0; lead = 0; extra = 0 }) [] (string_bytes c.loop-j.text)
    (omega arith) c.loop-j.invariant

pub returns : goal.returns
returns c = places_all line_text reference_line c.args.lines.now c.loop-j.j [] (string_bytes c.loop-j.text) (omega arith) c.loop-j.invariant
