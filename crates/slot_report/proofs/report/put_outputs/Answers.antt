use Rattle.std.proofs.Common.{◌∙◌, arith, string_bytes}
use Rattle.slot_report.specs.Lines.{line_text}
use Rattle.slot_report.specs.Texts.{output_line}
use Rattle.slot_report.proofs.Appending.{place_more, places_all}
use Rattle.slot_report.proofs.report.put_outputs.Goals as goal

pub loop-j-preserved : goal.loop-j-preserved
unfolding output_line
loop-j-preserved c =
    c.in_ok-put_line.ensures
    ∙ place_more line_text output_line c.args.outputs.now c.loop-j.j (record { packets = 0; cells = 0 }) (string_bytes c.args.text.now)
    (string_bytes c.loop-j.text) (omega arith) c.loop-j.invariant

pub returns : goal.returns
returns c = places_all line_text output_line c.args.outputs.now c.loop-j.j (string_bytes c.args.text.now) (string_bytes c.loop-j.text)
    (omega arith) c.loop-j.invariant
