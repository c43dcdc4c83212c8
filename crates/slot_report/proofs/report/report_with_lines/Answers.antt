use Rattle.std.proofs.Common.{◌∙◌, ◌++◌, ap}
use Rattle.slot_report.specs.Lines.{lines_text}
use Rattle.slot_report.specs.Texts.{map_with_place, output_line, report_bytes, summary_lines}
use Rattle.slot_report.proofs.report.report_with_lines.Goals as goal

pub returns : goal.returns
unfolding report_bytes
returns c slots are =
    let start = lines_text (summary_lines c.args.summary.now ++ map_with_place output_line c.args.outputs.now) ++ c.args.more.now in
    c.in_ok-push_str.ensures.bytes ∙ ap (λ s. s ++ c.args.slot_lines.now) c.in_ok-text.ensures ∙ ap (λ s. start ++ s) are
