use Rattle.std.proofs.Common.{◌∙◌, ◌++◌, ap, sym}
use Rattle.std.proofs.lemmas.List.Concat.{flat_map-append}
use Rattle.slot_report.specs.Lines.{line_text, lines_text}
use Rattle.slot_report.specs.Texts.{map_with_place, output_line, summary_lines}
use Rattle.slot_report.proofs.report.report_start.Goals as goal

pub returns : goal.returns
returns c =
    let first = summary_lines c.args.summary.now in
    let next = map_with_place output_line c.args.outputs.now in
    let begun = c.in_ok-put_summary.ensures ∙ ap (λ s. s ++ lines_text first) c.in_ok-text.ensures.bytes in
    let lines = c.in_ok-put_outputs.ensures ∙ ap (λ s. s ++ lines_text next) begun ∙ sym (flat_map-append line_text first next) in
    c.in_ok-push_str.ensures.bytes ∙ ap (λ s. s ++ c.args.more.now) lines
