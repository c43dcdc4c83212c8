use Rattle.std.proofs.Common.{◌∙◌, ◌++◌, ap}
use Rattle.std.specs.Option.{option_copied}
use Rattle.slot_report.specs.Lines.{lines_text}
use Rattle.slot_report.specs.Texts.{journal_line, map_with_place, report_bytes, slots_of}
use Rattle.slot_report.proofs.report.report_text.Goals as goal

pub returns : goal.returns
unfolding report_bytes
returns c =
    let last = map_with_place journal_line (slots_of (option_copied c.args.slots)) in
    c.in_ok-put_slots.ensures ∙ ap (λ s. s ++ lines_text last) c.in_ok-text.ensures
