use Rattle.std.proofs.Common.{◌≡◌, take, string_bytes}
use Rattle.slot_report.specs.Lines.{lines_text}
use Rattle.slot_report.specs.Texts.{map_with_place}
use Rattle.output_queued.specs.Texts.{reference_line}
use Rattle.output_queued.proofs.text.reference_text.Given as goal

abbrev pub invariant-loop-j : goal.invariant-loop-j
invariant-loop-j l = string_bytes l.text ≡ lines_text (take l.j (map_with_place reference_line l.lines))
