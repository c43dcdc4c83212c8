use Rattle.std.proofs.Common.{◌≡◌, ◌++◌, take, string_bytes}
use Rattle.std.specs.List.{flat_map}
use Rattle.slot_report.specs.Lines.{line_text}
use Rattle.slot_report.specs.PieceSteps.{count_line}
use Rattle.slot_report.proofs.report.put_counts.Given as goal

abbrev pub invariant-loop-name : goal.invariant-loop-name
invariant-loop-name l = string_bytes l.text ≡ string_bytes l.fn.text ++ flat_map (λ p. line_text (count_line p)) (take l.name-index l.counts)
