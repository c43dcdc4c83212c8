use Rattle.std.proofs.Common.{◌≡◌, ◌++◌, take, string_bytes}
use Rattle.std.specs.List.{flat_map}
use Rattle.slot_report.specs.Lines.{lines_text}
use Rattle.slot_report.specs.Texts.{map_with_place}
use Rattle.queue_measures.specs.Steps.{line_at}
use Rattle.queue_measures.proofs.text.put_input.Given as goal

abbrev pub invariant-loop-place : goal.invariant-loop-place
invariant-loop-place l = string_bytes l.text ≡ string_bytes l.fn.text ++ flat_map lines_text (take l.place (map_with_place (line_at l.ports l.input) l.numbers))
