use Rattle.std.proofs.Common.{◌≡◌, length, take, string_bytes}
use Rattle.std.specs.List.{flat_map}
use Rattle.slot_report.specs.Texts.{map_with_place}
use Rattle.queue_measures.specs.Steps.{input_text}
use Rattle.queue_measures.proofs.measures.QueueMeasures.text.Given as goal

abbrev pub invariant-loop-i : goal.invariant-loop-i
invariant-loop-i l = string_bytes l.text ≡ flat_map (λ text. text) (take l.i (map_with_place (input_text (length l.self)) l.self))
