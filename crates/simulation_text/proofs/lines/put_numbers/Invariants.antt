use Rattle.std.proofs.Common.{◌≡◌, ◌++◌, take, string_bytes}
use Rattle.std.specs.List.{flat_map}
use Rattle.simulation_text.specs.Texts.{number_text}
use Rattle.simulation_text.proofs.lines.put_numbers.Given as goal

abbrev pub invariant-loop-number : goal.invariant-loop-number
invariant-loop-number l = string_bytes l.text ≡ string_bytes l.fn.text ++ flat_map number_text (take l.number-index l.numbers)
