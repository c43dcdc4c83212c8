use Rattle.std.proofs.Common.{◌≡◌, ◌++◌, take, string_bytes}
use Rattle.std.specs.List.{flat_map}
use Rattle.simulation_text.specs.Texts.{count_line}
use Rattle.simulation_text.proofs.number_lines.put_counts.Given as goal

abbrev pub invariant-loop-count : goal.invariant-loop-count
invariant-loop-count l = string_bytes l.text ≡ string_bytes l.fn.text ++ flat_map count_line (take l.count-index l.counts)
