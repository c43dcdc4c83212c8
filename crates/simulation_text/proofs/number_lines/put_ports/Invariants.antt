use Rattle.std.proofs.Common.{◌≡◌, ◌++◌, take, string_bytes}
use Rattle.std.specs.List.{flat_map, enumerate_from}
use Rattle.simulation_text.specs.Texts.{port_line}
use Rattle.simulation_text.proofs.number_lines.put_ports.Given as goal

abbrev pub invariant-loop-number : goal.invariant-loop-number
invariant-loop-number l = string_bytes l.text ≡ string_bytes l.fn.text ++ flat_map (λ p. port_line p.0 p.1) (take l.number (enumerate_from 0 l.ports))
