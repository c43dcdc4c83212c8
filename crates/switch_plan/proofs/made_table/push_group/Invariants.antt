use Rattle.std.proofs.Common.{◌≡◌, ◌++◌}
use Rattle.std.specs.Prelude.{flat_map}
use Rattle.std.specs.String.{string_bytes}
use Rattle.switch_plan.specs.Made.{route_text, below}
use Rattle.switch_plan.proofs.made_table.push_group.Given as goal

abbrev pub invariant-loop-port : goal.invariant-loop-port
invariant-loop-port l =
    string_bytes l.text ≡ string_bytes l.fn.text ++ flat_map (route_text l.ports l.level l.group) (below l.port)
