use Rattle.std.proofs.Common.{◌≡◌, ◌++◌}
use Rattle.std.specs.Prelude.{flat_map}
use Rattle.std.specs.String.{string_bytes}
use Rattle.switch_plan.specs.Made.{group_text, below}
use Rattle.switch_plan.proofs.made_table.push_level.Given as goal

abbrev pub invariant-loop-group : goal.invariant-loop-group
invariant-loop-group l =
    string_bytes l.text ≡ string_bytes l.fn.text ++ flat_map (group_text l.ports l.level) (below l.group)
