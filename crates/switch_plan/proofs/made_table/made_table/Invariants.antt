use Rattle.std.proofs.Common.{◌≡◌}
use Rattle.std.specs.Prelude.{flat_map}
use Rattle.std.specs.String.{string_bytes}
use Rattle.switch_plan.specs.Made.{level_text, below}
use Rattle.switch_plan.proofs.made_table.made_table.Given as goal

abbrev pub invariant-loop-level : goal.invariant-loop-level
invariant-loop-level l = string_bytes l.text ≡ flat_map (level_text l.ports) (below l.level)
