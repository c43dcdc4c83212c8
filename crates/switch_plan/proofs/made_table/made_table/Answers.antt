use Rattle.std.proofs.Common.{◌∙◌, [], ◌++◌, ap}
use Rattle.std_lemmas.proofs.Ranges.{flat_map_next}
use Rattle.switch_plan.specs.Made.{level_text}
use Rattle.switch_plan.proofs.made_table.made_table.Goals as goal

pub loop-level-preserved : goal.loop-level-preserved
loop-level-preserved c =
    c.in_ok-push_level.ensures ∙ ap (λ text. text ++ level_text c.args.ports c.loop-level.level) c.loop-level.invariant
    ∙ flat_map_next (level_text c.args.ports) [] c.loop-level.level
