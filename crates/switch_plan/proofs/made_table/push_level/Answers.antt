use Rattle.std.proofs.Common.{◌∙◌, ◌++◌, ap}
use Rattle.std.specs.String.{string_bytes}
use Rattle.std_lemmas.proofs.Ranges.{flat_map_next}
use Rattle.switch_plan.specs.Made.{group_text}
use Rattle.switch_plan.proofs.made_table.push_level.Goals as goal

pub loop-group-preserved : goal.loop-group-preserved
loop-group-preserved c =
    c.in_ok-push_group.ensures ∙ ap (λ text. text ++ group_text c.args.ports c.args.level c.loop-group.group) c.loop-group.invariant
    ∙ flat_map_next (group_text c.args.ports c.args.level) (string_bytes c.args.text.now) c.loop-group.group
