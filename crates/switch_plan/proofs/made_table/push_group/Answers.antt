use Rattle.std.proofs.Common.{◌∙◌, ◌++◌, ap}
use Rattle.std.specs.String.{string_bytes}
use Rattle.std_lemmas.proofs.Ranges.{flat_map_next}
use Rattle.switch_plan.specs.Made.{route_text}
use Rattle.switch_plan.proofs.made_table.push_group.Goals as goal

pub loop-port-preserved : goal.loop-port-preserved
loop-port-preserved c =
    c.in_ok-push_route.ensures ∙ ap (λ text. text ++ route_text c.args.ports c.args.level c.args.group c.loop-port.port) c.loop-port.invariant
    ∙ flat_map_next (route_text c.args.ports c.args.level c.args.group) (string_bytes c.args.text.now) c.loop-port.port
