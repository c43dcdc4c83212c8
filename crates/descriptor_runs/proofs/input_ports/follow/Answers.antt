use Rattle.std.proofs.Common.{◌≡◌, ◌∙◌, ℕ, Option, Some, sym, ap, subst}
use Rattle.rotating_pick.specs.declared.kinds.Kind.{Kind}
use Rattle.slot_match.specs.declared.rows.Row.{Row}
use Rattle.descriptor_runs.specs.InputSteps.{ChangesAt, row_in}
use Rattle.descriptor_runs.proofs.InputPorts.{rows-same}
use Rattle.descriptor_runs.proofs.input_ports.follow.Goals as goal

pub returns-in_default : goal.returns-in_default
returns-in_default c =
    let (before, at, changes) = c.requires in
    let row : Row = row_in c.args.input.now in
    let same : row ≡ before = subst (λ (queue : Option (ℕ × Kind)). ChangesAt before row queue) c.in_default.is changes in
    rows-same c.args.requests.now c.args.port row (at ∙ ap (λ (r : Row). Some r) (sym same))
