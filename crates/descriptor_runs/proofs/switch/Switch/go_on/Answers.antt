use Rattle.std.proofs.Common.{◌∙◌, sym, subst}
use Rattle.descriptor_runs.specs.SwitchSteps.{IsActivity}
use Rattle.descriptor_runs.proofs.switch.Switch.go_on.Goals as goal

pub skip_gap-requires : goal.skip_gap-requires
skip_gap-requires g c =
    let (scheduler, plan, t, slot, scheduling, quiet, good, going, activity, before, noted) = c.requires in
    let idle = subst (IsActivity scheduler plan t) c.in-Idle.is activity in
    let each = sym c.wants_gaps.ensures ∙ c.if-not-wants_gaps.true in
    (scheduler, plan, t, slot, scheduling, quiet, good, going, idle.1, before, noted, each)
