use Rattle.std.proofs.Common.{refl, arith}
use Rattle.std.proofs.lemmas.Option.{slice_get_within}
use Rattle.switch_plan.specs.PortSteps.{HasRooms}
use Rattle.switch_plan.proofs.Totalling.{each_next}
use Rattle.switch_plan.proofs.plan_checks.are_sized.Goals as goal

pub loop-output-preserved : goal.loop-output-preserved
loop-output-preserved c =
    each_next (HasRooms c.args.brought.now) c.args.cards.now c.loop-output.output c.index-cards-output.result c.index-cards-output.is
    c.loop-output.invariant (c.is_sized.ensures.0 c.if-not-is_sized.false)

pub returns : goal.returns
returns c = (
  λ yes_ port card there. c.loop-output.invariant port card (let inside = slice_get_within c.args.cards.now port card there in omega arith) there,
  λ all. refl,
)
