use Rattle.std.proofs.Common.{None}
use Rattle.std.proofs.lemmas.Slice.Eq.{strip_prefix_is}
use Rattle.std.proofs.lemmas.Bool.Decides.{Decides-eqb}
use Rattle.switch_plan.specs.declared.port_rooms.Brought.{Brought}
use Rattle.switch_plan.specs.OutputSteps.{room_at}
use Rattle.switch_plan.proofs.Flows.{joined_left}
use Rattle.switch_plan.proofs.plan_checks.are_greatest.Goals as goal

pub returns-in-None : goal.returns-in-None
returns-in-None c = (
  λ no_. absurd (cc),
  λ all.
      let at = c.loop-port in
      let left = joined_left (λ (port : Brought). (room_at port.rooms c.args.output).sizes) c.args.brought.now at.port-index _ c.args.sizes.now at.rest.now
      c.loop-port-test.true at.invariant all in
      absurd (strip_prefix_is Decides-eqb at.rest.now _ None c.in-None.ensures.cases _ left),
)
