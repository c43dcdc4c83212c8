use Rattle.scheduler_c.proofs.Pairs.{MayAdd-single}
use Rattle.scheduler_c.proofs.matches.add_pair.Goals as goal

pub returns-then-not-may_add-clause-ready : goal.returns-then-not-may_add-clause-ready
returns-then-not-may_add-clause-ready c = (
  λ e. (c.if-not-may_add.ensures.0 e).ready,
  λ ready.
      let r = c.requires in
      c.if-not-may_add.ensures.1 (MayAdd-single _ _ c.args.output c.args.matched.now c.args.fed c.with-outputs.ensures r.output_in r.free ready),
)
