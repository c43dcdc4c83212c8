use Rattle.std.proofs.Common.{below_more, arith, rules, refl}
use Rattle.slot_match.specs.Keeping.{KeepsLevel, Gives}
use Rattle.slot_match.proofs.KeepingSets.{KeepsRest-from, KeepsLevel-at}
use Rattle.slot_match.proofs.rows.Row.keeps.Goals as goal

pub returns-then-not-keeps_at : goal.returns-then-not-keeps_at
returns-then-not-keeps_at c = (
  λ e. absurd (cc),
  λ keeps. let holds = c.keeps_at.ensures.1 (KeepsLevel-at (Gives c.args.served) c.args.old.now c.args.self.now c.loop-level.level keeps) in absurd (cc),
)

pub loop-level-preserved : goal.loop-level-preserved
loop-level-preserved c = below_more (KeepsLevel (Gives c.args.served) c.args.old.now c.args.self.now) c.loop-level.level c.loop-level.invariant
    (c.keeps_at.ensures.0 (search rules))

pub returns : goal.returns
returns c = (
  λ _. KeepsRest-from (Gives c.args.served) c.args.old.now c.args.self.now (search rules) (search rules)
      (λ level below. c.loop-level.invariant level (omega arith)),
  λ _. refl,
)
