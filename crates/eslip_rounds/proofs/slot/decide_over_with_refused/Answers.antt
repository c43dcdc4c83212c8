use Rattle.std.proofs.Common.{List, refl, subst}
use Rattle.slot_match.specs.declared.rows.Row.{Row}
use Rattle.eslip_rounds.specs.Refusals.{AreRefused}
use Rattle.eslip_rounds.proofs.slot.decide_over_with_refused.Goals as goal

pub returns-clause-refused : goal.returns-clause-refused
returns-clause-refused c =
    subst (λ (rows : List Row). AreRefused c.args.n c.args.slot rows c.args.p.now c.decide_asked-numbers.new.refused) c.rows-rows.ensures
    (c.decide_asked-numbers.ensures.refused refl)
