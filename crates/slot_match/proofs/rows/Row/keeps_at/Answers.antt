use Rattle.std.proofs.Common.{arith}
use Rattle.slot_match.specs.Keeping.{Gives}
use Rattle.slot_match.proofs.KeepingSets.{KeepsLevel-from}
use Rattle.slot_match.proofs.rows.Row.keeps_at.Goals as goal

pub returns-else-is_empty : goal.returns-else-is_empty
returns-else-is_empty c =
    let level = c.args.level in
    KeepsLevel-from (Gives c.args.served) c.args.old.now c.args.self.now level c.difference-uni.result c.difference-rest.result (omega arith)
    (λ j. let d = c.difference-uni.ensures j in let g = c.given.ensures j in
    (λ has. let p = d.0 has in (p.0, λ h. p.1 (g.1 h)), λ p. d.1 (p.0, λ h. p.1 (g.0 h))))
    (λ j. let d = c.difference-rest.ensures j in let g = c.given-2.ensures j in
    (λ has. let p = d.0 has in (p.0, λ h. p.1 (g.1 h)), λ p. d.1 (p.0, λ h. p.1 (g.0 h))))
    (c.is_subset.ensures.0 c.if-is_subset.true) (λ none. let empty = c.is_empty.ensures.members.1 none in absurd (cc))
