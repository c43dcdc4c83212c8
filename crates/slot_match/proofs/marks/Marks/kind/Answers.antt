use Rattle.std.proofs.Common.{sym}
use Rattle.rotating_pick.specs.declared.kinds.Kind.TheVariants.{Uni}
use Rattle.slot_match.proofs.MarkBits.{kind_at-multi, kind_at-from}
use Rattle.slot_match.proofs.marks.Marks.kind.Goals as goal

pub returns-then-contains : goal.returns-then-contains
returns-then-contains c = sym ((kind_at-multi c.args.self.now c.args.output).1 (c.contains.ensures.0 c.if-contains.true))

pub returns-else-contains : goal.returns-else-contains
returns-else-contains c =
    let holds = c.contains.ensures.1 in
    sym (kind_at-from c.args.self.now c.args.output Uni (λ e. absurd (cc), λ has. absurd (let one = holds has in let no = c.if-contains.false in cc)))
