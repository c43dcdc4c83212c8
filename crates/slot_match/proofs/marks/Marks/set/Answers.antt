use Rattle.std.proofs.Common.{arith}
use Rattle.slot_match.specs.declared.marks.Marks.{Marks}
use Rattle.slot_match.proofs.MarkBits.{level_at-from, level_at-same, kind_at-from, kind_at-same}
use Rattle.slot_match.proofs.marks.Marks.set.Goals as goal

pub returns-clause-level : goal.returns-clause-level
returns-clause-level c =
    let after : Marks = record { low = c.put-self.result; high = c.put-self-2.result; multi = c.put-self-3.result } in
    let odd = c.is_odd.ensures in
    let high = c.is_high.ensures in
    level_at-from after c.args.output c.args.level (omega arith) (λ e. c.put-self.ensures.here.0 (odd.1 e), λ h. odd.0 (c.put-self.ensures.here.1 h))
    (λ e. c.put-self-2.ensures.here.0 (high.1 e), λ h. high.0 (c.put-self-2.ensures.here.1 h))

pub returns-clause-kind : goal.returns-clause-kind
returns-clause-kind c =
    let after : Marks = record { low = c.put-self.result; high = c.put-self-2.result; multi = c.put-self-3.result } in
    let multi = c.is_multi.ensures in
    let here = c.put-self-3.ensures.here in
    kind_at-from after c.args.output c.args.kind (λ e. here.0 (multi.1 e), λ h. multi.0 (here.1 h))

pub returns-clause-others : goal.returns-clause-others
returns-clause-others c j other =
    let before = c.args.self.now in
    let after : Marks = record { low = c.put-self.result; high = c.put-self-2.result; multi = c.put-self-3.result } in (
      level_at-same after before j (c.put-self.ensures.others j other) (c.put-self-2.ensures.others j other),
      kind_at-same after before j (c.put-self-3.ensures.others j other),
    )
