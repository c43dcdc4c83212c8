use Rattle.std.proofs.Common.{arith}
use Rattle.scheduler_c.proofs.rows.name_only_ports.Goals as goal

pub returns : goal.returns
returns c =
    let kept = c.loop-row.invariant in
    let count = c.requires in (
      λ e. record {
        count = count;
        ports = λ i i_in level j kind names. c.within.ensures.within.0 e level j kind ((kept.named level j kind).1 (i, omega arith, names));
        levels = λ i i_in. kept.levels i (omega arith);
      },
      λ within. c.within.ensures.within.1
          (λ level j kind names. let f = (kept.named level j kind).0 names in let i_in = f.1 in within.ports f.0 (omega arith) level j kind f.2),
    )
