use Rattle.std.proofs.Common.{◌≡◌, length, arith}
use Rattle.std.proofs.lemmas.Bool.{eqb-true, eq-eqb}
use Rattle.slot_match.proofs.rows.are_within.Goals as goal

pub returns : goal.returns
returns c =
    let rows = c.args.rows.now in (
      λ e.
          let count : length rows ≡ c.args.n = eqb-true (length rows) c.args.n e in
          record {
            count = count;
            ports = λ i i_in. c.loop-row.invariant.ports i (omega arith);
            levels = λ i i_in. c.loop-row.invariant.levels i (omega arith);
          },
      λ within. eq-eqb (length rows) c.args.n within.count,
    )
