use Rattle.std.proofs.Common.{◌≡◌, arith, slice_index}
use Rattle.eslip_rounds.proofs.Filling.{AreFilled-first, AreFilled-put, AreFilled-skip}
use Rattle.eslip_rounds.proofs.asks.fill.Goals as goal
use Rattle.eslip_rounds.proofs.asks.fill.Goals.{then-not-is_empty, else-not-is_empty}

pub loop-set-init : goal.loop-set-init
loop-set-init c = AreFilled-first c.args.n c.args.rows.now c.args.outputs.now c.args.columns.now (omega arith)

pub loop-set-preserved : goal.loop-set-preserved
loop-set-preserved c =
    elim c.if-not-is_empty.branch [
      | then-not-is_empty w ↦ rw w.columns-is
          (AreFilled-put c.args.n c.loop-set.set c.args.rows.now c.args.outputs.now c.loop-set.columns c.loop-set.invariant w.level_of.result
          w.kind_of-kind.result w.gather.new.columns w.level_of.ensures.value w.kind_of-kind.ensures (omega arith) w.gather.ensures)
      | else-not-is_empty w ↦
          let none : slice_index c.args.outputs.now c.loop-set.set ≡ 0 = c.is_empty.ensures.zero.0 w.if-not-is_empty.false in
          rw w.columns-is (AreFilled-skip c.args.n c.loop-set.set c.args.rows.now c.args.outputs.now c.loop-set.columns c.loop-set.invariant none)
    ]

pub returns : goal.returns
returns c set i j set_in = c.loop-set.invariant.done set i j (omega arith)
