use Rattle.std.proofs.Common.{◌≡◌, ℕ, ◌+◌, ◌^◌, length, length-set, slice_index, arith, ap}
use Rattle.islip_rounds.proofs.Turning.{without_clear, without_set, up_bit, made-lt}
use Rattle.islip_rounds.proofs.Exchanging.{width-is, width-lt, clear_from_test, set_from_test, up_in, Exchanging-put, Exchanging-skip}
use Rattle.islip_rounds.proofs.square.exchange.Goals as goal
use Rattle.islip_rounds.proofs.square.exchange.Goals.{then-r-width-eq0, else-r-width-eq0}

pub bounds-rows-r-then-r-width-eq0 : goal.bounds-rows-r-then-r-width-eq0
bounds-rows-r-then-r-width-eq0 c = up_in c.args.k c.loop-r.r c.requires (omega arith) c.if-r-width-eq0.true

pub bounds-rows-r-then-r-width-eq0-3 : goal.bounds-rows-r-then-r-width-eq0-3
bounds-rows-r-then-r-width-eq0-3 c = up_in c.args.k c.loop-r.r c.requires (omega arith) c.if-r-width-eq0.true

pub overflow_shr-moved : goal.overflow_shr-moved
overflow_shr-moved c = rw (width-is c.args.k c.requires) (width-lt c.args.k c.requires)

pub overflow_shl-rows : goal.overflow_shl-rows
overflow_shl-rows c = rw (width-is c.args.k c.requires) (width-lt c.args.k c.requires)

pub loop-r-preserved : goal.loop-r-preserved
loop-r-preserved c =
    let k = c.args.k in
    let r = c.loop-r.r in
    let width = width-is k c.requires in
    let masks = c.without_bit-mask.ensures in
    elim c.if-r-width-eq0.branch [
      | then-r-width-eq0 w ↦
          let clear = clear_from_test r k (rw width at w.if-r-width-eq0.true) in
          let rows = c.loop-r.rows in
          let old = c.args.rows.now in
          let long = ap length w.rows-is in
          let high : slice_index rows r ≡ slice_index old r = c.loop-r.invariant.left r (omega (arith, without_clear k r clear)) in
          let low : slice_index rows (r + 2 ^ k) ≡ slice_index old (r + 2 ^ k) =
          c.loop-r.invariant.left (r + 2 ^ k) (omega (arith, without_set k (r + 2 ^ k) (up_bit k r clear))) in
          rw w.rows-is
          (rw (width, high, low)
          (Exchanging-put k r c.without_bit-mask.result old clear masks rows c.requires (omega arith) (omega (arith, length-set {A = ℕ})) c.loop-r.invariant))
      | else-r-width-eq0 w ↦ rw w.rows-is
          (Exchanging-skip k r c.args.rows.now c.loop-r.rows (set_from_test r k (rw width at w.if-r-width-eq0.false)) c.loop-r.invariant)
    ]

pub returns : goal.returns
returns c x y x_in y_in = c.loop-r.invariant.exchanged x y x_in y_in (let below = made-lt c.args.k x 0 c.requires x_in (omega arith) in omega arith)
