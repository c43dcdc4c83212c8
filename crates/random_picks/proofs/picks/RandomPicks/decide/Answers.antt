use Rattle.std.proofs.Common.{◌≡◌, ap, arith}
use Rattle.islip_rounds.specs.declared.numbers.RoundsUsed.{RoundsUsed}
use Rattle.random_picks.proofs.Rounding.{AreRounds-first, AreRounds-next}
use Rattle.random_picks.proofs.picks.RandomPicks.decide.Goals as goal

pub loop-done-init : goal.loop-done-init
loop-done-init c =
    let unused : c.none-numbers.result.used ≡ 0 = ap (λ (m : RoundsUsed). m.used) c.none-numbers.ensures in
    record {
      whole = c.new.ensures.whole;
      used = omega arith;
      rounds = AreRounds-first c.args.n c.args.rows.now c.args.self.now c.none-numbers.result c.new.result c.new.ensures.value c.none-numbers.ensures;
    }

pub loop-done-preserved : goal.loop-done-preserved
loop-done-preserved c = record {
  whole = c.one_more-added.ensures.whole;
  used = c.after_round-numbers.ensures.used;
  rounds = AreRounds-next c.args.n c.args.rows.now c.args.self.now c.loop-done.done c.loop-done.added c.one_more-added.result
      c.loop-done.numbers c.after_round-numbers.result
      (record { matched = c.loop-done.out; stream = c.loop-done.self }) (record { matched = c.one_more-added.new.out; stream = c.one_more-added.new.self })
      c.loop-done.invariant.rounds
      (λ before made last. c.one_more-added.ensures.rounds c.args.rows.now before c.columns_of-columns.ensures made last)
      c.after_round-numbers.ensures.numbers;
}
