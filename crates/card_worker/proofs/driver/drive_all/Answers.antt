use Rattle.std.proofs.Common.{◌≡◌, suc, ◌+◌, subst, arith}
use Rattle.std_lemmas.proofs.Lists.{get_or-same}
use Rattle.card_worker.specs.DrivingSteps.{AfterSome}
use Rattle.card_worker.proofs.Passes.{AfterSome-none, AfterSome-more, AfterPasses-ends, ArePasses-none, all_acts-few, passes_few}
use Rattle.card_worker.proofs.driver.drive_all.Goals as goal

pub loop-passes-init : goal.loop-passes-init
loop-passes-init g c = record {
  some = AfterSome-none c.args.board.now c.args.patience c.args.members.now _ c.requires.sound (λ j. get_or-same 0 64 j);
  few = omega arith;
}

pub some_go_on-requires-clause-turns : goal.some_go_on-requires-clause-turns
some_go_on-requires-clause-turns g c = λ j m at. (c.loop-passes.invariant.some.sound j m at).agrees.turn

pub pass-acts-requires-clause-sound : goal.pass-acts-requires-clause-sound
pass-acts-requires-clause-sound g c = c.loop-passes.invariant.some.sound

pub overflow_add-made : goal.overflow_add-made
overflow_add-made g c =
    let at = c.loop-passes in
    let news = c.pass-acts.new.members in
    let some = c.some_go_on.ensures.some c.if-not-some_go_on.false in
    let next = AfterSome-more c.args.board.now c.args.patience c.args.members.now at.members at.refused at._passes at.made at.invariant.some news
    c.pass-acts.new.refused c.pass-acts.result some c.pass-acts.ensures in
    let acts = next.acts in
    let count = next.count in
    let few = all_acts-few c.args.board.now news next.sound in
    let ports = c.requires.few in
    omega arith

pub loop-passes-preserved : goal.loop-passes-preserved
loop-passes-preserved g c =
    let at = c.loop-passes in
    let some = c.some_go_on.ensures.some c.if-not-some_go_on.false in
    let one : suc at._passes ≡ at._passes + 1 = omega arith in
    record {
      some = subst (λ n. AfterSome c.args.board.now c.args.patience c.args.members.now c.pass-acts.new.members c.pass-acts.new.refused n
          (at.made + c.pass-acts.result)) one
          (AfterSome-more c.args.board.now c.args.patience c.args.members.now at.members at.refused at._passes at.made at.invariant.some
          c.pass-acts.new.members c.pass-acts.new.refused c.pass-acts.result some c.pass-acts.ensures);
      few =
          let few = passes_few c.args.board.now c.args.patience c.args.members.now at.members at.refused at._passes at.made at.invariant.some some in
          omega arith;
    }

pub returns-then-not-some_go_on-clause-passes : goal.returns-then-not-some_go_on-clause-passes
returns-then-not-some_go_on-clause-passes g c =
    let at = c.loop-passes in
    AfterPasses-ends c.args.board.now c.args.patience c.args.members.now at.members at.refused at._passes at.made at.invariant.some
    (c.some_go_on.ensures.none c.if-not-some_go_on.true)

pub returns-then-not-some_go_on-clause-none : goal.returns-then-not-some_go_on-clause-none
returns-then-not-some_go_on-clause-none g c = λ zero_patience.
    let at = c.loop-passes in
    ArePasses-none c.args.patience at._passes c.args.members.now at.members zero_patience at.invariant.some.are_passes

pub unreachable-requires : goal.unreachable-requires
unreachable-requires g c =
    let at = c.loop-passes in
    let few = at.invariant.few in
    let fits = c.ranges.patience.fits in
    let end = c.loop-passes-test.false in
    omega arith
