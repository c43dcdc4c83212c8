use Rattle.std.proofs.Common.{◌-◌, slice_index, arith, refl}
use Rattle.rotating_pick.proofs.Bits.{Has-lt}
use Rattle.service_bound.proofs.Levels.{longest_of-none, longest_of-without, greater_of-without}
use Rattle.service_bound.proofs.level_queues.longest_of.Goals as goal

pub without-left-requires : goal.without-left-requires
without-left-requires c =
    Has-lt 64 c.args.outputs c.in-Some.output c.ranges.outputs.fits (c.loop-output.invariant.inside c.in-Some.output c.in-Some.ensures.member)

pub loop-output-preserved : goal.loop-output-preserved
loop-output-preserved c =
    let output = c.in-Some.output in
    let rest = c.without-left.ensures.members in
    let begun = c.requires output (c.loop-output.invariant.inside output c.in-Some.ensures.member) in
    let step = longest_of-without c.args.began.now c.loop-output.left c.without-left.result output c.args.count c.in-Some.ensures.member begun.0 rest in
    record {
      inside = λ j has. c.loop-output.invariant.inside j ((rest j).0 has).1;
      longest = greater_of-without c.loop-output.longest
          (c.args.count - slice_index c.args.began.now output) _ _ _ c.max-longest.result c.max-longest.ensures step c.loop-output.invariant.longest;
    }

pub returns : goal.returns
returns c =
    let none = longest_of-none c.args.began.now c.loop-output.left c.args.count (c.in_default.ensures.none.0 refl) in
    omega (arith, none, c.loop-output.invariant.longest)
