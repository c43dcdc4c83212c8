use Rattle.std.proofs.Common.{◌<◌, ◌∙◌, Some, length, inl, inr, arith, length-set, get_or-set_same, get_or-set_other}
use Rattle.std.proofs.lemmas.Bool.{cases_eq}
use Rattle.rotating_pick.proofs.Bits.{Has-lt}
use Rattle.slot_match.proofs.Tables.{count_by-set}
use Rattle.slot_match.proofs.matching.feed.Goals as goal

pub set-requires-clause-output_in : goal.set-requires-clause-output_in
set-requires-clause-output_in c =
    Has-lt 64 c.args.outputs c.in-Some.output c.ranges.outputs.fits (c.loop-output.invariant.left c.in-Some.output c.in-Some.ensures.member)

pub without-rest-requires : goal.without-rest-requires
without-rest-requires c =
    Has-lt 64 c.args.outputs c.in-Some.output c.ranges.outputs.fits (c.loop-output.invariant.left c.in-Some.output c.in-Some.ensures.member)

pub loop-output-preserved : goal.loop-output-preserved
loop-output-preserved c =
    let known = c.loop-output.invariant in
    let fed = c.loop-output.fed in
    let x = c.in-Some.output in
    let member = c.in-Some.ensures.member in
    let inside : x < length fed = let long = known.long in let below = Has-lt 64 c.args.outputs x c.ranges.outputs.fits (known.left x member) in omega arith in
    rw c.set.ensures (record {
      long = length-set fed x (Some c.args.by) ∙ known.long;
      left = λ j has. known.left j ((c.without-rest.ensures.members j).0 has).1;
      waiting = λ j has. let p = (c.without-rest.ensures.members j).0 has in get_or-set_other fed x j (Some c.args.by) _ p.0 ∙ known.waiting j p.1;
      fed = λ j has gone. elim (cases_eq j x) [
        | inl same ↦ rw same (get_or-set_same fed x (Some c.args.by) _ inside)
        | inr apart ↦ get_or-set_other fed x j (Some c.args.by) _ apart ∙ known.fed j has (λ rest. gone ((c.without-rest.ensures.members j).1 (apart, rest)))
      ];
      stays = λ j lacks. elim (cases_eq j x) [
        | inl same ↦ absurd (lacks (rw same (known.left x member)))
        | inr apart ↦ get_or-set_other fed x j (Some c.args.by) _ apart ∙ known.stays j lacks
      ];
      counted = count_by-set fed x c.args.by inside (known.waiting x member) ∙ (let e = known.counted in omega arith);
    })
