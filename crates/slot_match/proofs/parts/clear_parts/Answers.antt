use Rattle.std.proofs.Common.{◌<◌, ◌∙◌, Option, None, length, inl, inr, arith, length-set, get_or-set_same, get_or-set_other}
use Rattle.std.proofs.lemmas.Bool.{cases_eq}
use Rattle.rotating_pick.proofs.Bits.{Has-lt}
use Rattle.slot_match.specs.declared.matching.Served.{Served}
use Rattle.slot_match.proofs.parts.clear_parts.Goals as goal

pub without-rest-requires : goal.without-rest-requires
without-rest-requires c =
    Has-lt 64 c.args.inputs c.in-Some.input c.ranges.inputs.fits (c.loop-input.invariant.left c.in-Some.input c.in-Some.ensures.member)

pub loop-input-preserved : goal.loop-input-preserved
loop-input-preserved c =
    let known = c.loop-input.invariant in
    let parts = c.loop-input.parts in
    let x = c.in-Some.input in
    let member = c.in-Some.ensures.member in
    let none : Option Served = None in
    let inside : x < length parts = let below = c.requires x (known.left x member) in let long = known.count in omega arith in
    record {
      count = length-set parts x none ∙ known.count;
      left = λ i has. known.left i ((c.without-rest.ensures.members i).0 has).1;
      gone = λ i has gone. elim (cases_eq i x) [
        | inl same ↦ rw same (get_or-set_same parts x none none inside)
        | inr apart ↦ get_or-set_other parts x i none none apart ∙ known.gone i has (λ rest. gone ((c.without-rest.ensures.members i).1 (apart, rest)))
      ];
      others = λ i lacks. elim (cases_eq i x) [
        | inl same ↦ absurd (lacks (rw same (known.left x member)))
        | inr apart ↦ get_or-set_other parts x i none none apart ∙ known.others i lacks
      ];
    }
