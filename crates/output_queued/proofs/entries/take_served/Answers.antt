use Rattle.std.proofs.Common.{◌≡◌, ◌∙◌, ◌<◌, Option, None, length, length-set, slice_index_or, sym, subst, arith, inl, inr}
use Rattle.std.proofs.lemmas.Bool.{cases_eq}
use Rattle.std.proofs.lemmas.List.{get_or-set_same, get_or-set_other, get_or_read}
use Rattle.slot_match.specs.declared.matching.Served.{Served}
use Rattle.slot_match.specs.Parts.{served_of}
use Rattle.output_queued.specs.NotingSteps.{Source, no_source, source_at}
use Rattle.output_queued.specs.Steps.{MayTake, HasTaken}
use Rattle.output_queued.proofs.entries.take_served.Goals as goal

pub take-requires : goal.take-requires
take-requires c =
    let at = c.loop-input in
    let k = at.input in
    let old = c.args.inputs.now.items in
    let test = c.loop-input-test.true in
    let end = c.len-input-end.ensures in
    let long = at.invariant.long in
    let count = c.requires.count in
    let below : k < length at.inputs.items = omega arith in
    let inside : k < length old = omega arith in
    let matches : k < length c.args.matched.now = omega arith in
    let now = at.inputs.items in
    let found : c.index_mut.result.now ≡ source_at now k = get_or_read now k c.index_mut.result.now below c.index_mut.ensures.value no_source in
    let part : slice_index_or c.put_parts.new.parts k None ≡ served_of c.args.matched.now k = c.put_parts.ensures.parts k matches in
    subst (MayTake (slice_index_or c.put_parts.new.parts k None)) (sym (found ∙ at.invariant.left k (omega arith)))
    (subst (λ (p : Option Served). MayTake p (source_at old k)) (sym part) (c.requires.may k inside))

pub loop-input-preserved : goal.loop-input-preserved
loop-input-preserved c =
    let at = c.loop-input in
    let k = at.input in
    let now = at.inputs.items in
    let old = c.args.inputs.now.items in
    let new = c.take.new.self in
    let test = c.loop-input-test.true in
    let end = c.len-input-end.ensures in
    let long = at.invariant.long in
    let count = c.requires.count in
    let below : k < length now = omega arith in
    let matches : k < length c.args.matched.now = omega arith in
    let found : c.index_mut.result.now ≡ source_at now k = get_or_read now k c.index_mut.result.now below c.index_mut.ensures.value no_source in
    let part : slice_index_or c.put_parts.new.parts k None ≡ served_of c.args.matched.now k = c.put_parts.ensures.parts k matches in
    let here : HasTaken (served_of c.args.matched.now k) (source_at old k) new =
    subst (λ (p : Option Served). HasTaken p (source_at old k) new) part
    (subst (λ (s : Source). HasTaken (slice_index_or c.put_parts.new.parts k None) s new) (found ∙ at.invariant.left k (omega arith)) c.take.ensures) in
    record {
      long = length-set now k new ∙ long;
      taken = λ i before. elim (cases_eq i k) [
        | inl same ↦ rw (same, get_or-set_same now k new no_source below) here
        | inr other ↦ rw (get_or-set_other now k i new no_source other) (at.invariant.taken i (omega arith))
      ];
      left = λ i after. get_or-set_other now k i new no_source (omega arith) ∙ at.invariant.left i (omega arith);
    }
