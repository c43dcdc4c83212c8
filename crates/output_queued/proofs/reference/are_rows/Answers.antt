use Rattle.std.proofs.Common.{◌∙◌, map, refl, sym, arith}
use Rattle.std.proofs.lemmas.List.{length-map, get_or-map, ext_get_or}
use Rattle.slot_match.specs.Rows.{no_row}
use Rattle.card_core.specs.StateSteps.{row_of}
use Rattle.output_queued.specs.NotingSteps.{Source, no_source}
use Rattle.output_queued.proofs.reference.are_rows.Goals as goal

pub returns : goal.returns
returns c =
    let f = λ (source : Source). row_of source.banks source.fans in
    let rows = c.args.rows.now in
    let inputs = c.args.inputs.now in
    let same = c.if-rows-inputs.false in
    let long = length-map inputs f in
    let end = c.loop-input-test.false in (
      λ yes_. ext_get_or no_row rows (map f inputs) (omega arith)
          (λ i inside. c.loop-input.invariant i (omega arith) ∙ sym (get_or-map f inputs i no_source no_row (omega arith))),
      λ is. refl,
    )
