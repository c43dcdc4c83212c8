use Rattle.std.proofs.Common.{◌∙◌, ◌++◌, ℕ, List, ap, arith, decimal}
use Rattle.std.specs.Prelude.{codes}
use Rattle.std.proofs.lemmas.Fmt.{length-decimal-le}
use Rattle.std.proofs.lemmas.List.{append-nil, drop_all}
use Rattle.packet_times.specs.FieldSteps.{outcome_texts, leaving_texts}
use Rattle.packet_times.specs.PuttingSteps.{with_commas}
use Rattle.packet_times.proofs.Texts.{row-parts}
use Rattle.packet_times.proofs.fields.put_line.Goals as goal

pub write_digits-requires : goal.write_digits-requires
write_digits-requires c =
    let input = c.args.row.now.outcome.input in
    let place = c.put_before-end.ensures.place in
    let level = c.put_leaving-level.ensures.short in
    let number = c.put_outcome-number.ensures in
    (omega (arith, place, level, number.short, length-decimal-le 20 input (omega arith) (omega arith) (omega arith)), omega (arith, place, number.put.place))

pub returns-clause-text : goal.returns-clause-text
returns-clause-text c =
    let old = c.args.line.now in
    let row = c.args.row.now in
    let first = outcome_texts row.outcome in
    let rest = leaving_texts row.outcome.packet row.leaving in
    let end = c.put_before-end.ensures.text ∙ ap (λ (s : List ℕ). codes "\n" ++ s) (drop_all 256 old (omega arith)) ∙ append-nil (codes "\n") in
    let tail = c.put_leaving-level.ensures.put.text ∙ ap (λ (s : List ℕ). with_commas rest ++ s) end in
    let all = c.put_outcome-number.ensures.put.text ∙ ap (λ (s : List ℕ). with_commas first ++ s) tail in
    c.write_digits.ensures.written ∙ ap (λ (s : List ℕ). decimal row.outcome.input ++ s) all
    ∙ row-parts (decimal row.outcome.input) first rest
