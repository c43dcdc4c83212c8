use Rattle.std.proofs.Common.{◌∙◌, ◌++◌, ap, sym, arith, string_bytes}
use Rattle.std.specs.Prelude.{decimal}
use Rattle.std.proofs.lemmas.List.Folds.{flat_map-map}
use Rattle.std_lemmas.proofs.Appending.{one_more, all_of}
use Rattle.slot_report.specs.PieceSteps.{after_space}
use Rattle.job_files.proofs.yes_lines.put_numbers.Goals as goal

pub loop-number-preserved : goal.loop-number-preserved
loop-number-preserved c = one_more (λ number. after_space (decimal number)) c.args.numbers.now c.loop-number.number-index _ (string_bytes c.args.text.now)
    (string_bytes c.loop-number.text) _ c.loop-number-test.true c.loop-number.invariant
    c.in_ok-put_number.ensures

pub returns : goal.returns
returns c = all_of (λ number. after_space (decimal number)) c.args.numbers.now c.loop-number.number-index (string_bytes c.args.text.now)
    (string_bytes c.loop-number.text) (omega arith) c.loop-number.invariant
    ∙ ap (λ s. string_bytes c.args.text.now ++ s) (sym (flat_map-map after_space decimal c.args.numbers.now))
