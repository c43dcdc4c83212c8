use Rattle.std.proofs.Common.{◌∙◌, ◌++◌, ap, arith, string_bytes, sym}
use Rattle.std.proofs.lemmas.List.Folds.{flat_map-map}
use Rattle.std_lemmas.proofs.Appending.{one_more, all_of}
use Rattle.slot_report.specs.Lines.{line_text}
use Rattle.slot_report.specs.PieceSteps.{count_line}
use Rattle.slot_report.proofs.report.put_counts.Goals as goal

pub loop-name-preserved : goal.loop-name-preserved
loop-name-preserved c = one_more (λ p. line_text (count_line p)) c.args.counts.now c.loop-name.name-index _ (string_bytes c.args.text.now)
    (string_bytes c.loop-name.text) _ c.loop-name-test.true c.loop-name.invariant c.in_ok-put_line.ensures

pub returns : goal.returns
returns c = all_of (λ p. line_text (count_line p)) c.args.counts.now c.loop-name.name-index (string_bytes c.args.text.now) (string_bytes c.loop-name.text)
    (omega arith) c.loop-name.invariant
    ∙ ap (λ s. string_bytes c.args.text.now ++ s) (sym (flat_map-map line_text count_line c.args.counts.now))
