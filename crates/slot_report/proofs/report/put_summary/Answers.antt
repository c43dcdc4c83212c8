use Rattle.std.proofs.Common.{take, string_bytes}
use Rattle.std.proofs.lemmas.Result.{on_ok_weaker}
use Rattle.slot_report.specs.Texts.{summary_lines}
use Rattle.slot_report.proofs.Appending.{lines_and_last}
use Rattle.slot_report.proofs.report.put_summary.Goals as goal

pub returns : goal.returns
unfolding summary_lines
returns c =
    on_ok_weaker c.put_longest.result
    (λ last. lines_and_last (string_bytes c.args.text.now) (string_bytes c.put_counts.new.text) (string_bytes c.put_longest.new.text)
    (take 11 (summary_lines c.args.summary.now)) _ c.in_ok-put_counts.ensures last)
    c.put_longest.ensures
