use Rattle.std.proofs.Common.{[], ap, length, string_bytes, sym, ◌∙◌, arith}
use Rattle.std.specs.Prelude.{if◌then◌else◌}
use Rattle.std.proofs.lemmas.List.{length-map}
use Rattle.named_schedulers.specs.Named.{decision_named}
use Rattle.switch_words.specs.Reading.{run_words}
use Rattle.switch_plan.specs.ReadingSteps.{bytes_of_files}
use Rattle.run_laws.specs.Runs.{journal_under}
use Rattle.run_notes.specs.NotingSteps.{told_by}
use Rattle.job_files.specs.OutputFiles.{packets_files, shown}
use Rattle.switch_run.proofs.RunTexts.{in_order, lines_told, run_made}
use Rattle.switch_run.proofs.Stopping.{length-files_before}
use Rattle.switch_run.proofs.texts.run_texts.Goals as goal

pub returns : goal.returns
returns c table captures is =
    let ran = c.args.ran in
    let words = run_words c.args.job.now in
    let by = decision_named c.args.job.now.scheduler in
    let slots = if c.args.job.now.slots then journal_under by is.plan is.ran.slots else [] in
    let told = told_by ran.told in
    let outputs = bytes_of_files ran.outcome.captures in
    let text = string_bytes c.in_ok-report.report in
    let report = rw c.deref.ensures.value at (c.in_ok-report.ensures slots (lines_told words table captures ran is)) in
    let first = rw c.as_str-prefix.ensures.value at c.in_ok-files.ensures in
    let last = rw c.as_str-prefix.ensures.value at c.in_ok-packets.ensures in
    let files = in_order words.prefix outputs text told.journal told.packets _ _ first
    (last ∙ ap (packets_files words.prefix) c.pieces_of.ensures) in
    let before = sym (length-map c.in_ok-files.files.items shown) ∙ ap length first ∙ length-files_before words.prefix outputs text told.journal in
    run_made words table captures ran is text _ report (omega (arith, c.len-outputs.ensures)) before files c.in_ok-summary.ensures
