use Rattle.std.proofs.Common.{Some, arith, refl, string_bytes}
use Rattle.std.proofs.lemmas.List.{length-map}
use Rattle.switch_plan.specs.ReadingSteps.{bytes_of_files}
use Rattle.switch_words.specs.Reading.{firm, firm_words}
use Rattle.job_files.specs.Jobs.{firm_reads}
use Rattle.job_files.proofs.InputFiles.{read_of_size}
use Rattle.switch_run.specs.Endings.{is_own}
use Rattle.switch_run.specs.MakingSteps.{to_write}
use Rattle.std.proofs.lemmas.Result.{err_from_is_err_and}
use Rattle.switch_run.proofs.RunTexts.{firm_alone, summary_made}
use Rattle.switch_run.proofs.OwnFiles.{firm_owns}
use Rattle.switch_run.proofs.Stopping.{plan_stops, reading_stops}
use Rattle.switch_run.proofs.job_texts.texts_of_firm.Goals as goal

pub summary_of_job-requires-clause-size : goal.summary_of_job-requires-clause-size
summary_of_job-requires-clause-size g c κs alive =
    let names = c.args.job.now.inputs.items in
    read_of_size (firm_reads (firm_words c.args.job.now)) (λ d. g.F.Files.seen d c.read_inputs.new.files) _ _
    (λ d. rw c.reads_of_firm.ensures.names at c.in_ok-inputs.ensures.read d)
    (record {
      some = omega (arith, length-map names string_bytes, c.requires.inputs.some);
      most = omega (arith, length-map names string_bytes, c.requires.inputs.most);
    })

pub returns-in_err-inputs-clause-stops : goal.returns-in_err-inputs-clause-stops
returns-in_err-inputs-clause-stops g c d =
    let seen = g.F.Files.seen d c.read_inputs.new.files in
    let counts = g.F.Files.faults in
    let words = firm_words c.args.job.now in
    let stops = rw c.reads_of_firm.ensures.names at c.in_err-inputs.ensures.stops d in
    let failed = err_from_is_err_and c.from_residual.result c.from_residual.ensures.1 in
    rw (failed.1, failed.2)
    (reading_stops (firm words) (firm_reads words) seen (counts c.args.files.now) (counts c.read_inputs.new.files) c.in_err-inputs.field-0.0 refl stops)

pub returns-in_err-summary-clause-stops : goal.returns-in_err-summary-clause-stops
returns-in_err-summary-clause-stops g c d =
    let seen = g.F.Files.seen d c.read_inputs.new.files in
    let counts = g.F.Files.faults in
    let read = rw c.reads_of_firm.ensures.names at c.in_ok-inputs.ensures.read d in
    let failed = err_from_is_err_and c.from_residual-in_err-summary.result c.from_residual-in_err-summary.ensures.1 in
    rw (failed.1, failed.2)
    (plan_stops (firm (firm_words c.args.job.now)) seen (counts c.args.files.now) (counts c.read_inputs.new.files) _ _ c.in_err-summary.field-0.0 read
    c.in_err-summary.ensures.stops)

pub returns-clause-made : goal.returns-clause-made
returns-clause-made g c d =
    let inputs = c.in_ok-inputs.inputs in
    let files = bytes_of_files inputs.captures in
    let texts = c.in_ok-summary_alone.field-0 in
    let names = c.args.job.now.inputs.items in
    let read = rw c.reads_of_firm.ensures.names at c.in_ok-inputs.ensures.read d in
    let job = firm_words c.args.job.now in
    record {
      table = inputs.table.items;
      captures = files;
      inputs = read;
      few = omega (arith, read.captures_read.count, length-map names string_bytes, c.requires.inputs.most);
      made = summary_made (firm job) (firm_alone job) inputs.table.items files c.in_ok-summary.summary (to_write texts) c.in_ok-summary.ensures.ran
          c.in_ok-summary_alone.ensures.files c.in_ok-summary_alone.ensures.summary;
    }

pub returns-in_err-inputs-clause-own : goal.returns-in_err-inputs-clause-own
returns-in_err-inputs-clause-own g c d e alike =
    let words = firm_words c.args.job.now in
    c.read_inputs.ensures.own (is_own (Some (firm words))) (firm_owns words _ c.reads_of_firm.ensures.names) d e alike

pub returns-in_err-summary-clause-own : goal.returns-in_err-summary-clause-own
returns-in_err-summary-clause-own g c d e alike =
    let words = firm_words c.args.job.now in
    c.read_inputs.ensures.own (is_own (Some (firm words))) (firm_owns words _ c.reads_of_firm.ensures.names) d e alike

pub returns-in_err-summary_alone-clause-own : goal.returns-in_err-summary_alone-clause-own
returns-in_err-summary_alone-clause-own g c d e alike =
    let words = firm_words c.args.job.now in
    c.read_inputs.ensures.own (is_own (Some (firm words))) (firm_owns words _ c.reads_of_firm.ensures.names) d e alike

pub returns-clause-own : goal.returns-clause-own
returns-clause-own g c d e alike =
    let words = firm_words c.args.job.now in
    c.read_inputs.ensures.own (is_own (Some (firm words))) (firm_owns words _ c.reads_of_firm.ensures.names) d e alike
