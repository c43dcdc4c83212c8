use Rattle.std.proofs.Common.{Some, arith, refl, string_bytes}
use Rattle.std.proofs.lemmas.List.{length-map}
use Rattle.switch_plan.specs.ReadingSteps.{bytes_of_files}
use Rattle.switch_words.specs.Reading.{run, run_words}
use Rattle.job_files.specs.Jobs.{run_reads}
use Rattle.job_files.proofs.InputFiles.{read_of_size}
use Rattle.std.proofs.lemmas.Result.{err_from_is_err_and}
use Rattle.switch_run.specs.Endings.{is_own}
use Rattle.switch_run.proofs.OwnFiles.{run_owns}
use Rattle.switch_run.proofs.Stopping.{reading_stops, texts_stop}
use Rattle.switch_run.proofs.job_texts.texts_of_run.Goals as goal

pub plan_and_run-requires-clause-size : goal.plan_and_run-requires-clause-size
plan_and_run-requires-clause-size g c κs alive =
    let names = c.args.job.now.inputs.items in
    read_of_size (run_reads (run_words c.args.job.now)) (λ d. g.F.Files.seen d c.read_inputs.new.files) _ _
    (λ d. rw c.reads_of_run.ensures.names at c.in_ok-inputs.ensures.read d)
    (record {
      some = omega (arith, length-map names string_bytes, c.requires.inputs.some);
      most = omega (arith, length-map names string_bytes, c.requires.inputs.most);
    })

pub plan_and_run-requires-clause-journal : goal.plan_and_run-requires-clause-journal
plan_and_run-requires-clause-journal g c κs alive long = rw c.wanted_by.ensures (c.requires.journal long)

pub returns-in_err-inputs-clause-stops : goal.returns-in_err-inputs-clause-stops
returns-in_err-inputs-clause-stops g c d =
    let seen = g.F.Files.seen d c.read_inputs.new.files in
    let counts = g.F.Files.faults in
    let words = run_words c.args.job.now in
    let stops = rw c.reads_of_run.ensures.names at c.in_err-inputs.ensures.stops d in
    let failed = err_from_is_err_and c.from_residual.result c.from_residual.ensures.1 in
    rw (failed.1, failed.2)
    (reading_stops (run words) (run_reads words) seen (counts c.args.files.now) (counts c.read_inputs.new.files) c.in_err-inputs.field-0.0 refl stops)

pub returns-in_err-ran-clause-stops : goal.returns-in_err-ran-clause-stops
returns-in_err-ran-clause-stops g c d =
    let seen = g.F.Files.seen d c.read_inputs.new.files in
    let counts = g.F.Files.faults in
    let read = rw c.reads_of_run.ensures.names at c.in_ok-inputs.ensures.read d in
    let stops = rw c.wanted_by.ensures at c.in_err-ran.ensures.stops in
    let failed = err_from_is_err_and c.from_residual-in_err-ran.result c.from_residual-in_err-ran.ensures.1 in
    rw (failed.1, failed.2)
    (texts_stop (run_words c.args.job.now) seen (counts c.args.files.now) (counts c.read_inputs.new.files) _ _ c.in_err-ran.field-0.0 read stops)

pub returns-clause-made : goal.returns-clause-made
returns-clause-made g c d =
    let inputs = c.in_ok-inputs.inputs in
    let files = bytes_of_files inputs.captures in
    let read = rw c.reads_of_run.ensures.names at c.in_ok-inputs.ensures.read d in
    let names = c.args.job.now.inputs.items in
    let ran = rw c.wanted_by.ensures at c.in_ok-ran.ensures.ran in
    record {
      table = inputs.table.items;
      captures = files;
      inputs = read;
      few = omega (arith, read.captures_read.count, length-map names string_bytes, c.requires.inputs.most);
      made = c.in_ok-run_texts.ensures inputs.table.items files ran;
    }

pub returns-in_err-inputs-clause-own : goal.returns-in_err-inputs-clause-own
returns-in_err-inputs-clause-own g c d e alike =
    let words = run_words c.args.job.now in
    c.read_inputs.ensures.own (is_own (Some (run words))) (run_owns words _ c.reads_of_run.ensures.names) d e alike

pub returns-in_err-ran-clause-own : goal.returns-in_err-ran-clause-own
returns-in_err-ran-clause-own g c d e alike =
    let words = run_words c.args.job.now in
    c.read_inputs.ensures.own (is_own (Some (run words))) (run_owns words _ c.reads_of_run.ensures.names) d e alike

pub returns-in_err-run_texts-clause-own : goal.returns-in_err-run_texts-clause-own
returns-in_err-run_texts-clause-own g c d e alike =
    let words = run_words c.args.job.now in
    c.read_inputs.ensures.own (is_own (Some (run words))) (run_owns words _ c.reads_of_run.ensures.names) d e alike

pub returns-clause-own : goal.returns-clause-own
returns-clause-own g c d e alike =
    let words = run_words c.args.job.now in
    c.read_inputs.ensures.own (is_own (Some (run words))) (run_owns words _ c.reads_of_run.ensures.names) d e alike
