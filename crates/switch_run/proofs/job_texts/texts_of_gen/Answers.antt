use Rattle.switch_plan.specs.ReadingSteps.{bytes_of_files}
use Rattle.switch_words.specs.Reading.{gen}
use Rattle.switch_run.specs.MakingSteps.{to_write}
use Rattle.std.proofs.lemmas.Result.{err_from_is_err_and}
use Rattle.switch_run.proofs.RunTexts.{gen_alone, summary_made}
use Rattle.switch_run.proofs.Stopping.{plan_stops}
use Rattle.switch_run.proofs.job_texts.texts_of_gen.Goals as goal

pub returns-in_err-summary-clause-stops : goal.returns-in_err-summary-clause-stops
returns-in_err-summary-clause-stops g c =
    let failed = err_from_is_err_and c.from_residual-in_err-summary.result c.from_residual-in_err-summary.ensures.1 in
    rw (failed.1, failed.2)
    (λ seen was now. plan_stops (gen c.args.job.now) seen was now _ _ c.in_err-summary.field-0.0
    (c.in_ok-inputs.ensures.table, c.in_ok-inputs.ensures.captures) c.in_err-summary.ensures.stops)

pub returns-clause-made : goal.returns-clause-made
returns-clause-made g c seen =
    let inputs = c.in_ok-inputs.inputs in
    let texts = c.in_ok-summary_alone.field-0 in
    let job = c.args.job.now in
    record {
      table = inputs.table.items;
      captures = bytes_of_files inputs.captures;
      inputs = (c.in_ok-inputs.ensures.table, c.in_ok-inputs.ensures.captures);
      few = c.in_ok-inputs.ensures.size.ports.most;
      made = summary_made (gen job) (gen_alone job) inputs.table.items (bytes_of_files inputs.captures) c.in_ok-summary.summary (to_write texts)
          c.in_ok-summary.ensures.ran c.in_ok-summary_alone.ensures.files c.in_ok-summary_alone.ensures.summary;
    }
