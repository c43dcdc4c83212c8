use Rattle.std.proofs.Common.{◌≡◌, ◌∙◌, ap, sym, refl, map, Bor, List, Some, None, Err}
use Rattle.clap.specs.Walk.{Text}
use Rattle.switch_words.specs.LineSteps.{parts_of}
use Rattle.switch_words.proofs.JobParts.{gen_reads, is_absent, is_there, no_names, run_reads}
use Rattle.switch_words.proofs.reader.job_of.Goals as goal

abbrev texts : List (Bor Text) → List Text
texts names = map (λ name. name.now) names

none_is_some : {A : Type 0} {x : A} → None ≡ Some x → ⊥
none_is_some h = cc

pub returns-in_err-names-clause-usage : goal.returns-in_err-names-clause-usage
returns-in_err-names-clause-usage c = λ is.
    no_names c.args.command (parts_of c.args.matches.now) (rw (← c.names.ensures, c.in_err-names.ensures.ok_part) refl)

pub returns-in_err-run_job-in-Run-clause-usage : goal.returns-in_err-run_job-in-Run-clause-usage
returns-in_err-run_job-in-Run-clause-usage c = λ is.
    let gives = rw is at c.from_residual-in_err-run_job-in-Run.ensures.1 in
    run_reads c.args.command (parts_of c.args.matches.now) c.flags-flags.result c.in_ok-settings-in-Run.settings c.in_ok-scheduler-in-Run.scheduler
    (texts c.in_ok-names.names.now) _ c.in-Run.is (sym c.flags-flags.ensures)
    (sym c.settings.ensures.settings ∙ c.in_ok-settings-in-Run.was) (sym c.scheduler.ensures ∙ c.in_ok-scheduler-in-Run.was)
    None (c.in_err-run_job-in-Run.ensures.usage (ap Err (sym gives))) (rw (← c.names.ensures, c.in_ok-names.ensures.ok_part) refl)

pub returns-in_ok-run_job-in-Run-clause-job : goal.returns-in_ok-run_job-in-Run-clause-job
returns-in_ok-run_job-in-Run-clause-job c =
    run_reads c.args.command (parts_of c.args.matches.now) c.flags-flags.result c.in_ok-settings-in-Run.settings c.in_ok-scheduler-in-Run.scheduler
    (texts c.in_ok-names.names.now) _ c.in-Run.is (sym c.flags-flags.ensures)
    (sym c.settings.ensures.settings ∙ c.in_ok-settings-in-Run.was) (sym c.scheduler.ensures ∙ c.in_ok-scheduler-in-Run.was)
    _ c.in_ok-run_job-in-Run.ensures.job (rw (← c.names.ensures, c.in_ok-names.ensures.ok_part) refl)

pub returns-in_ok-run_job-in-Run-clause-none : goal.returns-in_ok-run_job-in-Run-clause-none
returns-in_ok-run_job-in-Run-clause-none c = λ none. absurd (none_is_some (sym none ∙ returns-in_ok-run_job-in-Run-clause-job c))

pub returns-in_err-gen_job-in-Gen-clause-usage : goal.returns-in_err-gen_job-in-Gen-clause-usage
returns-in_err-gen_job-in-Gen-clause-usage c = λ is.
    gen_reads c.args.command (parts_of c.args.matches.now) c.in_ok-settings-in-Gen.field-0 c.in_ok-scheduler-in-Gen.field-0 _ _
    c.in-Gen.is (sym c.settings-in-Gen.ensures.settings ∙ c.in_ok-settings-in-Gen.was) (sym c.scheduler-in-Gen.ensures ∙ c.in_ok-scheduler-in-Gen.was)
    None (is_absent _ _ _ (sym c.gen_job.ensures.job ∙ c.in_err-gen_job-in-Gen.was)) (rw (← c.names.ensures, c.in_ok-names.ensures.ok_part) refl)

pub returns-in_ok-gen_job-in-Gen-clause-none : goal.returns-in_ok-gen_job-in-Gen-clause-none
returns-in_ok-gen_job-in-Gen-clause-none c = λ none. absurd (none_is_some (sym none
    ∙ gen_reads c.args.command (parts_of c.args.matches.now) c.in_ok-settings-in-Gen.field-0 c.in_ok-scheduler-in-Gen.field-0 _ _
    c.in-Gen.is (sym c.settings-in-Gen.ensures.settings ∙ c.in_ok-settings-in-Gen.was) (sym c.scheduler-in-Gen.ensures ∙ c.in_ok-scheduler-in-Gen.was)
    _ (is_there _ _ _ (sym c.gen_job.ensures.job ∙ c.in_ok-gen_job-in-Gen.was)) (rw (← c.names.ensures, c.in_ok-names.ensures.ok_part) refl)))
