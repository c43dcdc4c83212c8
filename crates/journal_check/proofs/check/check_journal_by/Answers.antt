use Rattle.std.proofs.Common.{◌∙◌, Result, Ok, sym, ap, subst, inr}
use Rattle.std.proofs.lemmas.Result.{err_from_is_err_and}
use Rattle.scheduler_names.specs.declared.names.SchedulerName.{SchedulerName}
use Rattle.named_schedulers.specs.Named.{decision_named}
use Rattle.journal_check.specs.Steps.{IsJudged}
use Rattle.journal_check.specs.declared.verdict.Verdict.{Verdict}
use Rattle.journal_check.specs.declared.verdict.JournalFault.{JournalFault}
use Rattle.journal_check.proofs.Checked.{header_bad, slots_bad, end_bad, whole_file, whole_answer}
use Rattle.journal_check.proofs.check.check_journal_by.Goals as goal

pub returns-in_err-header : goal.returns-in_err-header
returns-in_err-header c =
    let p = err_from_is_err_and c.from_residual.result c.from_residual.ensures.1 in
    rw (p.1, p.2) (inr (sym (header_bad (decision_named c.args.scheduler) c.args.bytes.now c.in_err-header.field-0.0.at c.in_err-header.ensures.read)))

pub returns-in_err-end : goal.returns-in_err-end
returns-in_err-end c =
    let p = err_from_is_err_and c.from_residual-in_err-end.result c.from_residual-in_err-end.ensures.1 in
    let scheduler = decision_named c.args.scheduler in
    rw (p.1, p.2) (inr (sym (slots_bad scheduler c.args.bytes.now c.in_ok-header.header c.in_ok-header.ensures.read c.in_err-end.field-0.0.at
    c.in_err-end.ensures)))

pub returns-then-end-bytes : goal.returns-then-end-bytes
returns-then-end-bytes c =
    let all = c.in_ok-end.ensures in
    let scheduler = decision_named c.args.scheduler in
    inr (sym (end_bad scheduler c.args.bytes.now c.in_ok-header.header c.in_ok-header.ensures.read all.0 c.in_ok-end.end all.1 c.if-end-bytes.true))

pub returns : goal.returns
returns c =
    let all = c.in_ok-end.ensures in
    let scheduler = decision_named c.args.scheduler in
    let file = whole_file scheduler c.args.bytes.now c.in_ok-header.header c.in_ok-header.ensures.read all.0 c.in_ok-end.end all.1 in
    inr (ap (λ (v : Verdict). let r : Result Verdict JournalFault = Ok v in r) (c.verdict.ensures scheduler file (sym all.2) all.4
    (subst (λ (s : SchedulerName). IsJudged (decision_named s) file.ports file.rounds file.slots c.judge_slots.new.judge)
    (c.in_ok-judge.ensures.scheduler ∙ c.new-scheduler.ensures) all.3))
    ∙ sym (whole_answer scheduler c.args.bytes.now c.in_ok-header.header c.in_ok-header.ensures.read all.0 c.in_ok-end.end all.1 c.if-end-bytes.false))
