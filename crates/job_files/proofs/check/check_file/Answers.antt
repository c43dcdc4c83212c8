use Rattle.std.proofs.Common.{◌≡◌, ◌∙◌, Ok, sym, ap, inl, inr}
use Rattle.named_schedulers.specs.Named.{decision_named}
use Rattle.outside.proofs.Counting.{last_calls}
use Rattle.journal_check.specs.declared.verdict.Verdict.TheVariants as verdict
use Rattle.journal_check.specs.Verdicts.{answer_under}
use Rattle.job_files.specs.Checks.{IsAnswered}
use Rattle.job_files.proofs.Later.{check_wider, held_check, is_answered}
use Rattle.job_files.proofs.check.check_file.Goals as goal

pub returns-in-Err-clause-no_fault : goal.returns-in-Err-clause-no_fault
returns-in-Err-clause-no_fault g c is = absurd (c.in-Err.ensures.no_yes is)

pub returns-in-Err-clause-meaning : goal.returns-in-Err-clause-meaning
returns-in-Err-clause-meaning g c d =
    let see = g.F.Files.seen d in
    let counts = g.F.Files.faults in
    held_check (decision_named c.args.scheduler) c.args.name.now (see c.args.files.now) (see c.read_journal.new.files) (counts c.args.files.now)
    (counts c.read_journal.new.files) (c.in-Err.ensures.seen d) _ (see c.read_journal.new.files)
    (c.in-Err.ensures.stops (decision_named c.args.scheduler) d)

pub returns-in-Ok-Yes-clause-meaning : goal.returns-in-Ok-Yes-clause-meaning
returns-in-Ok-Yes-clause-meaning g c d =
    let s = decision_named c.args.scheduler in
    let name = c.args.name.now in
    let see = g.F.Files.seen d in
    let counts = g.F.Files.faults in
    let bytes : c.deref.result.now ≡ c.in-Ok.bytes.items = c.deref.ensures.value in
    let answer : answer_under s c.deref.result.now ≡ Ok (verdict.Yes c.in-Ok-Yes.slots c.in-Ok-Yes.longest) = elim c.check_journal_by.ensures [
      | inl none ↦ absurd (let is = c.in-Ok-Yes.is in cc)
      | inr is ↦ sym is ∙ c.in-Ok-Yes.is ∙ ap Ok c.in-Ok-Yes.field-0-is
    ] in
    let lawful : IsAnswered s name (see c.read_journal.new.files) (Ok (verdict.Yes c.in-Ok-Yes.slots c.in-Ok-Yes.longest)) =
    is_answered s name c.in-Ok.bytes.items (Ok (verdict.Yes c.in-Ok-Yes.slots c.in-Ok-Yes.longest)) (see c.read_journal.new.files)
    (c.in-Ok.ensures.bytes d) c.in-Ok.ensures.fits (ap (answer_under s) (sym bytes) ∙ answer) in
    held_check s name (see c.args.files.now) (see c.read_journal.new.files) (counts c.args.files.now) (counts c.tell_yes.new.files)
    (c.in-Ok.ensures.seen d) c.tell_yes.result (see c.tell_yes.new.files)
    (check_wider s name (see c.read_journal.new.files) (see c.tell_yes.new.files) (counts c.args.files.now) (counts c.tell_yes.new.files)
    (last_calls (counts c.args.files.now) (counts c.read_journal.new.files) (counts c.tell_yes.new.files) c.in-Ok.ensures.never_fall)
    c.tell_yes.result (c.tell_yes.ensures.meaning s d lawful))
