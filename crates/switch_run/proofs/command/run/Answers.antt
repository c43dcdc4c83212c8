use Rattle.std.proofs.Common.{Some, refl, ◌∙◌}
use Rattle.switch_words.specs.Reading.{job_words}
use Rattle.outside.specs.Faults.{ToErr}
use Rattle.job_files.proofs.RefusedCalls.{refused_calls_end}
use Rattle.switch_run.specs.Endings.{is_own}
use Rattle.switch_run.proofs.Held.{held_before_line}
use Rattle.switch_run.proofs.Stopping.{GivesLine-since, ended}
use Rattle.switch_run.proofs.command.run.Goals as goal

pub returns-clause-meaning : goal.returns-clause-meaning
returns-clause-meaning g c d named =
    let see = g.F.Files.seen d in
    let counts = g.F.Files.faults in
    let job = job_words c.args.job.now in
    let mid = c.attempt-ending.new.files in
    let line = c.print_line.ensures.prints.line d in
    let is = rw (held_before_line _ (see c.args.files.now) (see mid) (see c.print_line.new.files) _ _ line) at (c.attempt-ending.ensures.meaning d) in
    ended _ job (see mid) (counts mid) c.attempt-ending.result refl c.print_line.ensures.prints.never_fall is
    (GivesLine-since _ _ _ _ _ _ (c.attempt-ending.ensures.never_fall ToErr) line)

pub returns-clause-no_fault : goal.returns-clause-no_fault
returns-clause-no_fault g c same p = c.print_line.ensures.no_fault same p ∙ c.attempt-ending.ensures.no_fault same p

pub returns-clause-refused : goal.returns-clause-refused
returns-clause-refused g c = refused_calls_end c.attempt-ending.result _ _ _ c.attempt-ending.ensures.refused c.print_line.ensures.prints.no_others

pub returns-clause-own : goal.returns-clause-own
returns-clause-own g c d e alike =
    c.print_line.ensures.prints.own (is_own (Some (job_words c.args.job.now))) d e (c.attempt-ending.ensures.own d e alike)
