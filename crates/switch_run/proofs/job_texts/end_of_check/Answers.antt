use Rattle.std.proofs.Common.{Some, refl}
use Rattle.switch_words.specs.Reading.{check, check_words}
use Rattle.switch_run.specs.Endings.{is_own}
use Rattle.switch_run.proofs.Checking.{check_is_yes}
use Rattle.switch_run.proofs.OwnFiles.{check_owns}
use Rattle.switch_run.proofs.job_texts.end_of_check.Goals as goal

pub returns-in_default-clause-meaning : goal.returns-in_default-clause-meaning
returns-in_default-clause-meaning g c d = record {
  words = check_words c.args.job.now;
  is_check = refl;
  means = rw c.as_str.ensures.value at c.check_file.ensures.meaning d;
}

pub returns-in_default-clause-no_fault : goal.returns-in_default-clause-no_fault
returns-in_default-clause-no_fault g c same = c.check_file.ensures.no_fault (check_is_yes c.check_file.result same)

pub returns-in_default-clause-own : goal.returns-in_default-clause-own
returns-in_default-clause-own g c d e alike =
    let words = check_words c.args.job.now in
    c.check_file.ensures.own (is_own (Some (check words))) (rw c.as_str.ensures.value (check_owns words)) d e alike

pub returns-in-OutOfMemory-clause-own : goal.returns-in-OutOfMemory-clause-own
returns-in-OutOfMemory-clause-own g c d e alike =
    let words = check_words c.args.job.now in
    c.check_file.ensures.own (is_own (Some (check words))) (rw c.as_str.ensures.value (check_owns words)) d e alike
