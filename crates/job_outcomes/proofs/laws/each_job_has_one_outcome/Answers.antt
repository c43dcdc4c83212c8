use Rattle.job_outcomes.proofs.Given.{given_has_one, made_has_one}
use Rattle.job_outcomes.proofs.laws.each_job_has_one_outcome.Goals as goal

pub returns : goal.returns
returns c = record { given = given_has_one; made = made_has_one }
