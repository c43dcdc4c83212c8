use Rattle.std.proofs.Common.{arith}
use Rattle.reference_run.proofs.Matches.{matches-long, run-few}
use Rattle.reference_run.proofs.Gaps.{gap-matches, gap-emptied, gap-comes}
use Rattle.reference_run.proofs.laws.gaps_may_be_skipped.Goals as goal

pub returns-clause-quiet : goal.returns-clause-quiet
returns-clause-quiet c scheduler plan reference slot next good is gap = record {
  empty = gap-emptied scheduler plan good slot next gap reference is;
  none = gap-comes scheduler plan good slot next gap reference is;
}

pub returns-clause-few : goal.returns-clause-few
returns-clause-few c scheduler plan reference slot next slots scheduling good countable end below is gap =
    let few = run-few scheduler scheduling plan good countable slots end in
    let at = is.noted.stands.slots in
    let long = matches-long scheduler plan slot in
    let begins = gap.begins in
    let some = gap.some in
    omega arith

pub returns-clause-more : goal.returns-clause-more
returns-clause-more c scheduler plan slot next gap = gap-matches scheduler plan slot next gap
