use Rattle.journal_check.proofs.bytes.sets_len.Goals as goal

pub returns-clause-long : goal.returns-clause-long
returns-clause-long c = c.told-sets
