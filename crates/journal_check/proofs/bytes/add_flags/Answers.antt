use Rattle.journal_check.proofs.bytes.add_flags.Goals as goal

pub returns-clause-long : goal.returns-clause-long
returns-clause-long c = c.told-sets
