use Rattle.journal_check.proofs.NumberReads.{input_within, rank_within}
use Rattle.journal_check.proofs.slots.read_output.Goals as goal

pub fed_by-requires-clause-input : goal.fed_by-requires-clause-input
fed_by-requires-clause-input c = input_within c.args.ports _ _ _ _ c.requires.few c.in_ok-input.ensures

pub fed_by-requires-clause-rank : goal.fed_by-requires-clause-rank
fed_by-requires-clause-rank c = rank_within _ _ _ _ _ c.in_ok-rank.ensures
