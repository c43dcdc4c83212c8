use Rattle.journal_check.proofs.Exact.{yes_exact, no_exact}
use Rattle.journal_check.proofs.laws.answers_are_exact.Goals as goal

pub returns-clause-yes : goal.returns-clause-yes
returns-clause-yes c scheduler bytes slots longest scheduling = yes_exact scheduler scheduling bytes slots longest

pub returns-clause-no : goal.returns-clause-no
returns-clause-no c scheduler bytes slot reason scheduling = no_exact scheduler scheduling bytes slot reason
