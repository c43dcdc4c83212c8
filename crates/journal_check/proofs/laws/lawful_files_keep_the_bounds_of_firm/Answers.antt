use Rattle.journal_check.proofs.Bounds.{unicast_under_firm, multicast_under_firm}
use Rattle.journal_check.proofs.laws.lawful_files_keep_the_bounds_of_firm.Goals as goal

pub returns-clause-unicast : goal.returns-clause-unicast
returns-clause-unicast c file level first count i j good lawful = unicast_under_firm file good lawful level first count i j

pub returns-clause-multicast : goal.returns-clause-multicast
returns-clause-multicast c file level first count i good lawful = multicast_under_firm file good lawful level first count i
