use Rattle.journal_check.proofs.Bounds.{multicast_under_rrm}
use Rattle.journal_check.proofs.laws.lawful_files_keep_the_bound_of_rrm.Goals as goal

pub returns : goal.returns
returns c file level first count i good lawful = multicast_under_rrm file good lawful level first count i
