use Rattle.journal_check.proofs.Bounds.{unicast_in_time, multicast_in_time}
use Rattle.journal_check.proofs.laws.lawful_files_keep_the_bounds.Goals as goal

pub returns-clause-unicast : goal.returns-clause-unicast
returns-clause-unicast c file level first count i j good lawful = unicast_in_time file good lawful level first count i j

pub returns-clause-multicast : goal.returns-clause-multicast
returns-clause-multicast c file level first count i good lawful = multicast_in_time file good lawful level first count i
