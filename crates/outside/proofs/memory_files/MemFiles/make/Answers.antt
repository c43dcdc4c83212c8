use Rattle.outside.proofs.Given.{given_contents, given_faults}
use Rattle.outside.proofs.memory_files.MemFiles.make.Goals as goal

pub returns-clause-contents : goal.returns-clause-contents
returns-clause-contents c = rw (c.in_ok-stored.ensures, c.new.ensures.items, c.new-2.ensures.items) (given_contents c.args.files.items)

pub returns-clause-faults : goal.returns-clause-faults
returns-clause-faults c p = rw c.in_ok-stored.ensures (given_faults c.args.files.items p)
