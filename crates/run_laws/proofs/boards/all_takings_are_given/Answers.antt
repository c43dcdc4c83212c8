use Rattle.run_laws.proofs.Given.{all-given}
use Rattle.run_laws.proofs.boards.all_takings_are_given.Goals as goal

pub returns : goal.returns
returns c plan j slots given good inside are = all-given plan j good inside slots given are
