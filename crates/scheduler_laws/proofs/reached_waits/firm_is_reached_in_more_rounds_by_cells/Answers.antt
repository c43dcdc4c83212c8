use Rattle.scheduler_laws.proofs.FirmMoreLast.{firm_comes_in_more_rounds}
use Rattle.scheduler_laws.proofs.FirmMoreFew.{firm_comes_with_few_ports}
use Rattle.scheduler_laws.proofs.reached_waits.firm_is_reached_in_more_rounds_by_cells.Goals as goal

pub returns-clause-square : goal.returns-clause-square
returns-clause-square c = firm_comes_in_more_rounds

pub returns-clause-one_less : goal.returns-clause-one_less
returns-clause-one_less c = firm_comes_with_few_ports
