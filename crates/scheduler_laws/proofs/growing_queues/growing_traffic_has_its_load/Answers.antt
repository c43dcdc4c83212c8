use Rattle.scheduler_laws.proofs.Load.{of_load, at_line_rate}
use Rattle.scheduler_laws.proofs.growing_queues.growing_traffic_has_its_load.Goals as goal

pub returns-clause-at_line_rate : goal.returns-clause-at_line_rate
returns-clause-at_line_rate c = λ n m more some. at_line_rate n m more some

pub returns-clause-load : goal.returns-clause-load
returns-clause-load c = λ n m more some. of_load n m more some
