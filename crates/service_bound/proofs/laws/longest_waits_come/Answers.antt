use Rattle.service_bound.proofs.Openings.{one_comes, more_come, two_come}
use Rattle.service_bound.proofs.laws.longest_waits_come.Goals as goal

pub returns : goal.returns
returns c = record { one_round = one_comes; more_rounds = more_come; two_ports = two_come }
