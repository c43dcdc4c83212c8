use Rattle.queue_lengths.proofs.Lengths.{before_later, in_later, admitted_later}
use Rattle.queue_lengths.proofs.laws.later_services_change_nothing.Goals as goal

pub returns-clause-before : goal.returns-clause-before
returns-clause-before c = before_later

pub returns-clause-with_arrival : goal.returns-clause-with_arrival
returns-clause-with_arrival c = in_later

pub returns-clause-admitted : goal.returns-clause-admitted
returns-clause-admitted c = admitted_later
