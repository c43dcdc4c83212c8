use Rattle.run_laws.proofs.OfFlows.{all_of_flows}
use Rattle.run_laws.proofs.Emptied.{packets_delivered}
use Rattle.run_laws.proofs.deliveries.admitted_packets_are_delivered.Goals as goal

pub returns-clause-flows : goal.returns-clause-flows
returns-clause-flows c scheduler plan slots scheduling good end i j level kind inside to below =
    packets_delivered scheduler scheduling plan good i j level kind slots end inside to below

pub returns-clause-no_others : goal.returns-clause-no_others
returns-clause-no_others c scheduler plan slots scheduling good j = all_of_flows scheduler scheduling plan good j slots
