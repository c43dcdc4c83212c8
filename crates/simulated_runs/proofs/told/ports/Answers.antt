use Rattle.simulated_runs.specs.Numbers.{port_of}
use Rattle.simulated_runs.proofs.Telling.{list-next}
use Rattle.simulated_runs.proofs.told.ports.Goals as goal

pub loop-port-preserved : goal.loop-port-preserved
loop-port-preserved c = λ job t taken departed.
    list-next (port_of job t) c.loop-port.port c.loop-port.ports.items c.push.new.self.items c.port_numbers.result c.in_ok-push.ensures.items
    (c.loop-port.invariant job t taken departed) (c.port_numbers.ensures job t taken departed)
