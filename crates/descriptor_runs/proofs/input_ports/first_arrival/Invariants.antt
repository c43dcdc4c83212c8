use Rattle.descriptor_runs.specs.PortSteps.{IsFirst}
use Rattle.descriptor_runs.proofs.input_ports.first_arrival.Given as goal

abbrev pub invariant-loop-input : goal.invariant-loop-input
invariant-loop-input l = IsFirst l.input-index l.inputs l.first
