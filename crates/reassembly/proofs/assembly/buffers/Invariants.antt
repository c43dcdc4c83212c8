use Rattle.std.proofs.Common.{◌≡◌, map, take}
use Rattle.reassembly.specs.Flows.{fresh}
use Rattle.reassembly.specs.BufferSteps.{flow_in}
use Rattle.reassembly.proofs.assembly.buffers.Given as goal

abbrev pub invariant-loop-size : goal.invariant-loop-size
invariant-loop-size l = map flow_in l.buffers.items ≡ map fresh (take l.size-index l.sizes)
