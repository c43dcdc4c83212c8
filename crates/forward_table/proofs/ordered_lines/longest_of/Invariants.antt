use Rattle.std.proofs.Common.{ℕ}
use Rattle.rotating_pick.specs.PortSets.{Has}
use Rattle.forward_table.proofs.Searching.{AreSearched}
use Rattle.forward_table.proofs.ordered_lines.longest_of.Given as goal

abbrev pub invariant-loop-host_bits : goal.invariant-loop-host_bits
invariant-loop-host_bits l = record {
  left : (k : ℕ) → Has l.rest k → Has l.lengths k;
  searched : AreSearched l.ordered l.lengths l.rest l.address;
}

abbrev pub decreases-loop-host_bits : goal.decreases-loop-host_bits
decreases-loop-host_bits l = l.rest
