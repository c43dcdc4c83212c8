use Rattle.std.proofs.Common.{◌≡◌, ◌+◌, ◌≤◌, ◌++◌, [], length}
use Rattle.forward_table.specs.Text.{lines}
use Rattle.forward_table.specs.Routes.{AreRoutesOf}
use Rattle.forward_table.specs.Reading.{first_fault, route_lines_of}
use Rattle.forward_table.proofs.reader.read_table.Given as goal

abbrev pub invariant-loop-line : goal.invariant-loop-line
invariant-loop-line l = record {
  fault : first_fault l.n [] 1 (lines l.text) ≡ first_fault l.n l.table (l.number + 1) (lines l.rest);
  table : route_lines_of l.n 1 (lines l.text) ≡ l.table ++ route_lines_of l.n (l.number + 1) (lines l.rest);
  routes : AreRoutesOf l.n l.table;
  few : l.number + length l.rest ≤ length l.text;
}

abbrev pub decreases-loop-line : goal.decreases-loop-line
decreases-loop-line l = length l.rest
