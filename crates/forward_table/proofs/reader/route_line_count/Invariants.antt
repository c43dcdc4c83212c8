use Rattle.std.proofs.Common.{◌≡◌, ◌+◌, ◌≤◌, length}
use Rattle.std.specs.Prelude.{count_by}
use Rattle.forward_table.specs.Text.{lines}
use Rattle.forward_table.specs.Reading.{route_line_count, is_route_line}
use Rattle.forward_table.proofs.reader.route_line_count.Given as goal

abbrev pub invariant-loop-line : goal.invariant-loop-line
invariant-loop-line l = record {
  counted : route_line_count l.text ≡ l.count + count_by is_route_line (lines l.rest);
  few : l.count + length l.rest ≤ length l.text;
}

abbrev pub decreases-loop-line : goal.decreases-loop-line
decreases-loop-line l = length l.rest
