use Rattle.std.proofs.Common.{◌≡◌, ◌≤◌, length}
use Rattle.std.specs.Prelude.{vec_len, vec_capacity}
use Rattle.switch_plan.proofs.Passing.{SoFar}
use Rattle.switch_plan.proofs.port_plans.packets_of.Given as goal

abbrev pub invariant-loop-k : goal.invariant-loop-k
invariant-loop-k l = record {
  far : SoFar l.table l.pace l.capture l.k l.free l.packets.items;
  routes : l.routes ≡ l.table;
  long : vec_len l.packets ≡ l.k;
  room : length l.capture.packets.items ≤ vec_capacity l.packets;
}
