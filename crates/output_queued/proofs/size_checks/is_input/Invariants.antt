use Rattle.std.proofs.Common.{◌≡◌, ℕ, ◌<◌, ◌≤◌, map, slice_get, Some}
use Rattle.card_core.proofs.Ascending.{RisesTo}
use Rattle.output_queued.specs.declared.coming.Coming.{Coming}
use Rattle.output_queued.specs.Switches.{planned_of, IsComing}
use Rattle.output_queued.proofs.size_checks.is_input.Given as goal

abbrev pub invariant-loop-packet : goal.invariant-loop-packet
invariant-loop-packet l = record {
  each : (k : ℕ) (c : Coming) → k < l.packet-index → slice_get l.coming k ≡ Some c → IsComing l.n c × (c.slot < 131072);
  rises : RisesTo (map planned_of l.coming) l.packet-index l.least;
  long : l.packet-index ≤ l.least;
  early : l.least ≤ 131072;
}
