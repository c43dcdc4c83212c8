use Rattle.std.proofs.Common.{ℕ, ◌<◌, ◌↔◌, slice_index}
use Rattle.pointer_state.proofs.caller_tables.greatest_place.Given as goal

abbrev pub invariant-loop-port : goal.invariant-loop-port
invariant-loop-port l =
    (bound : ℕ) → 0 < bound
    → (l.greatest < bound) ↔ ((port : ℕ) → port < l.port → (slice_index l.grant port < bound) × (slice_index l.accept port < bound))
