use Rattle.std.proofs.Common.{◌≡◌, ℕ, ◌<◌}
use Rattle.slot_match.specs.Rows.{row_of as row_in}
use Rattle.card_core.specs.StateSteps.{row_of}
use Rattle.output_queued.specs.NotingSteps.{source_at}
use Rattle.output_queued.proofs.reference.are_rows.Given as goal

abbrev pub invariant-loop-input : goal.invariant-loop-input
invariant-loop-input l = (i : ℕ) → i < l.input → row_in l.rows i ≡ row_of (source_at l.inputs i).banks (source_at l.inputs i).fans
