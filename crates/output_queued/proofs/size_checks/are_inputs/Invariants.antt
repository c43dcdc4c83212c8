use Rattle.std.proofs.Common.{◌≡◌, ℕ, ◌<◌, List, map, slice_get, Some}
use Rattle.output_queued.specs.declared.coming.Coming.{Coming}
use Rattle.output_queued.specs.Switches.{IsInput, AreEarly}
use Rattle.output_queued.proofs.size_checks.are_inputs.Given as goal

abbrev pub invariant-loop-coming : goal.invariant-loop-coming
invariant-loop-coming l = (i : ℕ) (coming : List Coming) → i < l.coming-index → slice_get (map (λ list. list.items) l.inputs) i ≡ Some coming
    → IsInput l.n coming × AreEarly coming
