-- Steps of proofs: slots of a run in which nothing happens.
use Rattle.std.specs.Prelude.{◌≡◌, ℕ, ◌+◌, ◌≤◌, List, Some, length, slice_get}
use Rattle.output_queued.specs.declared.coming.Coming.{Coming}
use Rattle.output_queued.specs.Switches.{Matched, AreEmptied}
use Rattle.output_queued.specs.NotingSteps.{State, source_at, cards_in}

-- In so many slots after these nothing happens: no cell waits in any queue of the run, so none waits at an output of the ideal
-- switch, and no packet comes.
pub record IsQuietFor (s : State) (matches : List Matched) (slots : ℕ) : Type 0 where
  pub empty : AreEmptied (cards_in s) matches
  pub none : (i k : ℕ) (c : Coming) → slice_get (source_at s.sources i).coming k ≡ Some c → length matches ≤ c.slot → length matches + slots ≤ c.slot
