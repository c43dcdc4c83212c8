-- A simulation with one slot more, from what the calls of the slot say.
use Rattle.std.proofs.Common.{◌≡◌, ◌+◌, ◌≤◌, subst, ℕ, false, List, [], ◌∷◌, ◌++◌}
use Rattle.islip_rounds.specs.declared.numbers.RoundsUsed.{RoundsUsed}
use Rattle.service_bound.specs.Waits.{NotedSlot}
use Rattle.service_bound.specs.MeterSteps.{HasNoted}
use Rattle.slot_match.specs.declared.rows.Row.{Row}
use Rattle.arrival_queues.specs.Queues.{Queues, rows_of}
use Rattle.simulated_slots.specs.Jobs.{JobValue, is_ideal}
use Rattle.simulated_slots.specs.Slots.{decision_by, picks_by, slot_of}
use Rattle.simulated_slots.specs.ArbiterSteps.{ArbiterValue}
use Rattle.simulated_runs.specs.SimulationSteps.{HasDecided}
use Rattle.simulated_runs.proofs.Stepping.{HasDecided-more, decided-is}

-- what a call of the arbiter says, over the rows of these queues
pub record Decides (old new : ArbiterValue) (t : ℕ) (rows : List Row) (used : RoundsUsed) : Type 0 where
  pub kept : (new.discipline ≡ old.discipline) × (new.rounds ≡ old.rounds) × (new.places.ports ≡ old.places.ports)
  pub decision : record { matched = new.matched; numbers = used; places = new.places }
      ≡ decision_by old.discipline old.places.ports old.rounds t rows old.places old.picks
  pub picks : new.picks ≡ picks_by old.discipline old.places.ports old.rounds rows old.picks
  pub count : new.meter.count ≤ old.meter.count + 1
  pub noted : is_ideal old.discipline ≡ false → (slots : List NotedSlot) → HasNoted old.meter slots
      → HasNoted new.meter (slots ++ record { rows = rows; matched = new.matched } ∷ [])

-- the decision is that of the slot, and the arbiter is that after it
pub record IsDecided (job : JobValue) (t : ℕ) (new : ArbiterValue) (used : RoundsUsed) : Type 0 where
  pub decision : record { matched = new.matched; numbers = used; places = new.places } ≡ (slot_of job t).decision
  pub arbiter : HasDecided job (t + 1) new

pub IsDecided-told : (job : JobValue) (t : ℕ) (old new : ArbiterValue) (queues : Queues) (rows : List Row) (used : RoundsUsed) → HasDecided job t old
    → queues ≡ (slot_of job t).filled → rows ≡ rows_of queues → Decides old new t rows used → IsDecided job t new used
IsDecided-told job t old new queues rows used has filled same call =
    let told = subst (λ (rows : List Row). Decides old new t rows used) same call in
    let decided = decided-is job t old queues (record { matched = new.matched; numbers = used; places = new.places }) has filled told.decision in
    record { decision = decided; arbiter = HasDecided-more job t old new queues used has filled told.kept decided told.picks told.count told.noted }
