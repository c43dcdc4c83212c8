-- Growth: a traffic of a load just above n / (2n - 1), for a switch of n ports.
use Rattle.std.specs.Prelude.{◌≡◌, ℕ, zero, suc, ◌+◌, ◌-◌, ◌*◌, ◌/◌, ◌%◌, ◌<◌, ◌≤◌, nat_eq, if◌then◌else◌, List, length, sum_by}
use Rattle.std.specs.List.{range_with_len}
use Rattle.pointer_state.specs.Places.{Places}
use Rattle.eslip_rounds.specs.Slots.{Moving}
use Rattle.eslip_rounds.specs.Schedules.{DecidedSlot, IsScheduleBy}
use Rattle.scheduler_laws.specs.FedSlots.{Traffic, AreFed, waiting}

-- how many slots a cycle has
abbrev pub cycle : ℕ → ℕ
cycle n = 2 * n - 1

-- and a period, of m cycles
abbrev pub period : ℕ → ℕ → ℕ
period n m = m * cycle n

-- one cell in that slot of a cycle or a period, and none in the others
abbrev pub one_in : ℕ → ℕ → ℕ
one_in place slot = if nat_eq slot place then 1 else 0

-- In slot i of each cycle one cell comes to each input i but input 0, for output 0; in the n - 1 slots after them one to
-- input 0, for output 1, 2, .. n - 1 in turn. To queue (0, 0) one comes in slot 1 of each cycle, and one more in the
-- first slot of each period.
abbrev pub growing : ℕ → ℕ → Traffic
growing n m zero zero t = one_in 1 (t % cycle n) + one_in 0 (t % period n m)
growing n m (suc i) zero t = one_in (suc i) (t % cycle n)
growing n m zero (suc j) t = one_in (n + j) (t % cycle n)
growing n m (suc i) (suc j) t = 0

-- how many cells come to input i of a switch of n ports in some slots, the first of which is slot t
abbrev pub came_to_input : ℕ → Traffic → ℕ → ℕ → ℕ → ℕ
came_to_input n traffic i t slots = sum_by (λ u. sum_by (λ j. traffic i j u) (range_with_len 0 n)) (range_with_len t slots)

-- how many come for output j
abbrev pub came_for_output : ℕ → Traffic → ℕ → ℕ → ℕ → ℕ
came_for_output n traffic j t slots = sum_by (λ u. sum_by (λ i. traffic i j u) (range_with_len 0 n)) (range_with_len t slots)

-- What this traffic is: at line rate, of a period of m (2n - 1) slots, and in so many slots in a row at most m n + 1 cells
-- come to an input or for an output: a load of n / (2n - 1) + 1 / (m (2n - 1)).
pub record IsOfLoad (n m : ℕ) (traffic : Traffic) : Type 0 where
  pub periodic : (i j t : ℕ) → traffic i j (t + period n m) ≡ traffic i j t
  pub inputs : (i t : ℕ) → i < n → came_to_input n traffic i t (period n m) ≤ m * n + 1
  pub outputs : (j t : ℕ) → j < n → came_for_output n traffic j t (period n m) ≤ m * n + 1

-- Slots of n ports that this traffic feeds, from these pointers on, where `Moves` says how pointers move: there are as many
-- as one wants, and in each of all such slots one cell more waits in queue (0, 0) than periods have passed.
pub record GrowsForEver (Moves : Moving) (n m rounds : ℕ) (places : Places) : Type 0 where
  pub fed : (count : ℕ) → (slots : List DecidedSlot) × IsScheduleBy Moves n rounds 0 places slots × AreFed n (growing n m) slots × (length slots ≡ count)
  pub grows : (slots : List DecidedSlot) → IsScheduleBy Moves n rounds 0 places slots → AreFed n (growing n m) slots → (t : ℕ) → t < length slots
      → waiting (growing n m) slots 0 0 t ≡ t / period n m + 1
