-- Laws of the numbers of a simulation, whatever the traffic, the switch and the measured slots.
use Rattle.std.specs.Prelude.{◌≡◌, ℕ, ◌+◌, ◌-◌, ◌<◌, false, []}
use Rattle.simulated_slots.specs.declared.discipline.Discipline.TheVariants.{Ideal}
use Rattle.simulated_slots.specs.Jobs.{JobValue, is_ideal}
use Rattle.simulated_slots.specs.Slots.{slot_of}
use Rattle.simulated_runs.specs.Numbers.{NumbersValue}

-- conservation: the cells that came and those that waited were dropped, departed, or wait
abbrev pub IsConserved : NumbersValue → Type 0
IsConserved n = n.arrived + n.before.cells ≡ n.dropped + n.departed + n.waiting.cells

-- Little's law, without a mean or a limit: the slots that cells waited in the switch are those of the cells that departed, but
-- the one in which each is carried, and of those that wait, less what the first had waited before
abbrev pub IsLittle : NumbersValue → Type 0
IsLittle n = n.cell_slots + n.before.age ≡ n.delays - n.departed + n.waiting.age

-- Two jobs to which the same cells come: the first is of an ideal switch, and the second of another one, which drops none of
-- them in its first t slots.
pub record AreCompared (ideal other : JobValue) (t : ℕ) : Type 0 where
  pub traffic : ideal.traffic ≡ other.traffic
  pub seed : ideal.seed ≡ other.seed
  pub discipline : ideal.settings.discipline ≡ Ideal
  pub scheduled : is_ideal other.settings.discipline ≡ false
  pub kept : (s : ℕ) → s < t → (slot_of other s).dropped ≡ []
