-- How the cells of a plan arrive, slot by slot, to each input and for each output. All of it is of the plan, none of a run.
use Rattle.std.specs.Prelude.{◌≡◌, ℕ, ◌+◌, ◌-◌, ◌<◌, ◌≤◌, ◌&&◌, if◌then◌else◌, Option, None, Some, sum_by, slice_get}
use Rattle.std.specs.List.{range_with_len}
use Rattle.rotating_pick.specs.declared.limits.TheConstants.{LEVELS}
use Rattle.rotating_pick.specs.PortSets.{Has, HasSeveral}
use Rattle.slot_histories.specs.Tests.{has}
use Rattle.card_core.specs.declared.plan.Planned.{Planned}
use Rattle.card_core.specs.Plans.{Queue, OfOutput, is_queue, queue_of, size_of, arriving}
use Rattle.card_core.specs.Queues.{is_routed}
use Rattle.switch_plan.specs.GoodPlans.{SwitchPlan}
use Rattle.run_laws.specs.Runs.{ports_of, card_at}

-- no packet goes to several outputs
abbrev pub AreUnicast : SwitchPlan → Type 0
AreUnicast plan = (i k : ℕ) (packet : Planned) → i < ports_of plan → slice_get (card_at plan i).packets k ≡ Some packet → HasSeveral packet.fan → ⊥

-- a packet of input i goes to output j
pub record IsInUse (plan : SwitchPlan) (i j : ℕ) : Type 0 where
  pub number : ℕ
  pub packet : Planned
  pub found : slice_get (card_at plan i).packets number ≡ Some packet
  pub goes : Has packet.fan j

-- the cells of the packet that arrives, where it is forwarded, those of them that go to output j, and those for a queue
abbrev pub cells_of : Option (ℕ × Planned) → ℕ
cells_of None = 0
cells_of (Some (k, packet)) = if is_routed packet then size_of packet else 0

abbrev pub cells_to : ℕ → Option (ℕ × Planned) → ℕ
cells_to j None = 0
cells_to j (Some (k, packet)) = if is_routed packet && has packet.fan j then size_of packet else 0

abbrev pub cells_for : Queue → Option (ℕ × Planned) → ℕ
cells_for q None = 0
cells_for q (Some (k, packet)) = if is_routed packet && is_queue q (queue_of packet) then size_of packet else 0

-- the cells that arrive in slot t at input i, and those that arrive in it, at any input, for output j
abbrev pub arriving_at : SwitchPlan → ℕ → ℕ → ℕ
arriving_at plan i t = cells_of (arriving (card_at plan i) t)

abbrev pub arriving_for : SwitchPlan → ℕ → ℕ → ℕ
arriving_for plan j t = sum_by (λ i. cells_to j (arriving (card_at plan i) t)) (range_with_len 0 (ports_of plan))

-- in any `slots` slots in a row at most `most` cells arrive at each input, and at most `most` for each output
pub record IsShaped (plan : SwitchPlan) (slots most : ℕ) : Type 0 where
  pub inputs : (i t : ℕ) → i < ports_of plan → sum_by (arriving_at plan i) (range_with_len t slots) ≤ most
  pub outputs : (j t : ℕ) → j < ports_of plan → sum_by (arriving_for plan j) (range_with_len t slots) ≤ most

-- In any `slots` slots in a row at most `most` cells arrive at an input and for an output, both together, wherever a packet
-- goes from the one to the other. A cell from the one to the other counts twice.
abbrev pub ArePairsShaped : SwitchPlan → ℕ → ℕ → Type 0
ArePairsShaped plan slots most = (i j t : ℕ) → i < ports_of plan → j < ports_of plan → IsInUse plan i j
    → sum_by (arriving_at plan i) (range_with_len t slots) + sum_by (arriving_for plan j) (range_with_len t slots) ≤ most

-- all cells that arrive at such an input and all that arrive for such an output are at most `most`: in any slots in a row
abbrev pub ArePairsFew : SwitchPlan → ℕ → Type 0
ArePairsFew plan most = (slots : ℕ) → ArePairsShaped plan slots most

-- ---- each line by itself
-- The arrival curves of the lines: in any slots in a row at most `most_in i slots` cells arrive at input i, and at most
-- `most_out j slots` for output j.
pub record HasCurves (plan : SwitchPlan) (most_in most_out : ℕ → ℕ → ℕ) : Type 0 where
  pub inputs : (i t slots : ℕ) → i < ports_of plan → sum_by (arriving_at plan i) (range_with_len t slots) ≤ most_in i slots
  pub outputs : (j t slots : ℕ) → j < ports_of plan → sum_by (arriving_for plan j) (range_with_len t slots) ≤ most_out j slots

-- In `slots` slots in a row at most `most` cells arrive at an input and for an output, both together, by the curves.
abbrev pub AreCurvesLow : SwitchPlan → (ℕ → ℕ → ℕ) → (ℕ → ℕ → ℕ) → ℕ → ℕ → Type 0
AreCurvesLow plan most_in most_out slots most = (i j : ℕ) → i < ports_of plan → j < ports_of plan → IsInUse plan i j
    → most_in i slots + most_out j slots ≤ most

-- Windows of so many slots, one for each line, are long enough. Of an input and an output, wherever a packet goes from the one
-- to the other: the most cells of the input's window and of the output's, and the most that arrive for the output in one
-- slot less than the input's window, are at most the slots of the input's window and one. So it is the other way round.
pub record HasWindows (plan : SwitchPlan) (most_in most_out : ℕ → ℕ → ℕ) (slots_in slots_out : ℕ → ℕ) : Type 0 where
  pub some_in : (i : ℕ) → i < ports_of plan → 0 < slots_in i
  pub some_out : (j : ℕ) → j < ports_of plan → 0 < slots_out j
  pub inputs : (i j : ℕ) → i < ports_of plan → j < ports_of plan → IsInUse plan i j
      → most_in i (slots_in i) + most_out j (slots_out j) + most_out j (slots_in i - 1) ≤ slots_in i + 1
  pub outputs : (i j : ℕ) → i < ports_of plan → j < ports_of plan → IsInUse plan i j
      → most_in i (slots_in i) + most_out j (slots_out j) + most_in i (slots_out j - 1) ≤ slots_out j + 1

-- Where so many cells at most wait at each input and for each output: these, and what arrives for both in `most` slots in a row,
-- are at most `most + 2` cells, wherever a packet goes from the one to the other.
abbrev pub AreHeldFew : SwitchPlan → (ℕ → ℕ) → (ℕ → ℕ) → ℕ → Type 0
AreHeldFew plan held_in held_out most = (i j t : ℕ) → i < ports_of plan → j < ports_of plan → IsInUse plan i j
    → held_in i + held_out j + (sum_by (arriving_at plan i) (range_with_len t most) + sum_by (arriving_for plan j) (range_with_len t most)) ≤ most + 2

-- ---- one queue
-- the cells that arrive in slot t for the queue of input i, output j and level l
abbrev pub arriving_in : SwitchPlan → ℕ → ℕ → ℕ → ℕ → ℕ
arriving_in plan i j l t = cells_for (OfOutput j l) (arriving (card_at plan i) t)

-- in any `slots` slots in a row at most `most` cells arrive for each queue
abbrev pub AreQueuesShaped : SwitchPlan → ℕ → ℕ → Type 0
AreQueuesShaped plan slots most = (i j l t : ℕ) → i < ports_of plan → j < ports_of plan → l < LEVELS
    → sum_by (arriving_in plan i j l) (range_with_len t slots) ≤ most

-- all cells that ever arrive at input i and for output j are at most `most`, both together
abbrev pub IsPairFew : SwitchPlan → ℕ → ℕ → ℕ → Type 0
IsPairFew plan i j most = (slots : ℕ)
    → sum_by (arriving_at plan i) (range_with_len 0 slots) + sum_by (arriving_for plan j) (range_with_len 0 slots) ≤ most
