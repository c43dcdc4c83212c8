-- What leaves in a slot, and what it makes of the queues and of what was counted.
use Rattle.std.specs.Prelude.{◌≡◌, ℕ, ◌+◌, ◌-◌, ◌*◌, ◌≤◌, List, [], ◌++◌, length, map, Option, None, Some}
use Rattle.rotating_pick.specs.declared.limits.TheConstants.{MAX_PORTS}
use Rattle.slot_match.specs.declared.matching.Fed.{Fed}
use Rattle.delay_counts.specs.CountSteps.{HasCounted as HasDelays}
use Rattle.arrival_queues.specs.declared.cell.ArrivedCell.{ArrivedCell}
use Rattle.arrival_queues.specs.Queues.{Queues}
use Rattle.simulated_slots.specs.declared.departed.Departed.{Departed}
use Rattle.simulated_slots.specs.declared.discipline.Discipline.{Discipline}
use Rattle.simulated_slots.specs.Slots.{all_left, departing, served_queues}
use Rattle.simulated_slots.specs.ArrivalSteps.{AllCame}
use Rattle.simulated_slots.specs.TableSteps.{BatchDelay, HasBatched, HasCounted}

-- the delay of a cell that leaves in slot t
abbrev pub delay_in : ℕ → ArrivedCell → ℕ
delay_in t cell = t + 1 - cell.arrival

-- f of the batch and of each of these where the slot has a batch, and else nothing
abbrev pub where_batched : {X Y : Type 0} → Option ℕ → (ℕ → X → Y) → List X → List Y
where_batched None f xs = []
where_batched (Some batch) f xs = map (f batch) xs

-- these are of a switch of n ports and of so many batches, of at most `most` cells
pub record AreDeparted (n batches most : ℕ) (departed : Departed) : Type 0 where
  pub left : length departed.left.counts ≡ n
  pub fed : length departed.fed.counts ≡ n
  pub delays : length departed.batches.delays ≡ batches
  pub counts : length departed.batches.departed.counts ≡ batches
  pub few_left : departed.left.total ≤ most
  pub few_fed : departed.fed.total ≤ most
  pub few_batched : departed.batches.departed.total ≤ most
  pub few_delays : departed.delays.total ≤ most

-- what these cells, which leave in slot t, make of what was counted, where the slot is of a batch or is not measured
pub record HaveDeparted (t : ℕ) (batch : Option ℕ) (cells : List ArrivedCell) (old new : Departed) : Type 0 where
  pub left : (numbers : List ℕ) → HasCounted old.left numbers → HasCounted new.left (numbers ++ where_batched batch (λ b c. c.input) cells)
  pub fed : (numbers : List ℕ) → HasCounted old.fed numbers → HasCounted new.fed (numbers ++ where_batched batch (λ b c. c.output) cells)
  pub batches : (noted : List BatchDelay) → HasBatched old.batches noted
      → HasBatched new.batches (noted ++ where_batched batch (λ b c. record { batch = b; delay = delay_in t c }) cells)
  pub delays : (delays : List ℕ) → HasDelays old.delays delays → HasDelays new.delays (delays ++ where_batched batch (λ b c. delay_in t c) cells)

-- the first k outputs have been served, of a switch whose queues were `before`
pub record HaveServed (t : ℕ) (batch : Option ℕ) (discipline : Discipline) (matched : List (Option Fed)) (k batches : ℕ)
    (before now : Queues) (old new : Departed) : Type 0 where
  pub queues : now ≡ all_left before (served_queues discipline before.ports matched k)
  pub ports : now.ports ≡ before.ports
  pub queueing : now.queueing ≡ before.queueing
  pub departed : HaveDeparted t batch (departing before (served_queues discipline before.ports matched k)) old new
  pub sizes : AreDeparted before.ports batches (MAX_PORTS * t + k) new
  pub came : AllCame (t + 1) now
