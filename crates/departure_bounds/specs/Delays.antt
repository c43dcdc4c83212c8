-- How long packets take from their arrival to their departure.
use Rattle.std.specs.Prelude.{◌≡◌, ℕ, ◌+◌, ◌≤◌, Some}
use Rattle.eslip_rounds.specs.Schedulers.{Scheduler}
use Rattle.card_core.specs.declared.plan.Planned.{Planned}
use Rattle.card_core.specs.Plans.{OfOutput, queue_of}
use Rattle.switch_plan.specs.GoodPlans.{SwitchPlan}
use Rattle.run_laws.specs.Departures.{departure_under}
use Rattle.run_laws.specs.DeparturePromises.{Leaves}

-- Each packet that leaves by an output has a departure there, the slot in which its last cell crosses, at most so many slots
-- after its arrival slot, in which all its cells come.
abbrev pub DepartWithin : Scheduler → SwitchPlan → ℕ → ℕ → Type 0
DepartWithin scheduler plan slots most = (i j k : ℕ) (packet : Planned) → Leaves scheduler plan slots i j k packet
    → (t : ℕ) × (departure_under scheduler plan slots i j k packet ≡ Some t) × (t ≤ packet.arrival + most)

-- So has each packet of the queue of input i, output j and level l.
abbrev pub QueueDepartsWithin : Scheduler → SwitchPlan → ℕ → ℕ → ℕ → ℕ → ℕ → Type 0
QueueDepartsWithin scheduler plan slots i j l most = (k : ℕ) (packet : Planned) → Leaves scheduler plan slots i j k packet
    → queue_of packet ≡ OfOutput j l
    → (t : ℕ) × (departure_under scheduler plan slots i j k packet ≡ Some t) × (t ≤ packet.arrival + most)
