-- The slots of a history, as schedules have them.
use Rattle.std.specs.Prelude.{ℕ, List, map}
use Rattle.std.specs.List.{range_with_len}
use Rattle.eslip_rounds.specs.Schedules.{DecidedSlot}
use Rattle.eslip_rounds.specs.Schedulers.{Scheduler}
use Rattle.eslip_rounds.specs.Decisions.{decision_of}
use Rattle.crossbar.specs.declared.cards.Post.{Post as CardPost}
use Rattle.slot_histories.specs.declared.events.Event.{Event}
use Rattle.slot_histories.specs.Events.{Setup, posted, decides}
use Rattle.slot_histories.specs.Slots.{slot_rows, decision_under}

-- slot t under the scheduler, where each card posts these
abbrev pub decided_under : Scheduler → Setup → (ℕ → ℕ → CardPost) → ℕ → DecidedSlot
decided_under scheduler s posts t = record { rows = slot_rows s.ports posts t; decision = decision_under scheduler s posts t }

-- and under that of the board
abbrev pub decided_slot : Setup → (ℕ → ℕ → CardPost) → ℕ → DecidedSlot
decided_slot = decided_under decision_of

-- the slots that the events decided
abbrev pub decided_slots : Setup → List Event → List DecidedSlot
decided_slots s events = map (decided_slot s (posted events)) (range_with_len 0 (decides events))
