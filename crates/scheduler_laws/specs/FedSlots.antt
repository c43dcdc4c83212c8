-- FedSlots: cells that come to the queues of a switch slot by slot, and the slots of a switch that posts what waits. All
-- cells are unicast of one level, and queues have room for all that come.
use Rattle.std.specs.Prelude.{◌≡◌, ℕ, ◌+◌, ◌-◌, ◌<◌, ◌≤◌, ◌↔◌, nat_eq, if◌then◌else◌, List, Option, None, Some, All, sum_by, take, slice_get}
use Rattle.std.specs.List.{range_with_len}
use Rattle.rotating_pick.specs.declared.kinds.Kind.{Kind}
use Rattle.rotating_pick.specs.declared.kinds.Kind.TheVariants.{Uni}
use Rattle.slot_match.specs.declared.matching.Fed.{Fed}
use Rattle.slot_match.specs.Rows.{Names, row_of, AreWithin}
use Rattle.slot_match.specs.Matches.{fed_of}
use Rattle.eslip_rounds.specs.Schedules.{DecidedSlot}

-- how many cells come at input i for output j in slot t
abbrev pub Traffic : Type 0
Traffic = (i j t : ℕ) → ℕ

-- how many of them come in the first t slots
abbrev pub came : Traffic → ℕ → ℕ → ℕ → ℕ
came traffic i j t = sum_by (traffic i j) (range_with_len 0 t)

-- at most one cell comes to each of the n inputs in a slot
abbrev pub IsAtLineRate : ℕ → Traffic → Type 0
IsAtLineRate n traffic = (i t : ℕ) → i < n → sum_by (λ j. traffic i j t) (range_with_len 0 n) ≤ 1

-- how many cells of input i go through an output that is fed so: one or none
abbrev pub taken_by : ℕ → Option Fed → ℕ
taken_by i None = 0
taken_by i (Some fed) = if nat_eq fed.input i then 1 else 0

-- how many cells leave the queue of input i and output j in the first t of these slots
abbrev pub gone : List DecidedSlot → ℕ → ℕ → ℕ → ℕ
gone slots i j t = sum_by (λ slot. taken_by i (fed_of slot.decision.matched j)) (take t slots)

-- how many wait in it when slot t is decided, those that come in slot t among them
abbrev pub waiting : Traffic → List DecidedSlot → ℕ → ℕ → ℕ → ℕ
waiting traffic slots i j t = came traffic i j (t + 1) - gone slots i j t

-- In these slots of a switch of n ports, of which the first is slot 0, each input asks for exactly the outputs for which
-- cells of this traffic wait: as unicast of the best level.
pub record AreFed (n : ℕ) (traffic : Traffic) (slots : List DecidedSlot) : Type 0 where
  pub within : All (λ slot. AreWithin n slot.rows) slots
  pub asks : (t i j level : ℕ) (kind : Kind) (slot : DecidedSlot) → slice_get slots t ≡ Some slot → i < n → j < n
      → Names (row_of slot.rows i) level kind j ↔ ((level ≡ 0) × (kind ≡ Uni) × (0 < waiting traffic slots i j t))
