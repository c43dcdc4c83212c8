-- Counts: how many cells wait in each queue, slot by slot, where slots of a switch are fed at line rate.
use Rattle.std.specs.Prelude.{◌≡◌, ℕ, ◌+◌, ◌-◌, ◌<◌, ◌≤◌, ◌↔◌, List, [], ◌∷◌}
use Rattle.rotating_pick.specs.declared.kinds.Kind.{Kind}
use Rattle.rotating_pick.specs.declared.kinds.Kind.TheVariants.{Uni}
use Rattle.slot_match.specs.Rows.{Names, row_of, AreWithin}
use Rattle.slot_match.specs.Matches.{fed_of}
use Rattle.eslip_rounds.specs.Schedules.{DecidedSlot}
use Rattle.scheduler_laws.specs.FedSlots.{taken_by}

-- how many cells wait at input i for output j
abbrev pub Counts : Type 0
Counts = (i j : ℕ) → ℕ

-- how many are left after the slot, where so many wait in it
abbrev pub left_after : DecidedSlot → Counts → Counts
left_after slot waits i j = waits i j - taken_by i (fed_of slot.decision.matched j)

-- So many cells may wait in a slot of a switch of n ports before which so many were left.
pub record IsCounted (n : ℕ) (left : Counts) (slot : DecidedSlot) (waits : Counts) : Type 0 where
  pub within : AreWithin n slot.rows
  -- each input asks for exactly the outputs for which cells wait: as unicast of the best level
  pub asks : (i j level : ℕ) (kind : Kind) → i < n → j < n → Names (row_of slot.rows i) level kind j ↔ ((level ≡ 0) × (kind ≡ Uni) × (0 < waits i j))
  -- what leaves a queue waited in it
  pub taken : (i j : ℕ) → taken_by i (fed_of slot.decision.matched j) ≤ waits i j
  -- all that were left wait, and at most one more at each input
  pub stay : (i j : ℕ) → left i j ≤ waits i j
  pub one : (i j : ℕ) → waits i j ≤ left i j + 1
  pub apart : (i j k : ℕ) → left i j < waits i j → left i k < waits i k → j ≡ k

-- and so in each of these slots
abbrev pub AreCounted : ℕ → Counts → List DecidedSlot → List Counts → Type 0
AreCounted n left [] counts = Unit {0}
AreCounted n left (slot ∷ slots) [] = ⊥
AreCounted n left (slot ∷ slots) (waits ∷ counts) = IsCounted n left slot waits × AreCounted n (left_after slot waits) slots counts
