-- Slots out of the middle of a schedule whose rows are kept are such a schedule, and a window where they are clean.
use Rattle.std.proofs.Common.{◌≡◌, ℕ, zero, suc, ◌+◌, ◌<◌, List, [], ◌∷◌, take, drop, All, subst, arith}
use Rattle.std.proofs.lemmas.List.Elements.{All-head, All-tail, All-take}
use Rattle.slot_match.specs.declared.rows.Row.{Row}
use Rattle.slot_match.specs.Rows.{row_of, AreWithin}
use Rattle.slot_match.specs.Keeping.{Keeps}
use Rattle.pointer_state.specs.Places.{Places, ArePointing}
use Rattle.eslip_rounds.specs.Slots.{Moving, AreMoved}
use Rattle.eslip_rounds.specs.Schedules.{DecidedSlot, IsScheduleBy, IsSchedule}
use Rattle.service_bound.specs.Windows.{IsClean, AreKept, InFirst, IsKeptScheduleBy, IsWindowBy, IsWindow, places_after}
use Rattle.service_bound.proofs.InWindows.{KeepPointing, AreMoved-keep, pointing_by}

module _ (Moves : Moving) (n rounds level : ℕ) (keep : KeepPointing Moves n level) where
  -- without its first slots
  IsKeptSchedule-drop : (first : ℕ) (slots : List DecidedSlot) (t : ℕ) (places : Places) → IsKeptScheduleBy Moves n rounds t level places slots
      → IsKeptScheduleBy Moves n rounds (t + first) level (places_after places (take first slots)) (drop first slots)
  IsKeptSchedule-drop zero slots t places s = let same : t ≡ t + 0 = omega arith in subst (λ u. IsKeptScheduleBy Moves n rounds u level places slots) same s
  IsKeptSchedule-drop (suc first) [] t places s = record { pointing = s.pointing; schedule = tt; within = s.within; kept = tt }
  IsKeptSchedule-drop (suc first) (slot ∷ slots) t places s =
      let next : IsKeptScheduleBy Moves n rounds (t + 1) level slot.decision.places slots = record {
        pointing = pointing_by Moves n rounds t level places slot keep s.pointing (All-head (λ x. AreWithin n x.rows) slot slots s.within) s.schedule.0;
        schedule = s.schedule.1;
        within = All-tail (λ x. AreWithin n x.rows) slot slots s.within;
        kept = s.kept.1;
      } in
      let same : t + 1 + first ≡ t + suc first = omega arith in
      subst (λ u. IsKeptScheduleBy Moves n rounds u level (places_after slot.decision.places (take first slots)) (drop first slots)) same
      (IsKeptSchedule-drop first slots (t + 1) slot.decision.places next)

  -- without its last slots
  IsSchedule-take : (count : ℕ) (slots : List DecidedSlot) (t : ℕ) (places : Places) → IsScheduleBy Moves n rounds t places slots
      → IsScheduleBy Moves n rounds t places (take count slots)
  IsSchedule-take zero slots t places s = tt
  IsSchedule-take (suc count) [] t places s = tt
  IsSchedule-take (suc count) (slot ∷ slots) t places s = (s.0, IsSchedule-take count slots (t + 1) slot.decision.places s.1)

  InFirst-take : (P : List Row → Type 0) (count : ℕ) (slots : List DecidedSlot) → InFirst P slots → InFirst P (take count slots)
  InFirst-take P zero slots there = tt
  InFirst-take P (suc count) [] there = tt
  InFirst-take P (suc count) (slot ∷ slots) there = there

  AreKept-take : (count : ℕ) (slots : List DecidedSlot) → AreKept n slots → AreKept n (take count slots)
  AreKept-take zero slots kept = tt
  AreKept-take (suc count) [] kept = tt
  AreKept-take (suc count) (slot ∷ slots) kept = (
    InFirst-take (λ rows. (i : ℕ) → i < n → Keeps slot.decision.matched i (row_of slot.rows i) (row_of rows i)) count slots kept.0,
    AreKept-take count slots kept.1,
  )

  -- some slots from slot `first` on
  IsKeptSchedule-part : (t first count : ℕ) (places : Places) (slots : List DecidedSlot) → IsKeptScheduleBy Moves n rounds t level places slots
      → IsKeptScheduleBy Moves n rounds (t + first) level (places_after places (take first slots)) (take count (drop first slots))
  IsKeptSchedule-part t first count places slots s =
      let later = IsKeptSchedule-drop first slots t places s in
      record {
        pointing = later.pointing;
        schedule = IsSchedule-take count (drop first slots) (t + first) (places_after places (take first slots)) later.schedule;
        within = All-take (λ slot. AreWithin n slot.rows) count (drop first slots) later.within;
        kept = AreKept-take count (drop first slots) later.kept;
      }

  -- which are a window where they are clean
  IsWindow-part : (t first count : ℕ) (places : Places) (slots : List DecidedSlot) → IsKeptScheduleBy Moves n rounds t level places slots
      → All (λ slot. IsClean n level slot.rows) (take count (drop first slots))
      → IsWindowBy Moves n rounds (t + first) level (places_after places (take first slots)) (take count (drop first slots))
  IsWindow-part t first count places slots s clean =
      let part = IsKeptSchedule-part t first count places slots s in
      record { pointing = part.pointing; schedule = part.schedule; within = part.within; kept = part.kept; clean = clean }

pub part_is_kept_by : (Moves : Moving) (n rounds t level first count : ℕ)
    (places : Places) (slots : List DecidedSlot) → KeepPointing Moves n level → IsKeptScheduleBy Moves n rounds t level places slots
    → IsKeptScheduleBy Moves n rounds (t + first) level (places_after places (take first slots)) (take count (drop first slots))
part_is_kept_by Moves n rounds t level first count places slots keep = IsKeptSchedule-part Moves n rounds level keep t first count places slots

pub part_is_window_by : (Moves : Moving) (n rounds t level first count : ℕ)
    (places : Places) (slots : List DecidedSlot) → KeepPointing Moves n level → ArePointing n level places → IsScheduleBy Moves n rounds t places slots
    → All (λ slot. AreWithin n slot.rows) slots → AreKept n slots → All (λ slot. IsClean n level slot.rows) (take count (drop first slots))
    → IsWindowBy Moves n rounds (t + first) level (places_after places (take first slots)) (take count (drop first slots))
part_is_window_by Moves n rounds t level first count places slots keep pointing schedule within kept clean =
    IsWindow-part Moves n rounds level keep t first count places slots (record { pointing = pointing; schedule = schedule; within = within; kept = kept }) clean

-- where pointers move as those of iSLIP do
pub part_is_window : (n rounds t level first count : ℕ) (places : Places) (slots : List DecidedSlot) → 0 < n → ArePointing n level places
    → IsSchedule n rounds t places slots → All (λ slot. AreWithin n slot.rows) slots → AreKept n slots
    → All (λ slot. IsClean n level slot.rows) (take count (drop first slots))
    → IsWindow n rounds (t + first) level (places_after places (take first slots)) (take count (drop first slots))
part_is_window n rounds t level first count places slots ports = part_is_window_by AreMoved n rounds t level first count places slots (AreMoved-keep n level)
