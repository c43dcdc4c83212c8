-- A window's first slot, and the window of the slots after it.
use Rattle.std.proofs.Common.{◌≡◌, ℕ, ◌+◌, ◌<◌, List, [], ◌∷◌, Option, length, arith}
use Rattle.std.proofs.lemmas.List.Elements.{All-head, All-tail}
use Rattle.rotating_pick.specs.declared.kinds.Kind.TheVariants.{Uni}
use Rattle.rotating_pick.specs.declared.limits.TheConstants.{LEVELS}
use Rattle.slot_match.specs.declared.rows.Row.{Row}
use Rattle.slot_match.specs.declared.matching.Fed.{Fed}
use Rattle.slot_match.specs.Rows.{Names, row_of, AreWithin}
use Rattle.slot_match.specs.Matches.{Serves}
use Rattle.pointer_state.specs.Places.{Places, ArePointing}
use Rattle.eslip_rounds.specs.Slots.{Moving, AreMoved, IsSlotBy}
use Rattle.eslip_rounds.specs.Schedules.{DecidedSlot}
use Rattle.service_bound.specs.Windows.{IsClean, InFirst, IsKeptScheduleBy, IsWindowBy, IsWindow}
use Rattle.service_bound.proofs.LaterRounds.{first_of, length-first_of, BeginsWith-slot, Turn}
use Rattle.service_bound.proofs.PointersAfter.{ArePointing-after}

pub InFirst-along : (P Q : List Row → Type 0) → ((rows : List Row) → P rows → Q rows) → (slots : List DecidedSlot) → InFirst P slots → InFirst Q slots
InFirst-along P Q f [] there = there
InFirst-along P Q f (slot ∷ slots) there = f slot.rows there

-- each of these rows names output j where it was named and not served
abbrev pub AskOn : ℕ → ℕ → List (Option Fed) → List Row → List Row → ℕ → Type 0
AskOn n level matched rows later j = (x : ℕ) → x < n → Names (row_of rows x) level Uni j → (Serves matched x j level Uni → ⊥)
    → Names (row_of later x) level Uni j

-- where pointers move so, those of the level are at ports again after a slot
abbrev pub KeepPointing : Moving → ℕ → ℕ → Type 0
KeepPointing Moves n level =
    (t : ℕ) (rows : List Row) (first matched : List (Option Fed)) (before after : Places) → length first ≡ n → AreWithin n rows → ArePointing n level before
    → Moves n t rows first matched before after → ArePointing n level after

-- those of iSLIP do
pub AreMoved-keep : (n level : ℕ) → KeepPointing AreMoved n level
AreMoved-keep n level t rows first matched before after size within pointing moved =
    ArePointing-after n level rows before within pointing t (let here = pointing.shared in omega arith) first matched size after moved

module _ (Moves : Moving) where
  -- one slot of a schedule of rows that are kept
  pub record IsKeptSlotBy (n rounds t level : ℕ) (places : Places) (slot : DecidedSlot) : Type 0 where
    pub pointing : ArePointing n level places
    pub decided : IsSlotBy Moves n rounds t slot.rows places slot.decision
    pub within : AreWithin n slot.rows

  -- one slot of a window
  pub record IsWindowSlotBy (n rounds t level : ℕ) (places : Places) (slot : DecidedSlot) : Type 0 where
    pub pointing : ArePointing n level places
    pub decided : IsSlotBy Moves n rounds t slot.rows places slot.decision
    pub within : AreWithin n slot.rows
    pub clean : IsClean n level slot.rows

  module _ (n rounds t level : ℕ) (places : Places) (slot : DecidedSlot) where
    -- after it the pointers of the level are at ports
    pub pointing_by : KeepPointing Moves n level → ArePointing n level places → AreWithin n slot.rows
        → IsSlotBy Moves n rounds t slot.rows places slot.decision → ArePointing n level slot.decision.places
    pointing_by keep pointing within decided =
        keep t slot.rows (first_of n decided.steps) slot.decision.matched places slot.decision.places
        (length-first_of n t slot.rows places decided.steps decided.chain) within pointing decided.moved

    module _ (slots : List DecidedSlot) (schedule : IsKeptScheduleBy Moves n rounds t level places (slot ∷ slots)) where
      pub first_kept_by : IsKeptSlotBy n rounds t level places slot
      first_kept_by =
          record {
            pointing = schedule.pointing;
            decided = schedule.schedule.0;
            within = All-head (λ s. AreWithin n s.rows) slot slots schedule.within;
          }

      pub later_kept_by : KeepPointing Moves n level → IsKeptScheduleBy Moves n rounds (t + 1) level slot.decision.places slots
      later_kept_by keep =
          let now = first_kept_by in
          record {
            pointing = pointing_by keep now.pointing now.within now.decided;
            schedule = schedule.schedule.1;
            within = All-tail (λ s. AreWithin n s.rows) slot slots schedule.within;
            kept = schedule.kept.1;
          }

    module _ (slots : List DecidedSlot) (window : IsWindowBy Moves n rounds t level places (slot ∷ slots)) where
      pub first_slot_by : IsWindowSlotBy n rounds t level places slot
      first_slot_by =
          record {
            pointing = window.pointing;
            decided = window.schedule.0;
            within = All-head (λ s. AreWithin n s.rows) slot slots window.within;
            clean = All-head (λ s. IsClean n level s.rows) slot slots window.clean;
          }

      pub later_slots_by : KeepPointing Moves n level → IsWindowBy Moves n rounds (t + 1) level slot.decision.places slots
      later_slots_by keep =
          let now = first_slot_by in
          record {
            pointing = pointing_by keep now.pointing now.within now.decided;
            schedule = window.schedule.1;
            within = All-tail (λ s. AreWithin n s.rows) slot slots window.within;
            kept = window.kept.1;
            clean = All-tail (λ s. IsClean n level s.rows) slot slots window.clean;
          }

-- every slot of one round or more has its turn, where pointers move as those of iSLIP do
abbrev pub turn_of : (n rounds t level : ℕ) (places : Places) (slot : DecidedSlot) → 0 < rounds → level < LEVELS
    → IsKeptSlotBy AreMoved n rounds t level places slot → Turn n level
turn_of n rounds t level places slot some level_in now =
    record {
      t = t;
      rows = slot.rows;
      first = first_of n now.decided.steps;
      matched = slot.decision.matched;
      before = places;
      after = slot.decision.places;
      level_in = level_in;
      begins = BeginsWith-slot n t slot.rows places AreMoved rounds slot.decision some now.decided;
      moved = now.decided.moved;
      pointing = now.pointing;
    }

-- a window is a schedule of rows that are kept
pub IsKept-window : (Moves : Moving) (n rounds t level : ℕ) (places : Places) (slots : List DecidedSlot) → IsWindowBy Moves n rounds t level places slots
    → IsKeptScheduleBy Moves n rounds t level places slots
IsKept-window Moves n rounds t level places slots window =
    record { pointing = window.pointing; schedule = window.schedule; within = window.within; kept = window.kept }

-- the same where pointers move as those of iSLIP do
abbrev pub IsWindowSlot : ℕ → ℕ → ℕ → ℕ → Places → DecidedSlot → Type 0
IsWindowSlot = IsWindowSlotBy AreMoved

module _ (n rounds t level : ℕ) (places : Places) (slot : DecidedSlot) (slots : List DecidedSlot)
    (window : IsWindow n rounds t level places (slot ∷ slots)) where
  pub first_slot : IsWindowSlot n rounds t level places slot
  first_slot = first_slot_by AreMoved n rounds t level places slot slots window

  pub later_slots : 0 < n → IsWindow n rounds (t + 1) level slot.decision.places slots
  later_slots ports = later_slots_by AreMoved n rounds t level places slot slots window (AreMoved-keep n level)
