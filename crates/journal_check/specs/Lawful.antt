-- Lawful files: what a scheduler may have decided, from its first slot to its last.
-- What ends in `under` is of any scheduler; the plain names are of the scheduler of the board.
use Rattle.std.specs.Prelude.{◌≡◌, ℕ, ◌+◌, ◌-◌, ◌<◌, ◌==◌, ◌&&◌, ◌⊎◌, not, Bool, true, false, if◌then◌else◌, List, [], ◌∷◌, replicate, find, Option}
use Rattle.std.specs.Prelude.{None, Some, option_map, slice_index_or}
use Rattle.std.specs.List.{range_with_len, list_any}
use Rattle.std.specs.Option.{option_or}
use Rattle.slot_match.specs.declared.rows.Row.{Row}
use Rattle.slot_match.specs.declared.matching.Fed.{Fed}
use Rattle.slot_match.specs.Rows.{row_of, empty_row, IsEmptyRow}
use Rattle.slot_match.specs.Matches.{unmatched, fed_of}
use Rattle.slot_match.specs.Keeping.{KeepsRest, Gives}
use Rattle.slot_match.specs.Parts.{served_of}
use Rattle.pointer_state.specs.Places.{Places, places_at_first}
use Rattle.eslip_rounds.specs.Slots.{Decision}
use Rattle.eslip_rounds.specs.Schedulers.{Scheduler}
use Rattle.eslip_rounds.specs.Decisions.{decision_of, is_kind}
use Rattle.slot_histories.specs.Tests.{is_empty, keeps_rest}
use Rattle.eslip_rounds.specs.Schedules.{DecidedSlot}
use Rattle.journal_check.specs.declared.verdict.Reason.{Reason}
use Rattle.journal_check.specs.declared.verdict.Reason.TheVariants.{AfterEnd, More, Keeps, Output, NoEnd}
use Rattle.journal_check.specs.declared.verdict.Failure.{Failure}
use Rattle.journal_check.specs.Files.{FileSlot, JournalFile, rows_of, mores_of}

-- what a slot is judged by: the rows and the match of the slot before, whether some post of it said that more
-- is to come, and the pointers that it left
pub record Before : Type 0 where
  pub rows : List Row
  pub matched : List (Option Fed)
  pub going : Bool
  pub places : Places

-- before slot 0 nothing was posted or matched, slots are to come, and all pointers are at port 0
unfoldable pub at_first : ℕ → Before
at_first n = record { rows = replicate n empty_row; matched = unmatched n; going = true; places = places_at_first n }

-- what slot t of a file decides
abbrev pub decided_in : Scheduler → ℕ → ℕ → ℕ → Before → FileSlot → Decision
decided_in scheduler n rounds t before slot = scheduler n rounds t (rows_of slot) before.places

-- the same, after slot t
unfoldable pub after_slot : Scheduler → ℕ → ℕ → ℕ → Before → FileSlot → Before
after_slot scheduler n rounds t before slot = record {
  rows = rows_of slot;
  matched = slot.matched;
  going = list_any (λ more. more) (mores_of slot);
  places = (decided_in scheduler n rounds t before slot).places;
}

-- the first of these numbers with the test, from 0 to n - 1
abbrev pub first_of : ℕ → (ℕ → Bool) → Option ℕ
first_of n test = find test (range_with_len 0 n)

-- whether card i posts a row that names an output, and does not say that more is to come
abbrev pub lacks_more : List Row → List Bool → ℕ → Bool
lacks_more rows more i = not (slice_index_or more i false) && not (is_empty (row_of rows i))

-- whether card i's row does not keep its row of the slot before, of which the match served its part
abbrev pub breaks : ℕ → List (Option Fed) → List Row → List Row → ℕ → Bool
breaks n matched old new i = not (keeps_rest n (served_of matched i) (row_of old i) (row_of new i))

-- whether two outputs are fed alike
abbrev pub is_alike : Option Fed → Option Fed → Bool
is_alike None None = true
is_alike None (Some b) = false
is_alike (Some a) None = false
is_alike (Some a) (Some b) = a.input == b.input && (a.level == b.level && is_kind a.kind b.kind)

-- whether output j is not fed as the scheduler decides
abbrev pub differs : List (Option Fed) → List (Option Fed) → ℕ → Bool
differs matched decided j = not (is_alike (fed_of matched j) (fed_of decided j))

-- the first of these reasons that there is
abbrev pub first_reason : List (Option Reason) → Option Reason
first_reason [] = None
first_reason (reason ∷ reasons) = option_or reason (first_reason reasons)

-- Why the posts of a slot may not follow the slot before: no more was to come, a post lacks `more`, or a row does
-- not keep the one before. Of several reasons the first of this list counts, and of several cards the least.
unfoldable pub post_failure : ℕ → Before → List Row → List Bool → Option Reason
post_failure n before rows more = first_reason (
    (if before.going then None else Some AfterEnd)
    ∷ option_map More (first_of n (lacks_more rows more))
    ∷ option_map Keeps (first_of n (breaks n before.matched before.rows rows))
    ∷ [])

-- the least output that is not fed as is decided
unfoldable pub output_failure : ℕ → List (Option Fed) → List (Option Fed) → Option Reason
output_failure n matched decided = option_map Output (first_of n (differs matched decided))

-- why slot t fails, if it does: for its posts, or else for an output
unfoldable pub failure_in : Scheduler → ℕ → ℕ → ℕ → Before → FileSlot → Option Reason
failure_in scheduler n rounds t before slot =
    option_or (post_failure n before (rows_of slot) (mores_of slot)) (output_failure n slot.matched (decided_in scheduler n rounds t before slot).matched)

-- the failure of slot t, or else that of the later slots
abbrev pub failure_or : ℕ → Option Reason → Option Failure → Option Failure
failure_or t None later = later
failure_or t (Some reason) later = Some (record { slot = t; reason = reason })

-- The first failure of the slots from slot t on. After the last slot, it is that more was to come.
abbrev pub failure_from : Scheduler → ℕ → ℕ → ℕ → Before → List FileSlot → Option Failure
failure_from scheduler n rounds t before [] = if before.going then Some (record { slot = t - 1; reason = NoEnd }) else None
failure_from scheduler n rounds t before (slot ∷ slots) =
    failure_or t (failure_in scheduler n rounds t before slot)
    (failure_from scheduler n rounds (t + 1) (after_slot scheduler n rounds t before slot) slots)

-- the first failure of a file
unfoldable pub first_failure_under : Scheduler → JournalFile → Option Failure
first_failure_under scheduler file = failure_from scheduler file.ports file.rounds 0 (at_first file.ports) file.slots

-- what the slots of a file decide, from slot t on
abbrev pub decided_from : Scheduler → ℕ → ℕ → ℕ → Places → List FileSlot → List DecidedSlot
decided_from scheduler n rounds t places [] = []
decided_from scheduler n rounds t places (slot ∷ slots) =
    record { rows = rows_of slot; decision = scheduler n rounds t (rows_of slot) places }
    ∷ decided_from scheduler n rounds (t + 1) (scheduler n rounds t (rows_of slot) places).places slots

-- what the slots of a file decide, from their rows alone
unfoldable pub decided_slots_under : Scheduler → JournalFile → List DecidedSlot
decided_slots_under scheduler file = decided_from scheduler file.ports file.rounds 0 (places_at_first file.ports) file.slots

abbrev pub decided_slots : JournalFile → List DecidedSlot
decided_slots = decided_slots_under decision_of

-- The slot may follow what is before it: more was to come, each post that names an output has `more`, each card's
-- row keeps its row of the slot before, of which its part of the match was served, and the match is what the
-- scheduler decides.
pub record MayFollow (scheduler : Scheduler) (n rounds t : ℕ) (before : Before) (slot : FileSlot) : Type 0 where
  pub goes_on : before.going ≡ true
  pub more : (i : ℕ) → i < n → IsEmptyRow (row_of (rows_of slot) i) ⊎ (slice_index_or (mores_of slot) i false ≡ true)
  pub keeps : (i : ℕ) → i < n → KeepsRest (Gives (served_of before.matched i)) (row_of before.rows i) (row_of (rows_of slot) i)
  pub decided : slot.matched ≡ (decided_in scheduler n rounds t before slot).matched

-- each slot from slot t on may follow what is before it, and after the last one no more is to come
abbrev pub MayFollowAll : Scheduler → ℕ → ℕ → ℕ → Before → List FileSlot → Type 0
MayFollowAll scheduler n rounds t before [] = before.going ≡ false
MayFollowAll scheduler n rounds t before (slot ∷ slots) =
    MayFollow scheduler n rounds t before slot × MayFollowAll scheduler n rounds (t + 1) (after_slot scheduler n rounds t before slot) slots

-- a lawful file: all of its slots may follow, one after another
unfoldable pub IsLawfulUnder : Scheduler → JournalFile → Type 0
IsLawfulUnder scheduler file = MayFollowAll scheduler file.ports file.rounds 0 (at_first file.ports) file.slots

abbrev pub IsLawful : JournalFile → Type 0
IsLawful = IsLawfulUnder decision_of
