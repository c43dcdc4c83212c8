-- The slots of a legal history are a schedule of rows that are kept.
use Rattle.std.proofs.Common.{◌≡◌, ℕ, zero, suc, ◌+◌, ◌<◌, ◌≤◌, ◌∙◌, List, length, map, take, drop, slice_index_or, All, sym, ap, subst, arith}
use Rattle.std.specs.List.{range_with_len}
use Rattle.std.proofs.lemmas.List.FromFn.{length-map-range_with_len, get_or-map-range_with_len, take-map-range_with_len}
use Rattle.rotating_pick.specs.declared.limits.TheConstants.{LEVELS, MAX_PORTS}
use Rattle.slot_match.specs.Rows.{AreWithin}
use Rattle.slot_match.specs.Keeping.{Keeps}
use Rattle.pointer_state.specs.Places.{Places, places_at_first, ArePointing}
use Rattle.pointer_state.proofs.Moves.{AreAtPorts-at_first}
use Rattle.eslip_rounds.specs.Slots.{Moving, AreMoved, IsSlotBy}
use Rattle.eslip_rounds.specs.Schedules.{DecidedSlot, IsScheduleBy, IsSchedule}
use Rattle.eslip_rounds.specs.Schedulers.{Scheduler}
use Rattle.eslip_rounds.specs.Decisions.{decision_of}
use Rattle.service_bound.specs.Windows.{IsWindow, AreKept, IsClean, places_after}
use Rattle.service_bound.proofs.PartsOfSchedules.{part_is_window}
use Rattle.crossbar.specs.declared.cards.Post.{Post as CardPost}
use Rattle.slot_histories.specs.declared.events.Event.{Event}
use Rattle.slot_histories.specs.Events.{Setup, posted, decides}
use Rattle.slot_histories.specs.Slots.{slot_rows, places_under, places_at, decision_under}
use Rattle.slot_histories.specs.Legal.{IsLegal}
use Rattle.slot_histories.proofs.PostedRows.{row_of-slot_rows, rows_within}
use Rattle.slot_histories.proofs.SoundDecisions.{decision_at-slot, rows_kept}
use Rattle.slot_board.specs.Schedules.{decided_under, decided_slot, decided_slots}

module _ (scheduler : Scheduler) (s : Setup) (posts : ℕ → ℕ → CardPost) where
  -- the slots from slot t on
  abbrev pub slots_from : ℕ → ℕ → List DecidedSlot
  slots_from t count = map (decided_under scheduler s posts) (range_with_len t count)

  -- a schedule, where each of them is a slot
  pub IsSchedule-from : (Moves : Moving) (t count : ℕ) → ((k : ℕ) → t ≤ k → k < t + count
      → IsSlotBy Moves s.ports s.rounds k (slot_rows s.ports posts k) (places_under scheduler s posts k) (decision_under scheduler s posts k))
      → IsScheduleBy Moves s.ports s.rounds t (places_under scheduler s posts t) (slots_from t count)
  IsSchedule-from Moves t zero each = tt
  IsSchedule-from Moves t (suc count) each =
      let one : suc t ≡ t + 1 = omega arith in
      let next : places_under scheduler s posts (t + 1) ≡ places_under scheduler s posts (suc t) = ap (places_under scheduler s posts) (sym one) in
      let rest = IsSchedule-from Moves (t + 1) count (λ k after below. each k (omega arith) (omega arith)) in
      (each t (omega arith) (omega arith), subst (λ places. IsScheduleBy Moves s.ports s.rounds (t + 1) places (slots_from (t + 1) count)) next rest)

  -- kept, where each keeps the one before
  pub AreKept-from : (t count : ℕ)
      → ((k i : ℕ) → t ≤ k → k + 1 < t + count → i < s.ports → Keeps (decision_under scheduler s posts k).matched i (posts i k).row (posts i (k + 1)).row)
      → AreKept s.ports (slots_from t count)
  AreKept-from t zero each = tt
  AreKept-from t (suc zero) each = (tt, tt)
  AreKept-from t (suc (suc count)) each = (
    (λ i i_in. rw (row_of-slot_rows s.ports posts t i i_in, row_of-slot_rows s.ports posts (t + 1) i i_in) (each t i (omega arith) (omega arith) i_in)),
    AreKept-from (t + 1) (suc count) (λ k i after below i_in. each k i (omega arith) (omega arith) i_in),
  )

-- the pointers after some of the slots are those before the next
pub places_after-from : (s : Setup) (posts : ℕ → ℕ → CardPost) (t count : ℕ)
    → places_after (places_at s posts t) (slots_from decision_of s posts t count) ≡ places_at s posts (t + count)
places_after-from s posts t zero = let none : t ≡ t + 0 = omega arith in ap (places_at s posts) none
places_after-from s posts t (suc count) =
    let one : suc t ≡ t + 1 = omega arith in
    let all : t + 1 + count ≡ t + suc count = omega arith in
    ap (λ k. places_after (places_at s posts k) (slots_from decision_of s posts (t + 1) count)) one
    ∙ (places_after-from s posts (t + 1) count ∙ ap (places_at s posts) all)

module _ (s : Setup) (events : List Event) where
  pub schedule_of_history : 0 < s.ports → s.ports ≤ MAX_PORTS → IsLegal s events
      → IsSchedule s.ports s.rounds 0 (places_at_first s.ports) (decided_slots s events)
  schedule_of_history some size legal =
      IsSchedule-from decision_of s (posted events) AreMoved 0 (decides events) (λ k after below. decision_at-slot s events some size legal k (omega arith))

  pub within_of_history : IsLegal s events → All (λ slot. AreWithin s.ports slot.rows) (decided_slots s events)
  within_of_history legal k d below =
      let long = length-map-range_with_len (decided_slot s (posted events)) 0 (decides events) in
      let here : slice_index_or (decided_slots s events) k d ≡ decided_slot s (posted events) k =
      get_or-map-range_with_len (decided_slot s (posted events)) 0 (decides events) k k d (omega arith) (omega arith) in
      subst (λ (slot : DecidedSlot). AreWithin s.ports slot.rows) (sym here) (rows_within s events k legal (omega arith))

  pub kept_of_history : 0 < s.ports → s.ports ≤ MAX_PORTS → IsLegal s events → AreKept s.ports (decided_slots s events)
  kept_of_history some size legal =
      AreKept-from decision_of s (posted events) 0 (decides events) (λ k i after below i_in. rows_kept s events i k some size legal (omega arith) i_in)

  pub window_of_history : (level first count : ℕ) → 0 < s.ports → s.ports ≤ MAX_PORTS → IsLegal s events → level < LEVELS
      → All (λ slot. IsClean s.ports level slot.rows) (take count (drop first (decided_slots s events))) → first ≤ length (decided_slots s events)
      → IsWindow s.ports s.rounds first level (places_at s (posted events) first) (take count (drop first (decided_slots s events)))
  unfolding places_at_first
  window_of_history level first count some size legal level_in clean within =
      let slots = decided_slots s events in
      let posts = posted events in
      let n = s.ports in
      let start = AreAtPorts-at_first n some size in
      let begin : ArePointing n level (places_at_first n) = start.pointing level level_in in
      let Window : ℕ → Places → Type 0 = λ t places. IsWindow n s.rounds t level places (take count (drop first slots)) in
      let window : Window (0 + first) (places_after (places_at_first n) (take first slots)) =
      part_is_window n s.rounds 0 level first count (places_at_first n) slots some begin (schedule_of_history some size legal) (within_of_history legal)
      (kept_of_history some size legal) clean in
      let long = length-map-range_with_len (decided_slot s posts) 0 (decides events) in
      let front : take first slots ≡ slots_from decision_of s posts 0 first =
      take-map-range_with_len (decided_slot s posts) 0 (decides events) first (omega arith) in
      let none : 0 + first ≡ first = omega arith in
      let places : places_after (places_at_first n) (take first slots) ≡ places_at s posts first = ap (places_after (places_at_first n)) front
      ∙ (places_after-from s posts 0 first ∙ ap (places_at s posts) none) in
      subst (λ t. Window t (places_at s posts first)) none (subst (Window (0 + first)) places window)
