-- The slots of lawful files are schedules of rows that are kept.
use Rattle.std.proofs.Common.{◌≡◌, ℕ, ◌+◌, ◌*◌, ◌<◌, ◌≤◌, ◌∙◌, List, [], ◌∷◌, length, map, take, drop, All, Any}
use Rattle.std.proofs.Common.{Option, refl, sym, ap, subst, arith}
use Rattle.std.proofs.lemmas.List.Elements.{All-cons, All-head, All-take, All-drop, All-tail}
use Rattle.rotating_pick.specs.declared.kinds.Kind.TheVariants.{Uni, Multi}
use Rattle.rotating_pick.specs.declared.limits.TheConstants.{LEVELS}
use Rattle.slot_match.specs.declared.matching.Fed.{Fed}
use Rattle.slot_match.specs.declared.rows.Row.{Row}
use Rattle.slot_match.specs.Rows.{Names, row_of, HasHead, AreWithin}
use Rattle.slot_match.specs.Matches.{Serves, Completes}
use Rattle.slot_match.specs.Keeping.{KeepsRest, Gives}
use Rattle.slot_match.specs.Parts.{served_of}
use Rattle.pointer_state.proofs.Moves.{AreAtPorts-at_first}
use Rattle.slot_match.proofs.KeepingParts.{KeepsRest-iff_keeps}
use Rattle.pointer_state.specs.Places.{Places, ArePointing, places_at_first}
use Rattle.eslip_rounds.specs.Slots.{Moving}
use Rattle.eslip_rounds.specs.Schedulers.{Scheduler, IsSchedulerBy, IsScheduler}
use Rattle.eslip_rounds.specs.Schedules.{DecidedSlot, IsScheduleBy}
use Rattle.service_bound.specs.Windows.{IsWindowBy, InFirst, AreKept, IsClean, IsWithoutMulticast, places_after}
use Rattle.service_bound.proofs.InWindows.{KeepPointing}
use Rattle.service_bound.proofs.PartsOfSchedules.{part_is_window_by}
use Rattle.service_bound.proofs.HeadsComplete.{PassHeads, completes_by}
use Rattle.journal_check.specs.Files.{FileSlot, JournalFile, rows_of}
use Rattle.journal_check.specs.Texts.{IsFileSlot, IsFile}
use Rattle.journal_check.specs.Lawful.{Before, at_first, decided_in, after_slot, MayFollow, MayFollowAll, decided_from, decided_slots_under, IsLawfulUnder}
use Rattle.journal_check.proofs.Goods.{IsGood, file_within, sound_slot, good_after, good_at_first}

module _ (scheduler : Scheduler) (scheduling : IsScheduler scheduler) (n rounds : ℕ) where
  next_good : (t : ℕ) (before : Before) (slot : FileSlot) (slots : List FileSlot) → IsGood n before → All (IsFileSlot n) (slot ∷ slots)
      → MayFollow scheduler n rounds t before slot → IsGood n (after_slot scheduler n rounds t before slot)
  next_good t before slot slots good each follows = good_after scheduler scheduling n rounds t before slot good (each 0 slot (omega arith)) follows.decided

  pub is_schedule : (Moves : Moving)
      → IsSchedulerBy Moves scheduler → (t : ℕ) (before : Before) (slots : List FileSlot) → IsGood n before → All (IsFileSlot n) slots
      → MayFollowAll scheduler n rounds t before slots
      → IsScheduleBy Moves n rounds t before.places (decided_from scheduler n rounds t before.places slots)
  unfolding after_slot
  is_schedule Moves moving t before [] good each lawful = tt
  is_schedule Moves moving t before (slot ∷ slots) good each lawful = (
    moving n rounds t (rows_of slot) before.places (file_within n slot (each 0 slot (omega arith))) good.at_ports good.ports,
    is_schedule Moves moving (t + 1) (after_slot scheduler n rounds t before slot) slots (next_good t before slot slots good each lawful.0)
        (All-tail (IsFileSlot n) slot slots each) lawful.1,
  )

  pub are_kept : (t : ℕ) (before : Before) (slots : List FileSlot) → IsGood n before → All (IsFileSlot n) slots → MayFollowAll scheduler n rounds t before slots
      → AreKept n (decided_from scheduler n rounds t before.places slots)
  unfolding after_slot
  are_kept t before [] good each lawful = tt
  are_kept t before (slot ∷ []) good each lawful = (tt, tt)
  are_kept t before (slot ∷ next ∷ slots) good each lawful =
      let file = each 0 slot (omega arith) in
      let sound = sound_slot scheduler scheduling n rounds t before slot good file in
      let decided = (decided_in scheduler n rounds t before slot).matched in
      let keeps = lawful.1.0.keeps in (
        λ i below.
            (KeepsRest-iff_keeps n decided sound.matches i (row_of (rows_of slot) i) (row_of (rows_of next) i)).0
            (subst (λ (m : List (Option Fed)). KeepsRest (Gives (served_of m i)) (row_of (rows_of slot) i) (row_of (rows_of next) i)) lawful.0.decided
            (keeps i below)),
        are_kept (t + 1) (after_slot scheduler n rounds t before slot) (next ∷ slots) (next_good t before slot (next ∷ slots) good each lawful.0)
            (All-tail (IsFileSlot n) slot (next ∷ slots) each) lawful.1,
      )

module _ (scheduler : Scheduler) (n rounds : ℕ) where
  pub are_within : (t : ℕ) (places : Places) (slots : List FileSlot) → All (IsFileSlot n) slots
      → All (λ (slot : DecidedSlot). AreWithin n slot.rows) (decided_from scheduler n rounds t places slots)
  are_within t places [] each = λ k d below. absurd (omega arith)
  are_within t places (slot ∷ slots) each =
      All-cons (λ (slot : DecidedSlot). AreWithin n slot.rows) _ _ (file_within n slot (each 0 slot (omega arith)))
      (are_within (t + 1) _ slots (All-tail (IsFileSlot n) slot slots each))

  pub same_matches : (t : ℕ) (before : Before) (slots : List FileSlot) → MayFollowAll scheduler n rounds t before slots
      → map (λ (slot : DecidedSlot). slot.decision.matched) (decided_from scheduler n rounds t before.places slots)
      ≡ map (λ (slot : FileSlot). slot.matched) slots
  unfolding after_slot
  same_matches t before [] lawful = refl
  same_matches t before (slot ∷ slots) lawful =
      let rest = same_matches (t + 1) (after_slot scheduler n rounds t before slot) slots lawful.1 in
      ap (λ (m : List (Option Fed)). m
      ∷ map (λ (slot : DecidedSlot). slot.decision.matched)
      (decided_from scheduler n rounds (t + 1) (decided_in scheduler n rounds t before slot).places slots))
      (sym lawful.0.decided)
      ∙ ap (λ (ms : List (List (Option Fed))). slot.matched ∷ ms) rest

pointing_at_first : (n level : ℕ) → 0 < n → n ≤ 64 → level < LEVELS → ArePointing n level (places_at_first n)
unfolding places_at_first
pointing_at_first n level some few level_in = (AreAtPorts-at_first n some few).pointing level level_in

module _ (scheduler : Scheduler) (file : JournalFile) where
  pub file_all_within : IsFile file → All (λ (slot : DecidedSlot). AreWithin file.ports slot.rows) (decided_slots_under scheduler file)
  unfolding decided_slots_under
  file_all_within good = are_within scheduler file.ports file.rounds 0 (places_at_first file.ports) file.slots good.slots

  pub file_matches : IsLawfulUnder scheduler file
      → map (λ (slot : DecidedSlot). slot.decision.matched) (decided_slots_under scheduler file) ≡ map (λ (slot : FileSlot). slot.matched) file.slots
  unfolding at_first decided_slots_under IsLawfulUnder
  file_matches lawful = same_matches scheduler file.ports file.rounds 0 (at_first file.ports) file.slots lawful

module _ (scheduler : Scheduler) (scheduling : IsScheduler scheduler) (file : JournalFile) (good : IsFile file) (lawful : IsLawfulUnder scheduler file) where
  pub file_schedule : (Moves : Moving)
      → IsSchedulerBy Moves scheduler → IsScheduleBy Moves file.ports file.rounds 0 (places_at_first file.ports) (decided_slots_under scheduler file)
  unfolding IsLawfulUnder decided_slots_under at_first
  file_schedule Moves moving =
      is_schedule scheduler scheduling file.ports file.rounds Moves moving 0 (at_first file.ports) file.slots
      (good_at_first file.ports good.ports_some good.ports_few) good.slots lawful

  pub file_kept : AreKept file.ports (decided_slots_under scheduler file)
  unfolding IsLawfulUnder decided_slots_under at_first
  file_kept =
      are_kept scheduler scheduling file.ports file.rounds 0 (at_first file.ports) file.slots (good_at_first file.ports good.ports_some good.ports_few)
      good.slots lawful

-- a file that is lawful under a scheduler, by which pointers move so and keep at ports
pub record IsLawfulBy (Moves : Moving) (scheduler : Scheduler) (file : JournalFile) : Type 0 where
  pub scheduling : IsScheduler scheduler
  pub moving : IsSchedulerBy Moves scheduler
  pub keep : (level : ℕ) → KeepPointing Moves file.ports level
  pub good : IsFile file
  pub lawful : IsLawfulUnder scheduler file

-- so many of its slots, from one of them on
abbrev pub slots_from : Scheduler → JournalFile → ℕ → ℕ → List DecidedSlot
slots_from scheduler file first count = take count (drop first (decided_slots_under scheduler file))

-- each unicast queue that is posted in the first of so many clean slots without multicast of its level is served in one of them
abbrev pub ServesUnicastWithin : ℕ → Scheduler → JournalFile → Type 0
ServesUnicastWithin most scheduler file = (level first count i j : ℕ) → i < file.ports
    → All (λ slot. IsClean file.ports level slot.rows) (slots_from scheduler file first count)
    → All (λ slot. IsWithoutMulticast file.ports level slot.rows) (slots_from scheduler file first count)
    → InFirst (λ rows. Names (row_of rows i) level Uni j) (slots_from scheduler file first count)
    → most ≤ length (slots_from scheduler file first count)
    → Any (λ slot. Serves slot.decision.matched i j level Uni) (slots_from scheduler file first count)

-- it is so in each window of a switch whose pointers move so
abbrev pub ServeInWindows : ℕ → Moving → ℕ → ℕ → Type 0
ServeInWindows most Moves n rounds = (t level i j : ℕ) (places : Places) (window : List DecidedSlot) → i < n → IsWindowBy Moves n rounds t level places window
    → All (λ slot. IsWithoutMulticast n level slot.rows) window → InFirst (λ rows. Names (row_of rows i) level Uni j) window
    → most ≤ length window → Any (λ slot. Serves slot.decision.matched i j level Uni) window

-- each multicast head that is posted in the first of so many clean slots completes in one of them
abbrev pub CompletesMulticast : Scheduler → JournalFile → Type 0
CompletesMulticast scheduler file = (level first count i : ℕ) → i < file.ports
    → All (λ slot. IsClean file.ports level slot.rows) (slots_from scheduler file first count)
    → InFirst (λ rows. HasHead rows level i) (slots_from scheduler file first count)
    → 2 * file.ports ≤ length (slots_from scheduler file first count)
    → Any (λ slot. HasHead slot.rows level i × Completes slot.rows slot.decision.matched level i) (slots_from scheduler file first count)

module _ (Moves : Moving) (scheduler : Scheduler) (file : JournalFile) (by : IsLawfulBy Moves scheduler file) where
  abbrev all_slots : List DecidedSlot
  all_slots = decided_slots_under scheduler file

  abbrev all_within : All (λ (slot : DecidedSlot). AreWithin file.ports slot.rows) all_slots
  all_within = file_all_within scheduler file by.good

  -- what the rows of the first of some slots have is of a level of the switch
  level_in : (P : List Row → Type 0) (level first count : ℕ) → ((rows : List Row) → AreWithin file.ports rows → P rows → level < LEVELS)
      → 0 < length (slots_from scheduler file first count) → InFirst P (slots_from scheduler file first count) → level < LEVELS
  level_in P level first count is some here =
      of_first (slots_from scheduler file first count) some here
      (All-take (λ (slot : DecidedSlot). AreWithin file.ports slot.rows) count (drop first all_slots)
      (All-drop (λ (slot : DecidedSlot). AreWithin file.ports slot.rows) first all_slots all_within)) where
        of_first : (part : List DecidedSlot) → 0 < length part → InFirst P part → All (λ (slot : DecidedSlot). AreWithin file.ports slot.rows) part
            → level < LEVELS
        of_first [] some here within = absurd (omega arith)
        of_first (slot ∷ part) some here within =
            is slot.rows (All-head (λ (slot : DecidedSlot). AreWithin file.ports slot.rows) slot part within) here

  window : (level first count : ℕ) → level < LEVELS → All (λ slot. IsClean file.ports level slot.rows) (slots_from scheduler file first count)
      → IsWindowBy Moves file.ports file.rounds (0 + first) level (places_after (places_at_first file.ports) (take first all_slots))
      (slots_from scheduler file first count)
  window level first count level_in clean =
      part_is_window_by Moves file.ports file.rounds 0 level first count (places_at_first file.ports) all_slots (by.keep level)
      (pointing_at_first file.ports level by.good.ports_some by.good.ports_few level_in)
      (file_schedule scheduler by.scheduling file by.good by.lawful Moves by.moving) all_within (file_kept scheduler by.scheduling file by.good by.lawful) clean

  -- what holds in each window holds of the slots of a file
  pub unicast_within : (most : ℕ) → 0 < most → ServeInWindows most Moves file.ports file.rounds → ServesUnicastWithin most scheduler file
  unicast_within most some serves level first count i j below clean alone named long =
      let of_level = level_in (λ rows. Names (row_of rows i) level Uni j) level first count (λ rows within names. within.levels i below level j Uni names)
      (omega (arith, long, some)) named in
      serves (0 + first) level i j _ (slots_from scheduler file first count) below (window level first count of_level clean) alone named long

  pub multicast_within : ((level : ℕ) → PassHeads Moves file.ports level) → CompletesMulticast scheduler file
  multicast_within pass level first count i below clean head long =
      let some = by.good.ports_some in
      let of_level = level_in (λ rows. HasHead rows level i) level first count
      (λ rows within has. within.levels i below level has.0 Multi has.1) (omega (arith, some, long)) head in
      completes_by Moves file.ports file.rounds (0 + first) level i _ (slots_from scheduler file first count)
      (by.keep level) (pass level) by.good.rounds_some below (window level first count of_level clean) head long
