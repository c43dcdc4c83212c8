-- Queues of inputs to which nothing happens: they wait in a slot exactly where they waited in the slot before.
use Rattle.std.proofs.Common.{◌≡◌, ◌∙◌, ℕ, ◌+◌, ◌-◌, ◌<◌, ◌≤◌, ◌&&◌, not, Bool, true, false, List, [], ◌∷◌, ◌++◌, map, length, Option, Some}
use Rattle.std.proofs.Common.{refl, sym, ap, subst, arith}
use Rattle.std.specs.Prelude.{slice_get, slice_index}
use Rattle.std.specs.Int.{bit_at}
use Rattle.std.specs.List.{range_with_len}
use Rattle.std.specs.Option.{option_map}
use Rattle.std.proofs.lemmas.Bool.{ne_eqb, false_from_ne_true}
use Rattle.std.proofs.lemmas.List.{map_push}
use Rattle.std.proofs.lemmas.List.FromFn.{map-range_with_len_more}
use Rattle.std.proofs.lemmas.Option.{slice_get-map, get_or_from_slice_get}
use Rattle.std.proofs.lemmas.Simd.{map-map}
use Rattle.std_lemmas.proofs.Lists.{at_place}
use Rattle.rotating_pick.specs.PortSets.{Has}
use Rattle.rotating_pick.specs.declared.kinds.Kind.TheVariants.{Uni}
use Rattle.rotating_pick.specs.declared.limits.TheConstants.{LEVELS}
use Rattle.rotating_pick.proofs.Bits.{no_member-zero}
use Rattle.slot_match.specs.declared.rows.Row.{Row}
use Rattle.slot_match.specs.declared.matching.Fed.{Fed}
use Rattle.slot_match.specs.Rows.{empty_row, no_row, row_of}
use Rattle.slot_match.specs.Matches.{IsFreeInput, fed_of}
use Rattle.eslip_rounds.specs.Decisions.{is_named, is_fed}
use Rattle.eslip_rounds.specs.Schedulers.{Scheduler}
use Rattle.eslip_rounds.specs.Schedules.{DecidedSlot}
use Rattle.eslip_rounds.proofs.Testing.{Decides-fed}
use Rattle.crossbar.specs.declared.cards.Post.{Post}
use Rattle.slot_histories.specs.Slots.{slot_rows}
use Rattle.service_bound.specs.Waits.{NotedSlot, noted_of, is_waiting}
use Rattle.service_bound.specs.MeterSteps.{was_waiting}
use Rattle.slot_board.specs.Schedules.{decided_under}
use Rattle.switch_plan.specs.GoodPlans.{SwitchPlan}
use Rattle.run_laws.specs.Runs.{ports_of, setup_for, posts_under}
use Rattle.run_laws.specs.Sums.{schedule_under}
use Rattle.idle_slots.specs.Idle.{AreIdle}
use Rattle.descriptor_runs.specs.declared.switch.Switch.{Switch}
use Rattle.descriptor_runs.specs.InputSteps.{InputValue, HasServed, row_in}
use Rattle.descriptor_runs.specs.SwitchSteps.{AreResting, IsDecided}
use Rattle.descriptor_runs.proofs.Begun.{new-row}
use Rattle.descriptor_runs.proofs.GapSlots.{none_waits, zeros_at}
use Rattle.descriptor_runs.proofs.Letting.{all-rows}

-- ---- one slot
-- the last of some slots
was-last : (slots : List NotedSlot) (slot : NotedSlot) (i j level : ℕ) → was_waiting (slots ++ slot ∷ []) i j level ≡ is_waiting slot i j level
was-last [] slot i j level = refl
was-last (one ∷ []) slot i j level = refl
was-last (one ∷ next ∷ slots) slot i j level = was-last (next ∷ slots) slot i j level

and_not_false : (a : Bool) → (a && not false) ≡ a
and_not_false true = refl
and_not_false false = refl

-- a queue of an input that is not served waits where it is asked for
free-waits : (rows : List Row) (matched : List (Option Fed)) (i j level : ℕ) → IsFreeInput matched i
    → is_waiting (record { rows = rows; matched = matched }) i j level ≡ is_named (row_of rows i) level Uni j
free-waits rows matched i j level free =
    let named = is_named (row_of rows i) level Uni j in
    let fed : is_fed i level Uni (fed_of matched j) ≡ false =
    false_from_ne_true (is_fed i level Uni (fed_of matched j)) (λ is. free j level Uni ((Decides-fed i level Uni (fed_of matched j)).0 is)) in
    ap (λ f. named && not f) fed ∙ and_not_false named

-- the row of an input
row-there : (inputs : List InputValue) (i : ℕ) (input : InputValue) → slice_get inputs i ≡ Some input → row_of (map row_in inputs) i ≡ row_in input
row-there inputs i input at =
    get_or_from_slice_get (map row_in inputs) i (row_in input) no_row (slice_get-map row_in inputs i ∙ ap (option_map row_in) at)

-- ---- before slot 0 no queue is asked for
pub rests-first : (inputs : List InputValue) (matched : List (Option Fed))
    → ((i : ℕ) (input : InputValue) → slice_get inputs i ≡ Some input → HasServed input [] false) → AreResting [] matched inputs
rests-first inputs matched new i j level input at free below =
    let none : slice_index empty_row.uni level ≡ 0 = zeros_at LEVELS level in
    let asks : Has (slice_index empty_row.uni level) j → ⊥ = λ has. no_member-zero j (subst (λ ports. Has ports j) none has) in
    ap (λ (row : Row). is_named row level Uni j) (new-row input (new i input at)) ∙ ne_eqb (bit_at (slice_index empty_row.uni level) j) 1 asks

module _ (scheduler : Scheduler) (plan : SwitchPlan) where
  -- what is noted of slot t
  abbrev noted_at : ℕ → NotedSlot
  noted_at t = noted_of (decided_under scheduler (setup_for plan) (posts_under scheduler plan) t)

  abbrev noted_before : ℕ → List NotedSlot
  noted_before t = map noted_of (schedule_under scheduler plan t)

  pub noted-more : (t : ℕ) → noted_before (t + 1) ≡ noted_before t ++ noted_at t ∷ []
  noted-more t =
      let slot : ℕ → DecidedSlot = decided_under scheduler (setup_for plan) (posts_under scheduler plan) in
      ap (map noted_of) (map-range_with_len_more slot 0 t t (omega arith)) ∙ map_push noted_of (schedule_under scheduler plan t) (slot t)

  waited-last : (t i j level : ℕ) → was_waiting (noted_before (t + 1)) i j level ≡ is_waiting (noted_at t) i j level
  waited-last t i j level =
      ap (λ slots. was_waiting slots i j level) (noted-more t) ∙ was-last (noted_before t) (noted_at t) i j level

  -- ---- in a slot that is decided, when what it serves has left
  module _ (t : ℕ) (switch : Switch) (is : IsDecided scheduler plan t switch) where
    pub rests-after : (inputs : List InputValue)
        → ((i : ℕ) → IsFreeInput switch.matched i → slice_get inputs i ≡ slice_get switch.inputs i)
        → AreResting (noted_before (t + 1)) switch.matched inputs
    rests-after inputs others i j level input at free below =
        let was : slice_get switch.inputs i ≡ Some input = sym (others i free) ∙ at in
        let posted : slot_rows (ports_of plan) (posts_under scheduler plan) t ≡ map row_in switch.inputs =
        map-map (λ (post : Post). post.row) (λ k. posts_under scheduler plan k t) (range_with_len 0 (ports_of plan))
        ∙ sym (all-rows scheduler plan t switch.inputs is.inputs) in
        let row : row_of (noted_at t).rows i ≡ row_in input = ap (λ (rows : List Row). row_of rows i) posted ∙ row-there switch.inputs i input was in
        let mine : IsFreeInput (noted_at t).matched i = subst (λ (m : List (Option Fed)). IsFreeInput m i) is.matched free in
        sym (waited-last t i j level
        ∙ (free-waits (noted_at t).rows (noted_at t).matched i j level mine ∙ ap (λ (r : Row). is_named r level Uni j) row))

  -- ---- where nothing waits
  module _ (t u : ℕ) (still : AreIdle scheduler plan t u) where
    none-waited : (s : ℕ) → t ≤ s → s < u → (i j level : ℕ) → was_waiting (noted_before (s + 1)) i j level ≡ false
    none-waited s from until i j level = waited-last s i j level ∙ none_waits scheduler plan t u still s from until i j level

    pub rests-still : (matched : List (Option Fed)) (inputs : List InputValue) → t < u → AreResting (noted_before (t + 1)) matched inputs
        → AreResting (noted_before u) matched inputs
    rests-still matched inputs some rests i j level input at free below =
        let last : u - 1 + 1 ≡ u = omega arith in
        let late = none-waited (u - 1) (omega arith) (omega arith) i j level in
        rests i j level input at free below
        ∙ (none-waited t (omega arith) some i j level
        ∙ sym (subst (λ s. was_waiting (noted_before s) i j level ≡ false) last late))

-- ---- in a slot, an input to which no packet came, and that neither it nor the slot before serves
pub waits-kept : (slots : List NotedSlot) (inputs before : List InputValue) (rows : List Row) (matched last : List (Option Fed)) (i j level : ℕ)
    → i < length before → level < LEVELS → rows ≡ map row_in inputs → slice_get inputs i ≡ slice_get before i → IsFreeInput matched i
    → IsFreeInput last i → AreResting slots last before
    → is_waiting (record { rows = rows; matched = matched }) i j level ≡ was_waiting slots i j level
waits-kept slots inputs before rows matched last i j level inside below rows_are same free was_free rests =
    let (input, at) = at_place before i inside in
    let row : row_of rows i ≡ row_in input = ap (λ (rs : List Row). row_of rs i) rows_are ∙ row-there inputs i input (same ∙ at) in
    free-waits rows matched i j level free ∙ (ap (λ (r : Row). is_named r level Uni j) row ∙ rests i j level input at was_free below)
