-- What the inputs ask for in a slot whose packets have arrived, and what goes on in it.
use Rattle.std.proofs.Common.{◌≡◌, ◌∙◌, ℕ, ◌<◌, ◌||◌, not, nat_lt, true, false, List, [], ◌∷◌, map, length, replicate, Option, None, Some, refl, sym, ap}
use Rattle.std.proofs.Common.{arith, inl, inr, slice_index, slice_index_or}
use Rattle.std.specs.Prelude.{slice_get}
use Rattle.std.specs.Option.{option_map}
use Rattle.std.specs.List.{range_with_len}
use Rattle.std.proofs.lemmas.Bool.{cases_lt, lt-ltb, le-ltb, or_left, or_right, or_from, not_from_true, not_from_false}
use Rattle.std.proofs.lemmas.List.{length-map, length-replicate, get_or-replicate}
use Rattle.std.proofs.lemmas.List.Folds.{list_all_at}
use Rattle.std.proofs.lemmas.List.Sums.{list_all-from_AllPass}
use Rattle.std.proofs.lemmas.List.FromFn.{fill_by_all, get_or-map-range_with_len, length-map-range_with_len}
use Rattle.std.proofs.lemmas.Option.{slice_get-map, slice_get_within, get_or_from_slice_get, none-some}
use Rattle.std_lemmas.proofs.Lists.{at_place}
use Rattle.rotating_pick.specs.PortSets.{Has}
use Rattle.rotating_pick.specs.declared.kinds.Kind.TheVariants.{Uni, Multi}
use Rattle.rotating_pick.specs.declared.limits.TheConstants.{LEVELS}
use Rattle.rotating_pick.proofs.Bits.{zero-no_members}
use Rattle.slot_match.specs.declared.rows.Row.{Row}
use Rattle.slot_match.specs.declared.matching.Served.{Served}
use Rattle.slot_match.specs.Rows.{IsEmptyRow, empty_row, no_row}
use Rattle.crossbar.specs.declared.cards.Post.{Post}
use Rattle.eslip_rounds.specs.Schedulers.{Scheduler}
use Rattle.slot_histories.specs.Slots.{slot_posts, is_done_at}
use Rattle.slot_histories.specs.Tests.{is_empty}
use Rattle.slot_histories.proofs.SetTests.{Decides-is_empty}
use Rattle.card_core.specs.declared.plan.Planned.{Planned}
use Rattle.card_core.specs.Plans.{Plan}
use Rattle.card_core.specs.Posts.{row_at, unis_at, rest_at, more_at}
use Rattle.switch_plan.specs.GoodPlans.{SwitchPlan}
use Rattle.run_laws.specs.Runs.{ports_of, card_at, rows_in, before_under, parts_under, posts_under}
use Rattle.run_laws.proofs.Base.{served-length}
use Rattle.idle_slots.specs.Quiet.{empty_rows}
use Rattle.idle_slots.specs.Idle.{IsIdle}
use Rattle.descriptor_runs.specs.InputSteps.{InputValue, HasServed, next_slot, row_in}
use Rattle.descriptor_runs.specs.PortSteps.{NoneBefore, ComesTo}
use Rattle.descriptor_runs.specs.SwitchSteps.{AreInputs}
use Rattle.descriptor_runs.proofs.ServedInputs.{row_is, more_is}
use Rattle.descriptor_runs.proofs.InputPorts.{count-inputs, plan-of, in-ports}

-- a row of a card that names no output is the empty one
sets_empty : (f : ℕ → ℕ) → ((level j : ℕ) → Has (slice_index (map f (range_with_len 0 LEVELS)) level) j → ⊥)
    → map f (range_with_len 0 LEVELS) ≡ replicate LEVELS 0
sets_empty f none =
    let best = zero-no_members (f 0) (none 0) in
    let second = zero-no_members (f 1) (none 1) in
    let third = zero-no_members (f 2) (none 2) in
    let worst = zero-no_members (f 3) (none 3) in
    λ x. best x ∷ second x ∷ third x ∷ worst x ∷ []

row_empty : (card : Plan) (served : List (Option Served)) (t : ℕ) → IsEmptyRow (row_at card served t) → row_at card served t ≡ empty_row
row_empty card served t none =
    let unis = sets_empty (unis_at card served t) (λ level j. none level j Uni) in
    let rests = sets_empty (rest_at card served t) (λ level j. none level j Multi) in
    λ x. record { uni = unis x; multi = rests x }

-- whether a packet is to come to an input
comes-next : (input : InputValue) (first : ℕ) → next_slot input ≡ Some first → nat_lt input.next (length input.plan.packets) ≡ true
comes-next input first next = there (slice_get input.plan.packets input.next) refl next where
  there : (packet : Option Planned) → slice_get input.plan.packets input.next ≡ packet → option_map (λ (p : Planned). p.arrival) packet ≡ Some first
      → nat_lt input.next (length input.plan.packets) ≡ true
  there None at is = absurd (none-some first is)
  there (Some packet) at is = lt-ltb input.next (length input.plan.packets) (slice_get_within input.plan.packets input.next packet at)

none-next : (input : InputValue) → next_slot input ≡ None → nat_lt input.next (length input.plan.packets) ≡ false
none-next input none =
    elim (cases_lt input.next (length input.plan.packets)) [
      | inl below ↦
          let (packet, at) = at_place input.plan.packets input.next below in
          absurd (none-some packet.arrival (sym none ∙ ap (option_map (λ (p : Planned). p.arrival)) at))
      | inr above ↦ le-ltb input.next (length input.plan.packets) above
    ]

module _ (scheduler : Scheduler) (plan : SwitchPlan) (t : ℕ) where
  abbrev posts : ℕ → ℕ → Post
  posts = posts_under scheduler plan

  abbrev row : ℕ → Row
  row i = row_at (card_at plan i) (parts_under scheduler plan i t) t

  -- a port that has more to come goes on
  more-goes_on : (i : ℕ) → i < ports_of plan → (posts i t).more ≡ true → is_done_at (ports_of plan) posts t ≡ false
  more-goes_on i inside more =
      let n = ports_of plan in
      let all = slot_posts n posts t in
      let long : length all ≡ n = length-map-range_with_len (λ k. posts k t) 0 n in
      let here : slice_index_or all i (posts i t) ≡ posts i t = get_or-map-range_with_len (λ k. posts k t) 0 n i i (posts i t) inside (omega arith) in
      list_all_at (λ (post : Post). not post.more) all i (posts i t) (omega arith) (ap (λ (post : Post). not post.more) here ∙ ap not more)

  none-done : ((i : ℕ) → i < ports_of plan → (posts i t).more ≡ false) → is_done_at (ports_of plan) posts t ≡ true
  none-done none =
      let n = ports_of plan in
      let all = slot_posts n posts t in
      let long : length all ≡ n = length-map-range_with_len (λ k. posts k t) 0 n in
      list_all-from_AllPass (λ (post : Post). not post.more) all (λ i d inside.
      let below : i < n = omega arith in
      let here : slice_index_or all i d ≡ posts i t = get_or-map-range_with_len (λ k. posts k t) 0 n i i d below (omega arith) in
      ap (λ (post : Post). not post.more) here ∙ ap not (none i below))

  -- ---- an input to which the packets of the slot have come
  module _ (i : ℕ) (input : InputValue) (own : input.plan ≡ card_at plan i) (served : HasServed input (parts_under scheduler plan i t) true) where
    pub arrived-row : row_in input ≡ row i
    arrived-row =
        let parts = parts_under scheduler plan i t in
        row_is input parts served
        ∙ (ap (λ (p : Plan). row_at p parts (length parts)) own ∙ ap (row_at (card_at plan i) parts) (served-length scheduler plan i t))

    pub arrived-more : (posts i t).more ≡ (nat_lt input.next (length input.plan.packets) || not (is_empty (row_in input)))
    arrived-more =
        let parts = parts_under scheduler plan i t in
        sym (more_is input parts served
        ∙ (ap (λ (p : Plan). more_at p (length parts) (row_in input)) own
        ∙ (ap (λ n. more_at (card_at plan i) n (row_in input)) (served-length scheduler plan i t) ∙ ap (more_at (card_at plan i) t) arrived-row)))

    pub arrived-empty : is_empty (row_in input) ≡ true → row i ≡ empty_row
    arrived-empty empty =
        row_empty (card_at plan i) (parts_under scheduler plan i t) t ((Decides-is_empty (row i)).0 (ap is_empty (sym arrived-row) ∙ empty))

  -- all rows of the slot
  pub all-rows : (inputs : List InputValue) → AreInputs scheduler plan t true inputs
      → map row_in inputs ≡ rows_in plan (before_under scheduler plan t) t
  all-rows inputs are =
      let count = count-inputs plan inputs are.plans in
      fill_by_all row (map row_in inputs) (ports_of plan) no_row (length-map inputs row_in ∙ count)
      (λ i inside.
      let (input, at) = at_place inputs i (omega arith) in
      get_or_from_slice_get (map row_in inputs) i (row_in input) no_row (slice_get-map row_in inputs i ∙ ap (option_map row_in) at)
      ∙ arrived-row i input (plan-of plan inputs are.plans i input at) (are.served i input at))

  -- ---- what goes on
  module _ (inputs : List InputValue) (are : AreInputs scheduler plan t true inputs) where
    more-at : (i : ℕ) (input : InputValue) → slice_get inputs i ≡ Some input
        → (posts i t).more ≡ (nat_lt input.next (length input.plan.packets) || not (is_empty (row_in input)))
    more-at i input at = arrived-more i input (plan-of plan inputs are.plans i input at) (are.served i input at)

    -- an input that asks, or to which a packet is to come, has more to come
    pub asking-goes_on : (i : ℕ) (input : InputValue) → slice_get inputs i ≡ Some input → is_empty (row_in input) ≡ false
        → is_done_at (ports_of plan) posts t ≡ false
    asking-goes_on i input at asks =
        more-goes_on i (in-ports plan inputs are.plans i input at) (more-at i input at
        ∙ or_right (nat_lt input.next (length input.plan.packets)) (not (is_empty (row_in input))) (not_from_false (is_empty (row_in input)) asks))

    pub coming-goes_on : (first : ℕ) → ComesTo (length inputs) inputs (Some first) → is_done_at (ports_of plan) posts t ≡ false
    coming-goes_on first (i, input, inside, at, next) =
        more-goes_on i (in-ports plan inputs are.plans i input at) (more-at i input at
        ∙ or_left (nat_lt input.next (length input.plan.packets)) (not (is_empty (row_in input))) (comes-next input first next))

    -- where none asks, all rows are empty
    module _ (none : (i : ℕ) (input : InputValue) → slice_get inputs i ≡ Some input → is_empty (row_in input) ≡ true) where
      pub none-asks : IsIdle scheduler plan t
      none-asks =
          let n = ports_of plan in
          let count = count-inputs plan inputs are.plans in
          sym (fill_by_all row (empty_rows n) n no_row (length-replicate n empty_row)
          (λ i inside.
          let (input, at) = at_place inputs i (omega arith) in
          get_or-replicate n i empty_row no_row inside
          ∙ sym (arrived-empty i input (plan-of plan inputs are.plans i input at) (are.served i input at) (none i input at))))

      -- and where no packet is to come, the run is done
      pub nothing-comes : NoneBefore (length inputs) inputs None → is_done_at (ports_of plan) posts t ≡ true
      nothing-comes last = none-done (λ i inside.
          let count = count-inputs plan inputs are.plans in
          let (input, at) = at_place inputs i (omega arith) in
          more-at i input at
          ∙ or_from (nat_lt input.next (length input.plan.packets)) (not (is_empty (row_in input))) (none-next input (last i input (omega arith) at))
          (not_from_true (is_empty (row_in input)) (none i input at)))
