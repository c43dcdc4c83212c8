-- Where a run drops nothing, and no queue of it is longer than another depth, the run with that depth is the same.
use Rattle.std.proofs.Common.{◌≡◌, ◌∙◌, ℕ, zero, suc, ◌+◌, ◌<◌, ◌≤◌, List, [], length, map, Option, sym, ap, arith, inl, inr}
use Rattle.std.specs.List.{flat_map, range_with_len}
use Rattle.std.specs.Option.{option_to_list}
use Rattle.std.proofs.lemmas.Bool.{cases_lt}
use Rattle.slot_match.specs.declared.rows.Row.{Row}
use Rattle.slot_match.specs.declared.matching.Served.{Served}
use Rattle.pointer_state.specs.Places.{places_at_first}
use Rattle.eslip_rounds.specs.Slots.{Decision}
use Rattle.eslip_rounds.specs.Schedulers.{Scheduler}
use Rattle.crossbar.specs.declared.cards.Post.{Post as CardPost}
use Rattle.slot_histories.specs.Slots.{decision_under, crossed_under, is_done_at, is_done_before}
use Rattle.card_core.specs.Plans.{Plan as CardPlan, Queue}
use Rattle.card_core.specs.Queues.{Passed, before as queue_before, waiting, dropped}
use Rattle.card_core.specs.Posts.{post_at}
use Rattle.queue_lengths.specs.Lengths.{length_in}
use Rattle.switch_plan.specs.GoodPlans.{SwitchPlan, IsGood}
use Rattle.run_laws.specs.Runs.{Before, ports_of, setup_for, card_at, rows_in, decision_in, after_slot, before_under, parts_under, posts_under}
use Rattle.run_laws.specs.Ends.{IsLengthUnder}
use Rattle.run_laws.specs.Crossings.{cells_under}
use Rattle.run_laws.proofs.Base.{good-card, before-same}
use Rattle.queue_measures.specs.Sizing.{with_depth, deepest_under, DropsNothing, IsSameRun}
use Rattle.queue_measures.proofs.Rooms.{HasRooms, HasRooms-alike, HasRooms-own, HasRooms-length}
use Rattle.queue_measures.proofs.SameCards.{queue_same, post_same, drops_none}
use Rattle.queue_measures.proofs.Deepest.{length_within, deepest_within}
use Rattle.queue_measures.proofs.Depths.{ports_same, setup_same, card_other, card_beyond}
use Rattle.queue_measures.proofs.SamePosts.{decision_alike, cells_alike, done_alike, done_before_alike}

module _ (scheduler : Scheduler) (plan : SwitchPlan) (good : IsGood plan) (slots depth : ℕ) (none : DropsNothing scheduler plan slots)
    (few : deepest_under scheduler plan slots ≤ depth) where
  abbrev other : SwitchPlan
  other = with_depth depth plan

  abbrev card : ℕ → CardPlan
  card i = card_at plan i

  abbrev parts : ℕ → ℕ → List (Option Served)
  parts i t = parts_under scheduler plan i t

  -- ---- each packet has room, of its own depth and of the other
  own_rooms : (i : ℕ) → i < ports_of plan → HasRooms (card i).depth (card i) (parts i slots) slots
  own_rooms i inside = HasRooms-own (card i) (parts i slots) slots (none i inside)

  other_rooms : (i : ℕ) → i < ports_of plan → HasRooms depth (card i) (parts i slots) slots
  other_rooms i inside =
      let is = good-card plan good i inside in
      HasRooms-length (card i) is.good (parts i slots) slots depth (none i inside)
      (λ q t is_queue below. let most = length_within scheduler plan slots i q t inside is_queue below in omega (arith, most, few))

  -- also as the card stands before a slot
  same_before : (i t u : ℕ) (q : Queue) → t < slots → u < t + 1 → queue_before (card i) q (parts i t) u ≡ queue_before (card i) q (parts i slots) u
  same_before i t u q below early = before-same scheduler plan i u t (omega arith) q ∙ sym (before-same scheduler plan i u slots (omega arith) q)

  rooms_at : (most i t : ℕ) → t < slots → HasRooms most (card i) (parts i slots) slots → HasRooms most (card i) (parts i t) (t + 1)
  rooms_at most i t below rooms =
      HasRooms-alike most (card i) (parts i slots) (parts i t) slots (t + 1) (omega arith) (λ q u early. same_before i t u q below early) rooms

  -- ---- the posts, of what the ports were served in the one run
  post_here : (i t : ℕ) → t < slots → post_at (card_at other i) (parts i t) t ≡ post_at (card i) (parts i t) t
  post_here i t below = elim (cases_lt i (ports_of plan)) [
    | inr beyond ↦ ap (λ (c : CardPlan). post_at c (parts i t) t) (card_beyond depth plan i beyond)
    | inl inside ↦
        ap (λ (c : CardPlan). post_at c (parts i t) t) (card_other depth plan i inside)
        ∙ post_same (card i) depth (parts i t) (t + 1)
        (rooms_at (card i).depth i t below (own_rooms i inside)) (rooms_at depth i t below (other_rooms i inside)) t (omega arith)
  ]

  -- ---- what the slots leave
  abbrev rows_with : (ℕ → CardPost) → ℕ → List Row
  rows_with posts n = map (λ i. (posts i).row) (range_with_len 0 n)

  abbrev decision_with : List Row → ℕ → ℕ → Before → Decision
  decision_with rows n t b = scheduler n plan.rounds t rows b.places

  decision_here : (t : ℕ) → t < slots
      → decision_in scheduler other (before_under scheduler plan t) t ≡ decision_in scheduler plan (before_under scheduler plan t) t
  decision_here t below =
      let b : Before = before_under scheduler plan t in
      let posts : (λ i. post_at (card_at other i) (parts i t) t) ≡ (λ i. post_at (card i) (parts i t) t) = λ x i. post_here i t below x in
      let rows : rows_in other b t ≡ rows_in plan b t =
      ap (λ (p : ℕ → CardPost). rows_with p (ports_of other)) posts ∙ ap (rows_with (λ i. post_at (card i) (parts i t) t)) (ports_same depth plan) in
      ap (λ r. decision_with r (ports_of other) t b) rows ∙ ap (λ n. decision_with (rows_in plan b t) n t b) (ports_same depth plan)

  pub before_run : (t : ℕ) → t ≤ slots → before_under scheduler other t ≡ before_under scheduler plan t
  unfolding before_under
  before_run zero early = ap (λ n. record { places = places_at_first n; served = λ i. [] }) (ports_same depth plan)
  before_run (suc t) early =
      let earlier = before_run t (omega arith) in
      ap (λ b. after_slot b (decision_in scheduler other b t)) earlier ∙ ap (after_slot (before_under scheduler plan t)) (decision_here t (omega arith))

  -- ---- the same run
  posts_run : (i t : ℕ) → t < slots → posts_under scheduler other i t ≡ posts_under scheduler plan i t
  posts_run i t below = ap (λ (b : Before). post_at (card_at other i) (b.served i) t) (before_run t (omega arith)) ∙ post_here i t below

  decisions_run : (t : ℕ) → t < slots
      → decision_under scheduler (setup_for other) (posts_under scheduler other) t ≡ decision_under scheduler (setup_for plan) (posts_under scheduler plan) t
  decisions_run t below =
      ap (λ s. decision_under scheduler s (posts_under scheduler other) t) (setup_same depth plan)
      ∙ decision_alike scheduler (setup_for plan) (posts_under scheduler other) (posts_under scheduler plan) slots posts_run t below

  cells_run : (j : ℕ) → cells_under scheduler other j slots ≡ cells_under scheduler plan j slots
  cells_run j =
      ap (λ s. flat_map (λ t. option_to_list (crossed_under scheduler s (posts_under scheduler other) j t)) (range_with_len 0 slots)) (setup_same depth plan)
      ∙ cells_alike scheduler (setup_for plan) (posts_under scheduler other) (posts_under scheduler plan) slots posts_run j

  ends_run : IsLengthUnder scheduler plan slots → IsLengthUnder scheduler other slots
  ends_run ends = record {
    last = ends.last;
    count = ends.count;
    done =
        ap (λ n. is_done_at n (posts_under scheduler other) ends.last) (ports_same depth plan)
        ∙ done_alike scheduler (setup_for plan) (posts_under scheduler other) (posts_under scheduler plan) slots posts_run (ports_of plan) ends.last
        (omega (arith, ends.count))
        ∙ ends.done;
    going =
        ap (λ n. is_done_before n (posts_under scheduler other) ends.last) (ports_same depth plan)
        ∙ done_before_alike scheduler (setup_for plan) (posts_under scheduler other) (posts_under scheduler plan) slots posts_run (ports_of plan) ends.last
        (omega (arith, ends.count))
        ∙ ends.going;
  }

  pub IsSameRun-depth : IsSameRun scheduler plan other slots
  IsSameRun-depth = record { posts = posts_run; decisions = decisions_run; cells = cells_run; ends = ends_run }

  -- ---- and nothing is dropped in the other
  pub DropsNothing-depth : DropsNothing scheduler other slots
  DropsNothing-depth i inside' =
      let inside : i < ports_of plan = omega (arith, inside', ports_same depth plan) in
      ap (λ (b : Before). dropped (card_at other i) (b.served i) slots) (before_run slots (omega arith))
      ∙ ap (λ (c : CardPlan). dropped c (parts i slots) slots) (card_other depth plan i inside)
      ∙ drops_none (card i) depth (parts i slots) slots (own_rooms i inside) (other_rooms i inside)

  -- ---- and its queues are no longer
  length_run : (i : ℕ) (q : Queue) (t : ℕ) → i < ports_of plan → t < slots
      → length_in (card_at other i) q (parts_under scheduler other i slots) t ≡ length_in (card i) q (parts i slots) t
  length_run i q t inside below =
      ap (λ (b : Before). length_in (card_at other i) q (b.served i) t) (before_run slots (omega arith))
      ∙ ap (λ (c : CardPlan). length_in c q (parts i slots) t) (card_other depth plan i inside)
      ∙ ap (λ (s : Passed). length (waiting s)) (queue_same (card i) depth (parts i slots) slots (own_rooms i inside) (other_rooms i inside) q t below)

  pub deepest_run : (most : ℕ) → ((i : ℕ) (q : Queue) (t : ℕ) → i < ports_of plan → t < slots → length_in (card i) q (parts i slots) t ≤ most)
      → deepest_under scheduler other slots ≤ most
  deepest_run most all =
      deepest_within scheduler other slots most
      (λ i q t inside' below.
      let inside : i < ports_of plan = omega (arith, inside', ports_same depth plan) in
      let same = length_run i q t inside below in
      let few' = all i q t inside below in
      omega (arith, same, few'))
