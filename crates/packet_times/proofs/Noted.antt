-- A slot more is noted.
use Rattle.std.proofs.Common.{◌≡◌, ◌∙◌, ℕ, zero, suc, ◌+◌, ◌*◌, ◌^◌, ◌<◌, Bool, true, false, List, [], ◌∷◌, ◌++◌, length, map, filter, Option}
use Rattle.std.proofs.Common.{refl, sym, ap, subst, if◌then◌else◌, arith, inl, inr, slice_set, slice_index_or, replicate, get_or-set_same}
use Rattle.std.proofs.Common.{get_or-set_other, length-set}
use Rattle.std.specs.Prelude.{All}
use Rattle.std.specs.List.{range_with_len}
use Rattle.std.proofs.lemmas.Bool.{cases_eq}
use Rattle.std.proofs.lemmas.List.{length-replicate, get_or-map, length-map}
use Rattle.std.proofs.lemmas.List.Elements.{filter-append, All-append}
use Rattle.std.proofs.lemmas.List.Sums.{get_or-le-sum_by}
use Rattle.std.proofs.lemmas.List.FromFn.{get_or-map-range_with_len, length-map-range_with_len}
use Rattle.std.proofs.Math.ListN.{get_or-append}
use Rattle.std.proofs.Math.Seq.{get_or-append_seam}
use Rattle.std_lemmas.proofs.Lists.{get_or-same}
use Rattle.std_lemmas.proofs.MappedSums.{sum_by-map}
use Rattle.std_lemmas.proofs.Ranges.{range_more}
use Rattle.reassembly.specs.declared.limits.TheConstants.{FLOWS_PER_INPUT}
use Rattle.slot_match.specs.declared.matching.Fed.{Fed}
use Rattle.slot_match.specs.Parts.{served_of}
use Rattle.eslip_rounds.specs.Schedulers.{Scheduler}
use Rattle.crossbar.specs.declared.cards.Post.{Post as CardPost}
use Rattle.crossbar.specs.Crossing.{fetched}
use Rattle.slot_histories.specs.Slots.{decision_under, crossed_under}
use Rattle.card_core.specs.declared.plan.CardPlan.{CardPlan}
use Rattle.card_core.specs.Plans.{Plan, IsGoodPlan, plan_of}
use Rattle.card_core.specs.Posts.{row_at, IsServable}
use Rattle.switch_plan.specs.GoodPlans.{SwitchPlan, IsGood, IsCountable}
use Rattle.run_laws.specs.Runs.{ports_of, setup_for, no_plan, card_at, before_under, parts_under, posts_under, IsSlotUnder}
use Rattle.run_laws.proofs.Base.{decision-same, good-card}
use Rattle.run_laws.specs.Departures.{Flow, is_end_of, ends_of}
use Rattle.packet_times.specs.NotingSteps.{Input, Times, no_input, flow_place, IsNoted, IsLastMatch, HasNoted}
use Rattle.packet_times.specs.Steps.{end_in, HasEnds, AreNoted}

pub parts-first : (scheduler : Scheduler) (plan : SwitchPlan) (i : ℕ) → parts_under scheduler plan i 0 ≡ []
unfolding before_under
parts-first scheduler plan i = refl

parts-suc : (scheduler : Scheduler) (plan : SwitchPlan) (i t : ℕ) → parts_under scheduler plan i (suc t) ≡ parts_under scheduler plan i t
    ++ served_of (decision_under scheduler (setup_for plan) (posts_under scheduler plan) t).matched i ∷ []
unfolding before_under
parts-suc scheduler plan i t = ap (λ decision. parts_under scheduler plan i t ++ served_of decision.matched i ∷ []) (decision-same scheduler plan t)

module _ (scheduler : Scheduler) (plan : SwitchPlan) (slot : ℕ) (posts : List CardPost) (matched : List (Option Fed))
    (is : IsSlotUnder scheduler plan slot posts matched) where
  pub posts-long : length posts ≡ ports_of plan
  posts-long = ap length is.posts_are ∙ length-map-range_with_len (λ i. posts_under scheduler plan i slot) 0 (ports_of plan)

  parts-more : (i : ℕ) → parts_under scheduler plan i (slot + 1) ≡ parts_under scheduler plan i slot ++ served_of matched i ∷ []
  parts-more i =
      let next : slot + 1 ≡ suc slot = omega arith in
      ap (parts_under scheduler plan i) next ∙ parts-suc scheduler plan i slot
      ∙ ap (λ m. parts_under scheduler plan i slot ++ served_of m i ∷ []) (sym is.matched_is)

  module _ (i : ℕ) (inside : i < ports_of plan) (default : CardPost) where
    post-at : slice_index_or posts i default ≡ posts_under scheduler plan i slot
    post-at = ap (λ ps. slice_index_or ps i default) is.posts_are
        ∙ get_or-map-range_with_len (λ k. posts_under scheduler plan k slot) 0 (ports_of plan) i i default inside (omega arith)

    pub row-at : (slice_index_or posts i default).row ≡ row_at (card_at plan i) (parts_under scheduler plan i slot) slot
    row-at = ap (λ (post : CardPost). post.row) post-at

    pub servable-at : IsServable (slice_index_or posts i default).row (served_of matched i)
    servable-at = subst (λ row. IsServable row (served_of matched i)) (sym row-at) (is.servable i inside)

  -- one more input
  pub noted-more : (k : ℕ) (inputs : List Input) (new : Input) → k < ports_of plan → AreNoted scheduler plan slot k inputs
      → IsNoted (card_at plan k) new (parts_under scheduler plan k slot ++ served_of matched k ∷ [])
      → AreNoted scheduler plan slot (k + 1) (slice_set inputs k new)
  noted-more k inputs new inside were here = record {
    count = length-set inputs k new ∙ were.count;
    done = λ i low less. elim (cases_eq i k) [
      | inl e ↦
          let at : slice_index_or (slice_set inputs k new) i no_input ≡ new = ap (λ j. slice_index_or (slice_set inputs k new) j no_input) e
          ∙ get_or-set_same inputs k new no_input (omega (arith, were.count)) in
          subst (λ input. IsNoted (card_at plan i) input (parts_under scheduler plan i (slot + 1))) (sym at)
          (subst (λ j. IsNoted (card_at plan j) new (parts_under scheduler plan j (slot + 1))) (sym e)
          (subst (IsNoted (card_at plan k) new) (sym (parts-more k)) here))
      | inr ne ↦
          let at : slice_index_or (slice_set inputs k new) i no_input ≡ slice_index_or inputs i no_input = get_or-set_other inputs k i new no_input ne in
          subst (λ input. IsNoted (card_at plan i) input (parts_under scheduler plan i (slot + 1))) (sym at) (were.done i low (omega arith))
    ];
    left = λ i low le.
        let at : slice_index_or (slice_set inputs k new) i no_input ≡ slice_index_or inputs i no_input =
        get_or-set_other inputs k i new no_input (λ e. absurd (omega arith)) in
        subst (λ input. IsNoted (card_at plan i) input (parts_under scheduler plan i slot)) (sym at) (were.left i low (omega arith));
  }

  -- ---- what crosses in the slot
  crossed-is : (feeds : List (Option Fed)) (j : ℕ) → IsLastMatch scheduler plan feeds slot
      → crossed_under scheduler (setup_for plan) (posts_under scheduler plan) j slot ≡ fetched feeds (map (λ post. post.cell) posts) j
  crossed-is feeds j last = at slot last is.posts_are where
    at : (t : ℕ) → IsLastMatch scheduler plan feeds t → posts ≡ map (λ i. posts_under scheduler plan i t) (range_with_len 0 (ports_of plan))
        → crossed_under scheduler (setup_for plan) (posts_under scheduler plan) j t ≡ fetched feeds (map (λ post. post.cell) posts) j
    at zero none all = sym (ap (λ m. fetched m (map (λ (post : CardPost). post.cell) posts) j) none)
    at (suc t) fed all =
        ap (λ ps. fetched (decision_under scheduler (setup_for plan) (posts_under scheduler plan) t).matched (map (λ (post : CardPost). post.cell) ps) j)
        (sym all)
        ∙ ap (λ m. fetched m (map (λ (post : CardPost). post.cell) posts) j) (sym fed)

  ends-more : (feeds : List (Option Fed)) (flow : Flow) → IsLastMatch scheduler plan feeds slot
      → ends_of scheduler plan flow (slot + 1) ≡ ends_of scheduler plan flow slot
      ++ end_in slot flow (fetched feeds (map (λ post. post.cell) posts) flow.output)
  ends-more feeds flow last =
      let test : ℕ → Bool = λ t. is_end_of flow (crossed_under scheduler (setup_for plan) (posts_under scheduler plan) flow.output t) in
      ap (filter test) (range_more slot)
      ∙ filter-append test (range_with_len 0 slot) (slot ∷ [])
      ∙ ap (λ cell. ends_of scheduler plan flow slot ++ end_in slot flow cell) (crossed-is feeds flow.output last)

  -- a slot of 32 bits adds no greater end
  one-narrow : slot < 2 ^ 32 → (k d : ℕ) → k < length (slot ∷ []) → slice_index_or (slot ∷ []) k d < 2 ^ 32
  one-narrow few zero d below = few
  one-narrow few (suc k) d below = absurd (omega (arith, below))

  end-narrow : (b : Bool) → slot < 2 ^ 32 → All (λ t. t < 2 ^ 32) (if b then slot ∷ [] else [])
  end-narrow true few = one-narrow few
  end-narrow false few = λ k d below. absurd (omega (arith, below))

  -- ---- the slot is noted
  pub all-noted : slot < 2 ^ 32 → (old new : Times) → HasNoted scheduler plan old slot → AreNoted scheduler plan slot (ports_of plan) new.inputs
      → HasEnds (ports_of plan) slot (fetched old.matched (map (λ post. post.cell) posts)) old.ends new.ends → new.matched ≡ matched
      → HasNoted scheduler plan new (slot + 1)
  all-noted few old new was inputs ends kept = record {
    good = was.good;
    count = inputs.count;
    each = λ i inside. inputs.done i inside inside;
    flows = ends.count ∙ was.flows;
    ends = λ flow flows. ends.each flow flows
        ∙ ap (λ es. es ++ end_in slot flow (fetched old.matched (map (λ (post : CardPost). post.cell) posts) flow.output)) (was.ends flow flows)
        ∙ sym (ends-more old.matched flow was.last);
    last = let next : suc slot ≡ slot + 1 = omega arith in subst (IsLastMatch scheduler plan new.matched) next (kept ∙ is.matched_is);
    narrow = λ flow.
        let cell = fetched old.matched (map (λ (post : CardPost). post.cell) posts) flow.output in
        subst (λ ends. All (λ t. t < 2 ^ 32) ends) (sym (ends-more old.matched flow was.last))
        (All-append (λ t. t < 2 ^ 32) (ends_of scheduler plan flow slot) (end_in slot flow cell) (was.narrow flow) (end-narrow (is_end_of flow cell) few));
  }

pub are-noted : (scheduler : Scheduler) (plan : SwitchPlan) (slot : ℕ) (times : Times) → HasNoted scheduler plan times slot
    → AreNoted scheduler plan slot 0 times.inputs
are-noted scheduler plan slot times was = record {
  count = was.count;
  done = λ i inside none. absurd (omega arith);
  left = λ i inside le. was.each i inside;
}

-- ---- before slot 0
pub first-noted : (scheduler : Scheduler) (plan : SwitchPlan) (times : Times) → IsGood plan → AreNoted scheduler plan 0 0 times.inputs
    → times.ends ≡ replicate (FLOWS_PER_INPUT * (ports_of plan * ports_of plan)) [] → times.matched ≡ []
    → HasNoted scheduler plan times 0
first-noted scheduler plan times good inputs ends none = record {
  good = good;
  count = inputs.count;
  each = λ i inside. inputs.left i inside (omega arith);
  flows = ap length ends ∙ length-replicate (FLOWS_PER_INPUT * (ports_of plan * ports_of plan)) [];
  ends = λ flow flows. ap (λ lists. slice_index_or lists (flow_place (ports_of plan) flow) []) ends
      ∙ get_or-same [] (FLOWS_PER_INPUT * (ports_of plan * ports_of plan)) (flow_place (ports_of plan) flow);
  last = none;
  narrow = λ flow k d below. absurd (omega (arith, below));
}

-- ---- the inputs of a plan
module _ (plan : SwitchPlan) (cards : List CardPlan) (are : plan.cards ≡ map plan_of cards) where
  pub card-of : (i : ℕ) (default : CardPlan) → i < length cards → card_at plan i ≡ plan_of (slice_index_or cards i default)
  card-of i default inside = ap (λ cs. slice_index_or cs i no_plan) are ∙ get_or-map plan_of cards i default no_plan inside

  pub ports-are : ports_of plan ≡ length cards
  ports-are = ap length are ∙ length-map cards plan_of

  pub good-at : IsGood plan → (i : ℕ) (default : CardPlan) → i < length cards → IsGoodPlan (plan_of (slice_index_or cards i default))
  good-at good i default inside = subst IsGoodPlan (card-of i default inside) (good-card plan good i (let long = ports-are in omega arith)).good

  pub few-at : IsCountable plan → (i : ℕ) (default : CardPlan) → i < length cards → length (plan_of (slice_index_or cards i default)).packets < 2 ^ 32
  few-at countable i default inside =
      let sum = sum_by-map length (λ (card : Plan). card.packets) plan.cards in
      let one = get_or-le-sum_by (λ (card : Plan). length card.packets) plan.cards i no_plan (let long = ports-are in omega arith) in
      let here = ap (λ (card : Plan). length card.packets) (card-of i default inside) in
      omega (arith, countable.packets, sum, one, here)

  -- nothing of a run was noted at the first n inputs
  abbrev AreFresh : ℕ → List Input → Type 0
  AreFresh n inputs = (i : ℕ) → i < n → IsNoted (card_at plan i) (slice_index_or inputs i no_input) []

  pub made-more : (k : ℕ) (default : CardPlan) (inputs : List Input) (new : Input) → k < length cards → length inputs ≡ k → AreFresh k inputs
      → IsNoted (plan_of (slice_index_or cards k default)) new [] → AreFresh (k + 1) (inputs ++ new ∷ [])
  made-more k default inputs new inside long were here i less = elim (cases_eq i k) [
    | inl e ↦
        let at : slice_index_or (inputs ++ new ∷ []) i no_input ≡ new = ap (λ j. slice_index_or (inputs ++ new ∷ []) j no_input) (e ∙ sym long)
        ∙ get_or-append_seam inputs new [] no_input in
        subst (λ input. IsNoted (card_at plan i) input []) (sym at)
        (subst (λ j. IsNoted (card_at plan j) new []) (sym e) (subst (λ card. IsNoted card new []) (sym (card-of k default inside)) here))
    | inr ne ↦
        let at : slice_index_or (inputs ++ new ∷ []) i no_input ≡ slice_index_or inputs i no_input = get_or-append inputs (new ∷ []) no_input i (omega arith) in
        subst (λ input. IsNoted (card_at plan i) input []) (sym at) (were i (omega arith))
  ]

  pub made-all : (scheduler : Scheduler) (inputs : List Input) → length inputs ≡ length cards → AreFresh (length cards) inputs
      → AreNoted scheduler plan 0 0 inputs
  made-all scheduler inputs long each = record {
    count = long ∙ sym ports-are;
    done = λ i inside none. absurd (omega arith);
    left = λ i inside le. subst (IsNoted (card_at plan i) (slice_index_or inputs i no_input)) (sym (parts-first scheduler plan i))
        (each i (let few = ports-are in omega arith));
  }
