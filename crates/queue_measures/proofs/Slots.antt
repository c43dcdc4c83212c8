-- The cards of a run that measures are made of, and the slots that they note.
use Rattle.std.proofs.Common.{◌≡◌, ◌∙◌, ℕ, ◌+◌, ◌<◌, List, [], ◌∷◌, ◌++◌, length, Option, Some, slice_get, slice_index_or, sym, ap, subst, arith}
use Rattle.std.proofs.Common.{inl, inr, if◌then◌else◌}
use Rattle.std.proofs.lemmas.Bool.{cases_eq}
use Rattle.std.proofs.lemmas.List.Sums.{get_or-le-sum_by, sum_by-le-sum_by}
use Rattle.std.proofs.lemmas.Option.{get_or_from_slice_get, slice_get_within}
use Rattle.std_lemmas.proofs.Bools.{if_within}
use Rattle.std_lemmas.proofs.MappedSums.{sum_by-map}
use Rattle.std.proofs.lemmas.List.FromFn.{length-map-range_with_len, get_or-map-range_with_len, map-range_with_len_more}
use Rattle.std.proofs.Math.ListN.{get_or-append}
use Rattle.std.proofs.Math.Seq.{get_or-append_seam}
use Rattle.slot_match.specs.declared.matching.Fed.{Fed}
use Rattle.slot_match.specs.declared.matching.Served.{Served}
use Rattle.slot_match.specs.Parts.{served_of}
use Rattle.crossbar.specs.declared.cards.Post.{Post}
use Rattle.eslip_rounds.specs.Schedulers.{Scheduler}
use Rattle.slot_histories.specs.Slots.{served_under}
use Rattle.card_core.specs.Plans.{Plan, size_of}
use Rattle.card_core.specs.Queues.{is_routed}
use Rattle.card_core.specs.Posts.{row_at, IsServable}
use Rattle.switch_plan.specs.GoodPlans.{SwitchPlan, IsCountable}
use Rattle.switch_plan.specs.Totals.{work_of}
use Rattle.run_laws.specs.Runs.{ports_of, setup_for, card_at, no_plan, parts_under, posts_under, IsSlotUnder}
use Rattle.run_laws.proofs.Base.{served-is, served-length, good-card}
use Rattle.queue_measures.proofs.GreatestDepth.{card_work, routed_work}
use Rattle.queue_measures.specs.NotingSteps.{Input, HasNoted, IsCounted, IsNoted, no_input}

-- a card of a countable plan is counted
pub counted-card : (plan : SwitchPlan) → IsCountable plan → (i : ℕ) (card : Plan) → slice_get plan.cards i ≡ Some card → IsCounted card
counted-card plan countable i card there =
    let inside : i < ports_of plan = slice_get_within plan.cards i card there in
    subst IsCounted (get_or_from_slice_get plan.cards i card no_plan there) (record {
      packets = let part = get_or-le-sum_by (λ (c : Plan). length c.packets) plan.cards i no_plan inside in
          let all = sum_by-map length (λ (c : Plan). c.packets) plan.cards in
          omega (arith, part, all, countable.packets);
      cells = let few = sum_by-le-sum_by (λ p. if is_routed p then size_of p else 0) work_of (card_at plan i).packets
          (λ p. if_within (is_routed p) (size_of p) (work_of p) (routed_work p)) in
          omega (arith, few, card_work plan i inside, countable.cells);
    })

-- one input more, before slot 0
pub noted-more : (plans : List Plan) (inputs : List Input) (new : Input)
    → ((i : ℕ) → i < length inputs → IsNoted (slice_index_or plans i no_plan) (slice_index_or inputs i no_input) [])
    → IsNoted (slice_index_or plans (length inputs) no_plan) new []
    → (i : ℕ) → i < length inputs + 1 → IsNoted (slice_index_or plans i no_plan) (slice_index_or (inputs ++ new ∷ []) i no_input) []
noted-more plans inputs new before here i inside = elim (cases_eq i (length inputs)) [
  | inl last ↦ rw (last, get_or-append_seam inputs new [] no_input) here
  | inr other ↦ rw (get_or-append inputs (new ∷ []) no_input i (omega arith)) (before i (omega arith))
]

-- a post for each port
pub posts-count : (scheduler : Scheduler) (plan : SwitchPlan) (t : ℕ) (posts : List Post) (matched : List (Option Fed))
    → IsSlotUnder scheduler plan t posts matched → length posts ≡ ports_of plan
posts-count scheduler plan t posts matched slot = ap length slot.posts_are ∙ length-map-range_with_len (λ k. posts_under scheduler plan k t) 0 (ports_of plan)

module _ (scheduler : Scheduler) (plan : SwitchPlan) (inputs : List Input) (t : ℕ) (posts : List Post) (matched : List (Option Fed))
    (noted : HasNoted scheduler plan inputs t)
    (slot : IsSlotUnder scheduler plan t posts matched) (i : ℕ) (inside : i < ports_of plan) where
  pub post-is : (d : Post) → slice_index_or posts i d ≡ posts_under scheduler plan i t
  post-is d = ap (λ (ps : List Post). slice_index_or ps i d) slot.posts_are
      ∙ get_or-map-range_with_len (λ k. posts_under scheduler plan k t) 0 (ports_of plan) i i d inside (omega arith)

  pub row-is : (d : Post) → (slice_index_or posts i d).row ≡ row_at (card_at plan i) (parts_under scheduler plan i t) (length (parts_under scheduler plan i t))
  row-is d = ap (λ (post : Post). post.row) (post-is d) ∙ ap (row_at (card_at plan i) (parts_under scheduler plan i t)) (sym (served-length scheduler plan i t))

  pub serves : (d : Post) (part : Option Served) → part ≡ served_of matched i → IsServable (slice_index_or posts i d).row part
  serves d part is = subst (λ (post : Post). IsServable post.row part) (sym (post-is d))
      (subst (IsServable (posts_under scheduler plan i t).row) (sym is) (slot.servable i inside))

  pub ports-is : (n : ℕ) → n ≡ ports_of plan → (card_at plan i).ports ≡ n
  ports-is n is = (good-card plan noted.good i inside).ports ∙ sym is

  pub next-parts : parts_under scheduler plan i (t + 1) ≡ parts_under scheduler plan i t ++ served_of matched i ∷ []
  next-parts =
      let part = served_under scheduler (setup_for plan) (posts_under scheduler plan) i in
      served-is scheduler plan i (t + 1) ∙ map-range_with_len_more part 0 t t (omega arith)
      ∙ ap (λ parts. parts ++ part t ∷ []) (sym (served-is scheduler plan i t))
      ∙ ap (λ m. parts_under scheduler plan i t ++ served_of m i ∷ []) (sym slot.matched_is)
