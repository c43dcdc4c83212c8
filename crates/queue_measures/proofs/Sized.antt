-- The sizing theorem.
use Rattle.std.proofs.Common.{◌≡◌, ℕ, ◌<◌, ◌≤◌, subst, arith}
use Rattle.card_core.specs.Plans.{Queue}
use Rattle.eslip_rounds.specs.Schedulers.{Scheduler}
use Rattle.queue_lengths.specs.Lengths.{length_in}
use Rattle.switch_plan.specs.GoodPlans.{SwitchPlan, IsGood}
use Rattle.run_laws.specs.Runs.{ports_of, card_at, parts_under}
use Rattle.run_laws.specs.Ends.{IsLengthUnder}
use Rattle.run_laws.proofs.Base.{good-card}
use Rattle.run_laws.proofs.FirstDone.{one_length}
use Rattle.queue_measures.specs.Sizing.{with_depth, deepest_under, DropsNothing, IsSized}
use Rattle.queue_lengths.proofs.Lengths.{in_few}
use Rattle.queue_measures.proofs.Deepest.{deepest_within}
use Rattle.queue_measures.proofs.Depths.{IsGood-depth, own_depth_again}
use Rattle.queue_measures.proofs.SameRuns.{IsSameRun-depth, DropsNothing-depth, deepest_run}

module _ (scheduler : Scheduler) where
  -- no queue of a run is longer than the depth
  length_few : (plan : SwitchPlan) → IsGood plan → (slots i : ℕ) (q : Queue) (t : ℕ) → i < ports_of plan
      → length_in (card_at plan i) q (parts_under scheduler plan i slots) t ≤ plan.depth
  length_few plan good slots i q t inside =
      let is = good-card plan good i inside in
      let few = in_few (card_at plan i) q is.good (parts_under scheduler plan i slots) t in
      let depth = is.depth in
      omega (arith, few, depth)

  deepest_few : (plan : SwitchPlan) → IsGood plan → (slots : ℕ) → deepest_under scheduler plan slots ≤ plan.depth
  deepest_few plan good slots = deepest_within scheduler plan slots plan.depth (λ i q t inside below. length_few plan good slots i q t inside)

  module _ (plan : SwitchPlan) (good : IsGood plan) (slots : ℕ) (ends : IsLengthUnder scheduler plan slots) where
    -- where the run with a smaller depth dropped nothing, no queue would be longer than that in either
    not_fewer : (depth more : ℕ) → 0 < depth → depth < deepest_under scheduler plan slots → IsLengthUnder scheduler (with_depth depth plan) more
        → DropsNothing scheduler (with_depth depth plan) more → ⊥
    not_fewer depth more some fewer ends_other none_other =
        let deep = deepest_few plan good slots in
        let other : SwitchPlan = with_depth depth plan in
        let other_good : IsGood other = IsGood-depth depth plan good some in
        let shallow : deepest_under scheduler other more ≤ plan.depth = omega (arith, deepest_few other other_good more, fewer, deep) in
        let again : with_depth plan.depth other ≡ plan = own_depth_again depth plan good in
        let same = IsSameRun-depth scheduler other other_good more plan.depth none_other shallow in
        let ends_again : IsLengthUnder scheduler plan more = subst (λ p. IsLengthUnder scheduler p more) again (same.ends ends_other) in
        let one : more ≡ slots = one_length scheduler plan more slots ends_again ends in
        let no_deeper : deepest_under scheduler (with_depth plan.depth other) more ≤ depth =
        deepest_run scheduler other other_good more plan.depth none_other shallow depth (λ i q t inside below. length_few other other_good more i q t inside) in
        let no_deeper_plan : deepest_under scheduler plan more ≤ depth = subst (λ p. deepest_under scheduler p more ≤ depth) again no_deeper in
        let no_deeper_slots : deepest_under scheduler plan slots ≤ depth = subst (λ k. deepest_under scheduler plan k ≤ depth) one no_deeper_plan in
        omega (arith, no_deeper_slots, fewer)

    pub IsSized-run : IsSized scheduler plan slots
    IsSized-run = record {
      enough = λ none depth some few. (
        DropsNothing-depth scheduler plan good slots depth none few,
        IsSameRun-depth scheduler plan good slots depth none few,
      );
      less = λ none. not_fewer;
    }
