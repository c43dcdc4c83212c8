-- The slots before which a run is not done.
use Rattle.std.proofs.Common.{◌≡◌, ℕ, zero, suc, ◌+◌, ◌<◌, ◌≤◌, false, refl, subst, arith, inl, inr}
use Rattle.std.proofs.lemmas.Bool.{both_ways, cases_lt}
use Rattle.crossbar.specs.declared.cards.Post.{Post as CardPost}
use Rattle.eslip_rounds.specs.Schedulers.{Scheduler}
use Rattle.slot_histories.specs.Slots.{is_done_at, is_done_before}
use Rattle.switch_plan.specs.GoodPlans.{SwitchPlan}
use Rattle.run_laws.specs.Runs.{ports_of, posts_under}
use Rattle.run_laws.specs.Ends.{IsLengthUnder}
use Rattle.run_laws.proofs.FirstDone.{not_done}
use Rattle.descriptor_runs.specs.declared.switch.Activity.{Activity}
use Rattle.descriptor_runs.specs.declared.switch.Activity.TheVariants.{Done, Idle, Busy}
use Rattle.descriptor_runs.specs.SwitchSteps.{IsActivity}

-- each is one of the run's slots
pub before-end : (scheduler : Scheduler) (plan : SwitchPlan) (slots t : ℕ) → IsLengthUnder scheduler plan slots
    → is_done_before (ports_of plan) (posts_under scheduler plan) t ≡ false → t < slots
before-end scheduler plan slots t ends going =
    elim (cases_lt t slots) [
      | inl below ↦ below
      | inr beyond ↦
          let count = ends.count in
          absurd (both_ways (is_done_at (ports_of plan) (posts_under scheduler plan) ends.last)
          (not_done (ports_of plan) (posts_under scheduler plan) t ends.last (omega arith) going) ends.done)
    ]

-- and the next is one more, where the slot is not done
pub going-on : (n : ℕ) (posts : ℕ → ℕ → CardPost) (t : ℕ) → is_done_before n posts t ≡ false → is_done_at n posts t ≡ false
    → is_done_before n posts (t + 1) ≡ false
going-on n posts t before now =
    let one : suc t ≡ t + 1 = omega arith in
    let more : is_done_before n posts (suc t) ≡ false = rw (before, now) refl in
    subst (λ k. is_done_before n posts k ≡ false) one more

-- and so are all up to a slot, where none between is done
pub going-to : (n : ℕ) (posts : ℕ → ℕ → CardPost) (t k : ℕ) → is_done_before n posts t ≡ false
    → ((s : ℕ) → t ≤ s → s < t + k → is_done_at n posts s ≡ false) → is_done_before n posts (t + k) ≡ false
going-to n posts t zero before none = let same : t ≡ t + 0 = omega arith in subst (λ u. is_done_before n posts u ≡ false) same before
going-to n posts t (suc k) before none =
    let next : t + k + 1 ≡ t + suc k = omega arith in
    subst (λ u. is_done_before n posts u ≡ false) next
    (going-on n posts (t + k) (going-to n posts t k before (λ s from until. none s from (omega arith))) (none (t + k) (omega arith) (omega arith)))

-- a slot in which not all is done is not the last
pub goes-on : (scheduler : Scheduler) (plan : SwitchPlan) (t : ℕ) (activity : Activity) → (activity ≡ Done → ⊥) → IsActivity scheduler plan t activity
    → is_done_at (ports_of plan) (posts_under scheduler plan) t ≡ false
goes-on scheduler plan t Done other is = absurd (other refl)
goes-on scheduler plan t Idle other is = is.0
goes-on scheduler plan t Busy other is = is
