use Rattle.std.proofs.Common.{◌≡◌, ℕ, ◌<◌, true, Some, map}
use Rattle.std.specs.Prelude.{slice_get}
use Rattle.crossbar.specs.declared.cards.Post.{Post}
use Rattle.eslip_rounds.specs.Schedulers.{Scheduler}
use Rattle.switch_plan.specs.GoodPlans.{SwitchPlan}
use Rattle.run_laws.specs.Runs.{posts_under}
use Rattle.descriptor_runs.specs.InputSteps.{row_in}
use Rattle.descriptor_runs.specs.SwitchSteps.{AreInputs, AreNames}
use Rattle.descriptor_runs.proofs.posts.put_posts.Given as goal

abbrev pub invariant-loop-place : goal.invariant-loop-place
invariant-loop-place l = (scheduler : Scheduler) (plan : SwitchPlan) (slot : ℕ) → AreInputs scheduler plan slot true l.inputs → l.rows ≡ map row_in l.inputs
    → AreNames scheduler plan slot l.names → (i : ℕ) (post : Post) → i < l.place → slice_get l.posts i ≡ Some post → post ≡ posts_under scheduler plan i slot
