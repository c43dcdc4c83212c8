-- A slot of a run, as it is noted.
use Rattle.std.specs.Prelude.{◌≡◌, ℕ, List, Option}
use Rattle.slot_match.specs.declared.matching.Fed.{Fed}
use Rattle.islip_rounds.specs.declared.numbers.RoundsUsed.{RoundsUsed}
use Rattle.crossbar.specs.declared.cards.Post.{Post}
use Rattle.eslip_rounds.specs.Schedulers.{Scheduler}
use Rattle.slot_histories.specs.Slots.{decision_under}
use Rattle.switch_plan.specs.GoodPlans.{SwitchPlan}
use Rattle.run_laws.specs.Runs.{setup_for, posts_under, IsSlotUnder}

-- These are the posts, the match and the numbers of slot t of the plan's run.
pub record IsRunSlot (scheduler : Scheduler) (plan : SwitchPlan) (t : ℕ) (posts : List Post) (matched : List (Option Fed)) (numbers : RoundsUsed) : Type 0 where
  pub slot : IsSlotUnder scheduler plan t posts matched
  pub numbers_are : numbers ≡ (decision_under scheduler (setup_for plan) (posts_under scheduler plan) t).numbers
