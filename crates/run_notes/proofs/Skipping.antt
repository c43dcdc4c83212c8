-- The notes of a run that go on over slots in which nothing happens.
use Rattle.std.proofs.Common.{◌≤◌, ℕ, Bool, Option, None, Some, arith}
use Rattle.eslip_rounds.specs.Schedulers.{Scheduler}
use Rattle.switch_plan.specs.GoodPlans.{SwitchPlan}
use Rattle.idle_slots.specs.Skipped.{IsGap}
use Rattle.run_notes.specs.NotingSteps.{IsKept}

-- what is kept and goes on to hold
pub kept_on : {X : Type 0} (is_wanted : Bool) (P Q : X → Type 0) (x : Option X) → ((y : X) → P y → Q y) → IsKept is_wanted P x → IsKept is_wanted Q x
kept_on is_wanted P Q None on kept = record { there = kept.there; holds = tt }
kept_on is_wanted P Q (Some x) on kept = record { there = kept.there; holds = on x kept.holds }

-- a gap ends after it begins
pub gap_ahead : (scheduler : Scheduler) (plan : SwitchPlan) (slot next : ℕ) → IsGap scheduler plan slot next → slot ≤ next
gap_ahead scheduler plan slot next gap = omega (arith, gap.begins, gap.some)
