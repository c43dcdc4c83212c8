-- Where a run ends.
use Rattle.std.specs.Prelude.{◌≡◌, ℕ, ◌+◌, true, false}
use Rattle.eslip_rounds.specs.Schedulers.{Scheduler}
use Rattle.eslip_rounds.specs.Decisions.{decision_of}
use Rattle.slot_histories.specs.Slots.{is_done_at, is_done_before}
use Rattle.switch_plan.specs.GoodPlans.{SwitchPlan}
use Rattle.run_laws.specs.Runs.{ports_of, posts_under}

-- The run under the scheduler has this many slots: in the last one no port has more to come, and it is the first such
-- slot.
pub record IsLengthUnder (scheduler : Scheduler) (plan : SwitchPlan) (slots : ℕ) : Type 0 where
  pub last : ℕ
  pub count : slots ≡ last + 1
  pub done : is_done_at (ports_of plan) (posts_under scheduler plan) last ≡ true
  pub going : is_done_before (ports_of plan) (posts_under scheduler plan) last ≡ false

abbrev pub IsLength : SwitchPlan → ℕ → Type 0
IsLength = IsLengthUnder decision_of
