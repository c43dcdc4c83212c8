-- How the reference of a plan stands after the slots that it has noted.
use Rattle.std.specs.Prelude.{◌≡◌, ℕ, List, map}
use Rattle.slot_match.specs.declared.rows.Row.{Row}
use Rattle.eslip_rounds.specs.Schedulers.{Scheduler}
use Rattle.eslip_rounds.specs.Decisions.{decision_of}
use Rattle.switch_plan.specs.GoodPlans.{SwitchPlan}
use Rattle.run_laws.specs.Runs.{ports_of, slot_under}
use Rattle.output_queued.specs.Switches.{Matched}
use Rattle.output_queued.specs.NotingSteps.{State, HasNoted}
use Rattle.reference_run.specs.Meeting.{coming_in}

-- the rows of slot t of the run, by input
abbrev pub run_rows_under : Scheduler → SwitchPlan → ℕ → List Row
run_rows_under scheduler plan t = map (λ post. post.row) (slot_under scheduler plan t).posts

abbrev pub run_rows : SwitchPlan → ℕ → List Row
run_rows = run_rows_under decision_of

-- the reference is that of the plan, and has noted these slots
pub record IsReferenceOf (plan : SwitchPlan) (reference : State) (matches : List Matched) : Type 0 where
  pub ports : reference.ports ≡ ports_of plan
  pub depth : reference.depth ≡ plan.depth
  pub coming : map (λ source. source.coming) reference.sources ≡ map coming_in plan.cards
  pub noted : HasNoted reference matches
