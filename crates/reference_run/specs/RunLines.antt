-- The run of a plan against the ideal switch: the last lines of its report. What ends in `under` is of any
-- scheduler.
use Rattle.std.specs.Prelude.{ℕ, List, map}
use Rattle.eslip_rounds.specs.Schedulers.{Scheduler}
use Rattle.switch_plan.specs.GoodPlans.{SwitchPlan}
use Rattle.run_laws.specs.Runs.{journal_under}
use Rattle.output_queued.specs.Switches.{Matched}
use Rattle.output_queued.specs.Lines.{lines_of}
use Rattle.output_queued.specs.Texts.{reference_lines}

-- the matches of the first slots of the run
abbrev pub run_matches_under : Scheduler → SwitchPlan → ℕ → List Matched
run_matches_under scheduler plan slots = map (λ slot. slot.matched) (journal_under scheduler plan slots)

-- a line for each output, over the first slots of the run
unfoldable pub run_lines_under : Scheduler → SwitchPlan → ℕ → List (List (List ℕ))
run_lines_under scheduler plan slots = reference_lines (lines_of plan.cards (run_matches_under scheduler plan slots))
