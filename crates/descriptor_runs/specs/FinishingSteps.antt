-- Steps of proofs: what the summary of a run is made of.
use Rattle.std.specs.Prelude.{◌≡◌, length, sum_by}
use Rattle.slot_report.specs.declared.summary.OutLine.{OutLine}
use Rattle.switch_plan.specs.GoodPlans.{SwitchPlan, packets_in}
use Rattle.descriptor_runs.specs.OutputSteps.{OutputValue}
use Rattle.descriptor_runs.specs.declared.ends.PlanNumbers.{PlanNumbers}

-- These are the numbers of the plan that the summary of its run tells.
pub record ArePlanNumbers (plan : SwitchPlan) (numbers : PlanNumbers) : Type 0 where
  pub depth : numbers.depth ≡ plan.depth
  pub packets : numbers.packets ≡ sum_by length (packets_in plan)
  pub oversize : numbers.oversize ≡ plan.oversize
  pub unrouted : numbers.unrouted ≡ plan.unrouted

-- how much came to an output
abbrev pub line_of : OutputValue → OutLine
line_of output = record { packets = output.packets; cells = output.cells }
