-- Within how many slots a unicast queue is served under the scheduler of a name.
use Rattle.std.proofs.Common.{◌≡◌, ◌*◌, ℕ, Some, subst}
use Rattle.std.proofs.lemmas.Option.{same_Some, none-some}
use Rattle.scheduler_names.specs.declared.names.SchedulerName.{SchedulerName}
use Rattle.scheduler_names.specs.declared.names.SchedulerName.TheVariants.{Islip, Firm, Rrm}
use Rattle.eslip_rounds.specs.Decisions.{decision_of}
use Rattle.service_bound.specs.Waits.{longest_service_by}
use Rattle.firm_rounds.specs.Decisions.{firm_decision}
use Rattle.named_schedulers.specs.Named.{decision_named}
use Rattle.switch_plan.specs.GoodPlans.{SwitchPlan}
use Rattle.run_laws.specs.Runs.{ports_of}
use Rattle.run_laws.specs.Ends.{IsLengthUnder}
use Rattle.run_laws.specs.Promises.{ServesUnder, ServesWaiting, WaitsAreShort, WaitsUnder, bound_of}
use Rattle.run_laws.specs.InTime.{ServesInTimeUnder}
use Rattle.scheduler_runs.specs.FirmRuns.{FirmPromises}
use Rattle.switch_run.specs.Causes.{bound_named, in_time_bound_named}

pub serves_named : (name : SchedulerName) (plan : SwitchPlan) (slots : ℕ) → IsLengthUnder (decision_named name) plan slots → ServesWaiting plan slots
    → (IsLengthUnder firm_decision plan slots → FirmPromises plan slots)
    → (bound : ℕ) → bound_named name plan ≡ Some bound → ServesUnder (decision_named name) plan slots bound
serves_named Islip plan slots ends serves firm bound is =
    subst (λ (b : ℕ). ServesUnder decision_of plan slots b) (same_Some (bound_of plan) bound is) serves
serves_named Firm plan slots ends serves firm bound is =
    subst (λ (b : ℕ). ServesUnder firm_decision plan slots b) (same_Some (ports_of plan * ports_of plan) bound is) (firm ends).serves
serves_named Rrm plan slots ends serves firm bound is = absurd (none-some bound is)

pub serves_in_time_named : (name : SchedulerName) (plan : SwitchPlan) (slots : ℕ) → IsLengthUnder (decision_named name) plan slots
    → (IsLengthUnder decision_of plan slots → ServesInTimeUnder decision_of plan slots (longest_service_by (ports_of plan) plan.rounds))
    → (IsLengthUnder firm_decision plan slots → FirmPromises plan slots)
    → (bound : ℕ) → in_time_bound_named name plan ≡ Some bound → ServesInTimeUnder (decision_named name) plan slots bound
serves_in_time_named Islip plan slots ends serves firm bound is =
    subst (λ (b : ℕ). ServesInTimeUnder decision_of plan slots b) (same_Some (longest_service_by (ports_of plan) plan.rounds) bound is) (serves ends)
serves_in_time_named Firm plan slots ends serves firm bound is =
    subst (λ (b : ℕ). ServesInTimeUnder firm_decision plan slots b) (same_Some (ports_of plan * ports_of plan) bound is) (firm ends).serves_in_time
serves_in_time_named Rrm plan slots ends serves firm bound is = absurd (none-some bound is)

pub waits_named : (name : SchedulerName) (plan : SwitchPlan) (slots : ℕ) → IsLengthUnder (decision_named name) plan slots → WaitsAreShort plan slots
    → (IsLengthUnder firm_decision plan slots → FirmPromises plan slots)
    → (bound : ℕ) → bound_named name plan ≡ Some bound → WaitsUnder (decision_named name) plan slots bound
waits_named Islip plan slots ends waits firm bound is =
    subst (λ (b : ℕ). WaitsUnder decision_of plan slots b) (same_Some (bound_of plan) bound is) waits
waits_named Firm plan slots ends waits firm bound is =
    subst (λ (b : ℕ). WaitsUnder firm_decision plan slots b) (same_Some (ports_of plan * ports_of plan) bound is) (firm ends).waits
waits_named Rrm plan slots ends waits firm bound is = absurd (none-some bound is)
