-- What is promised of a run of any length: within how many slots, or before its end, a queue is served. What ends in
-- `Under` says it of any scheduler.
use Rattle.std.specs.Prelude.{ℕ, ◌*◌, ◌<◌, All, Any, take, drop}
use Rattle.rotating_pick.specs.declared.kinds.Kind.TheVariants.{Uni, Multi}
use Rattle.rotating_pick.specs.declared.limits.TheConstants.{LEVELS}
use Rattle.slot_match.specs.Rows.{Names, HasHead}
use Rattle.slot_match.specs.Matches.{Serves, Completes}
use Rattle.service_bound.specs.Windows.{IsClean, IsQuietFor}
use Rattle.eslip_rounds.specs.Schedulers.{Scheduler}
use Rattle.switch_plan.specs.GoodPlans.{SwitchPlan}
use Rattle.run_laws.specs.Runs.{ports_of, posts_under}
use Rattle.run_laws.specs.Sums.{schedule_under}

-- A unicast queue that is posted in a slot is served in it or after it, in one of the next slots of this number and before
-- the end of the run. In these its output is asked as unicast of the level alone, by inputs that ask nothing better.
abbrev pub ServesInTimeUnder : Scheduler → SwitchPlan → ℕ → ℕ → Type 0
ServesInTimeUnder scheduler plan slots bound = (first level i j : ℕ) → level < LEVELS → i < ports_of plan → first < slots
    → All (λ slot. IsQuietFor (ports_of plan) level j slot.rows) (take bound (drop first (schedule_under scheduler plan slots)))
    → Names (posts_under scheduler plan i first).row level Uni j
    → Any (λ slot. Serves slot.decision.matched i j level Uni) (take bound (drop first (schedule_under scheduler plan slots)))

-- A multicast head that is posted in a slot completes in it or after it, in one of as many slots as twice the number of
-- ports and before the end of the run. In these nothing of a better level is posted.
abbrev pub CompletesInTimeUnder : Scheduler → SwitchPlan → ℕ → Type 0
CompletesInTimeUnder scheduler plan slots = (first level i j : ℕ) → level < LEVELS → i < ports_of plan → first < slots
    → All (λ slot. IsClean (ports_of plan) level slot.rows) (take (2 * ports_of plan) (drop first (schedule_under scheduler plan slots)))
    → Names (posts_under scheduler plan i first).row level Multi j
    → Any (λ slot. HasHead slot.rows level i × Completes slot.rows slot.decision.matched level i)
    (take (2 * ports_of plan) (drop first (schedule_under scheduler plan slots)))
