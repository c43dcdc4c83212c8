-- What a run has done so far: the cells that crossed, the packets that were admitted and dropped, and the waits; and slots that
-- can be skipped.
use Rattle.std.specs.Prelude.{◌≡◌, ℕ, ◌+◌, ◌<◌, map}
use Rattle.eslip_rounds.specs.Schedulers.{Scheduler}
use Rattle.service_bound.specs.Waits.{noted_of, longest_wait}
use Rattle.card_core.specs.Queues.{admitted, dropped}
use Rattle.switch_plan.specs.GoodPlans.{SwitchPlan}
use Rattle.run_laws.specs.Runs.{ports_of, card_at, parts_under}
use Rattle.run_laws.specs.Crossings.{cells_under}
use Rattle.run_laws.specs.Sums.{schedule_under}
use Rattle.idle_slots.specs.Idle.{NoneArrive, AreIdle}

-- how many packets of port i were admitted in the first slots of the run
abbrev pub admitted_before : Scheduler → SwitchPlan → ℕ → ℕ → ℕ
admitted_before scheduler plan i slots = admitted (card_at plan i) (parts_under scheduler plan i slots) slots

-- and how many were dropped
abbrev pub dropped_before : Scheduler → SwitchPlan → ℕ → ℕ → ℕ
dropped_before scheduler plan i slots = dropped (card_at plan i) (parts_under scheduler plan i slots) slots

-- the longest wait of a level in the first slots
abbrev pub longest_before : Scheduler → SwitchPlan → ℕ → ℕ → ℕ
longest_before scheduler plan level slots = longest_wait (ports_of plan) level (map noted_of (schedule_under scheduler plan slots))

-- After u slots the run has done what it had done after `slots`: the same cells crossed to each output, and so the same packets
-- left it, as many packets of each port were admitted and dropped, and the longest waits are the same.
pub record AreAsAfter (scheduler : Scheduler) (plan : SwitchPlan) (slots u : ℕ) : Type 0 where
  pub cells : (j : ℕ) → cells_under scheduler plan j u ≡ cells_under scheduler plan j slots
  pub admits : (i : ℕ) → i < ports_of plan → admitted_before scheduler plan i u ≡ admitted_before scheduler plan i slots
  pub drops : (i : ℕ) → i < ports_of plan → dropped_before scheduler plan i u ≡ dropped_before scheduler plan i slots
  pub waits : (level : ℕ) → longest_before scheduler plan level u ≡ longest_before scheduler plan level slots

-- Between slot `slot` of the run and slot `next` nothing happens: no input asked for anything in the slot before them, which the
-- run has, and no packet arrives in them.
pub record IsGap (scheduler : Scheduler) (plan : SwitchPlan) (slot next : ℕ) : Type 0 where
  pub before : ℕ
  pub begins : slot ≡ before + 1
  pub some : before < next
  pub none : NoneArrive plan slot next
  pub idle : AreIdle scheduler plan before next
  pub after : AreAsAfter scheduler plan slot next
