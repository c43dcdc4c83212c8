-- Slots of a run in which no input asks for anything, and in which no packet arrives.
use Rattle.std.specs.Prelude.{◌≡◌, ℕ, ◌+◌, ◌-◌, ◌<◌, ◌≤◌, ◌⊎◌, ◌++◌, All, None, replicate}
use Rattle.eslip_rounds.specs.Schedulers.{Scheduler}
use Rattle.card_core.specs.Plans.{Queue}
use Rattle.card_core.specs.Queues.{Passed, before}
use Rattle.switch_plan.specs.GoodPlans.{SwitchPlan}
use Rattle.run_laws.specs.Runs.{ports_of, card_at, rows_in, decision_in, before_under, parts_under, posts_under}
use Rattle.idle_slots.specs.Quiet.{empty_rows, nothing_decided}

-- in slot t of the run no input asks for an output
abbrev pub IsIdle : Scheduler → SwitchPlan → ℕ → Type 0
IsIdle scheduler plan t = rows_in plan (before_under scheduler plan t) t ≡ empty_rows (ports_of plan)

-- no packet arrives in slot t or in a later one before slot u
abbrev pub NoneArrive : SwitchPlan → ℕ → ℕ → Type 0
NoneArrive plan t u = (i : ℕ) → i < ports_of plan → All (λ packet. (packet.arrival < t) ⊎ (u ≤ packet.arrival)) (card_at plan i).packets

-- a queue of port i before slot t of the run: which cells entered it and how many of them left
abbrev pub queue_under : Scheduler → SwitchPlan → ℕ → Queue → ℕ → Passed
queue_under scheduler plan i q t = before (card_at plan i) q (parts_under scheduler plan i t) t

-- Nothing happens in slot t and in the later ones before slot u: no input asks, nothing is matched, the pointers stay, no
-- port is served and no queue changes. The cells that slot t - 1 granted still cross in slot t, and none after them.
pub record AreIdle (scheduler : Scheduler) (plan : SwitchPlan) (t u : ℕ) : Type 0 where
  pub rows : (s : ℕ) → t ≤ s → s < u → IsIdle scheduler plan s
  pub decisions : (s : ℕ) → t ≤ s → s < u
      → decision_in scheduler plan (before_under scheduler plan s) s ≡ nothing_decided (ports_of plan) (before_under scheduler plan t).places
  pub pointers : (s : ℕ) → t ≤ s → s ≤ u → (before_under scheduler plan s).places ≡ (before_under scheduler plan t).places
  pub parts : (i s : ℕ) → t ≤ s → s ≤ u → parts_under scheduler plan i s ≡ parts_under scheduler plan i t ++ replicate (s - t) None
  pub cells : (i s : ℕ) → t < s → s ≤ u → (posts_under scheduler plan i s).cell ≡ None
  pub queues : (i s : ℕ) (q : Queue) → i < ports_of plan → t < s → s ≤ u → queue_under scheduler plan i q s ≡ queue_under scheduler plan i q (t + 1)
