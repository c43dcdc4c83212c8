-- What waits came in the last slots, where no cell waits longer than these.
use Rattle.std.proofs.Common.{◌≡◌, ℕ, ◌+◌, ◌-◌, ◌<◌, ◌≤◌, arith, add-one, subst, sym}
use Rattle.std.specs.Prelude.{sum_by}
use Rattle.rotating_pick.specs.declared.limits.TheConstants.{LEVELS}
use Rattle.eslip_rounds.specs.Schedulers.{Scheduler}
use Rattle.switch_plan.specs.GoodPlans.{SwitchPlan}
use Rattle.run_laws.specs.Runs.{ports_of}
use Rattle.arrival_bounds.specs.Counts.{Counts, of_input, for_output}
use Rattle.arrival_bounds.specs.Arrivals.{arriving_at, arriving_for, arriving_in}
use Rattle.arrival_bounds.specs.Waits.{IsUnicastRun, came_under, gone_under, WaitsAtMost, QueueWaits, waiting_under, last_slots, HoldWhatComes}
use Rattle.arrival_bounds.proofs.Lines.{line-le}
use Rattle.arrival_bounds.proofs.Delays.{gone_old}
use Rattle.arrival_bounds.proofs.Coming.{queue_grows, in_grows, out_grows}
use Rattle.arrival_bounds.proofs.Holding.{held-few, both_held, both_held_for}
use Rattle.arrival_bounds.proofs.Bounds.{served}

-- by columns
abbrev turned : Counts → Counts
turned f = λ i j l t. f j i l t

upto : (t m : ℕ) → t - m + (t + 1 - (t - m)) ≡ t + 1
upto t m = omega arith

rest : (g h c old x : ℕ) → g + h ≤ c → c ≤ old + x → old ≤ g → h ≤ x
rest g h c old x p q r = omega arith

module _ (scheduler : Scheduler) (plan : SwitchPlan) (run : IsUnicastRun scheduler plan) (most : ℕ) where
  abbrev n : ℕ
  n = ports_of plan

  abbrev came : Counts
  came = came_under scheduler plan

  abbrev gone : Counts
  gone = gone_under scheduler plan

  old : (i j l t : ℕ) → QueueWaits scheduler plan i j l most → came i j l (t - most) ≤ gone i j l t
  old i j l t waits = gone_old n LEVELS most came gone (served scheduler plan run) i j l t (waits (t - most))

  pub queue_recent : (i j l t : ℕ) → i < n → QueueWaits scheduler plan i j l most
      → waiting_under scheduler plan i j l t ≤ sum_by (arriving_in plan i j l) (last_slots most t)
  queue_recent i j l t i_in waits =
      let few = subst (λ u. gone i j l t + waiting_under scheduler plan i j l t ≤ came i j l u) (sym (add-one t))
      (held-few scheduler run.scheduling plan run.good run.unicast i j l t i_in) in
      let come = subst (λ u. came i j l u ≤ came i j l (t - most) + sum_by (arriving_in plan i j l) (last_slots most t)) (upto t most)
      (queue_grows scheduler plan (t + 1 - (t - most)) i j l (t - most)) in
      rest _ _ _ _ _ few come (old i j l t waits)

  pub all_recent : WaitsAtMost scheduler plan most → HoldWhatComes scheduler plan most
  all_recent waits = record {
    queues = λ i j l t i_in j_in l_in. queue_recent i j l t i_in (λ u. waits i j l u i_in j_in l_in);
    inputs = λ i t i_in. rest _ _ _ _ _ (both_held scheduler run.scheduling plan run.good run.unicast i t i_in)
        (subst (λ u. of_input n LEVELS came i u ≤ of_input n LEVELS came i (t - most) + sum_by (arriving_at plan i) (last_slots most t))
        (upto t most) (in_grows scheduler plan (t + 1 - (t - most)) i (t - most)))
        (line-le n LEVELS came gone i (t - most) t (λ j l j_in l_in. old i j l t (λ u. waits i j l u i_in j_in l_in)));
    outputs = λ j t j_in. rest _ _ _ _ _ (both_held_for scheduler run.scheduling plan run.good run.unicast j t)
        (subst (λ u. for_output n LEVELS came j u ≤ for_output n LEVELS came j (t - most) + sum_by (arriving_for plan j) (last_slots most t))
        (upto t most) (out_grows scheduler plan (t + 1 - (t - most)) j (t - most)))
        (line-le n LEVELS (turned came) (turned gone) j (t - most) t (λ i l i_in l_in. old i j l t (λ u. waits i j l u i_in j_in l_in)));
  }
