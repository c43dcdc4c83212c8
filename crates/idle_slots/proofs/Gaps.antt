-- A gap of a run: its ports are served nothing in it, and its queues stay.
use Rattle.std.proofs.Common.{◌≡◌, ◌∙◌, ℕ, ◌+◌, ◌-◌, ◌<◌, ◌≤◌, List, ◌++◌, None, replicate, sym, ap, arith, append_assoc}
use Rattle.std.proofs.lemmas.List.{replicate-append-replicate}
use Rattle.card_core.specs.Plans.{Queue}
use Rattle.eslip_rounds.specs.Schedulers.{Scheduler}
use Rattle.switch_plan.specs.GoodPlans.{SwitchPlan}
use Rattle.run_laws.specs.Runs.{ports_of, parts_under}
use Rattle.idle_slots.specs.Idle.{queue_under}
use Rattle.idle_slots.specs.Skipped.{IsGap}

module _ (scheduler : Scheduler) (plan : SwitchPlan) (slot next : ℕ) (gap : IsGap scheduler plan slot next) where
  pub gap-ahead : slot ≤ next
  gap-ahead = omega (arith, gap.begins, gap.some)

  pub gap-parts : (i : ℕ) → parts_under scheduler plan i next ≡ parts_under scheduler plan i slot ++ replicate (next - slot) None
  gap-parts i =
      let first = parts_under scheduler plan i gap.before in
      let until = gap.idle.parts i slot (omega (arith, gap.begins)) gap-ahead in
      let count : next - gap.before ≡ (slot - gap.before) + (next - slot) = omega (arith, gap.begins, gap.some) in
      gap.idle.parts i next (omega (arith, gap.some)) (omega arith)
      ∙ ap (λ k. first ++ replicate k None) count
      ∙ ap (λ parts. first ++ parts) (sym (replicate-append-replicate (slot - gap.before) (next - slot) None))
      ∙ sym (append_assoc first (replicate (slot - gap.before) None) (replicate (next - slot) None))
      ∙ ap (λ parts. parts ++ replicate (next - slot) None) (sym until)

  pub gap-queues : (i : ℕ) → i < ports_of plan → (q : Queue) → queue_under scheduler plan i q next ≡ queue_under scheduler plan i q slot
  gap-queues i inside q = gap.idle.queues i next q inside gap.some (omega arith) ∙ ap (queue_under scheduler plan i q) (sym gap.begins)
