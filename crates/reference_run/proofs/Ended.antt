-- At the end of a run no cell waits.
use Rattle.std.proofs.Common.{◌≡◌, ◌∙◌, ℕ, suc, ◌<◌, true, [], length, ap, subst, arith}
use Rattle.rotating_pick.specs.declared.kinds.Kind.{Kind}
use Rattle.rotating_pick.specs.declared.kinds.Kind.TheVariants.{Uni, Multi}
use Rattle.rotating_pick.specs.declared.limits.TheConstants.{LEVELS}
use Rattle.eslip_rounds.specs.Schedulers.{Scheduler, IsScheduler}
use Rattle.slot_histories.specs.Slots.{is_done_at}
use Rattle.card_core.specs.Queues.{waiting, before as queue_before}
use Rattle.switch_plan.specs.GoodPlans.{SwitchPlan, IsGood}
use Rattle.run_laws.specs.Runs.{ports_of, card_at, parts_under, posts_under}
use Rattle.run_laws.specs.Ends.{IsLengthUnder}
use Rattle.run_laws.specs.Crossings.{queue_to}
use Rattle.run_laws.proofs.Base.{good-card}
use Rattle.run_laws.proofs.Emptied.{none_waits, stays_empty, last_row}
use Rattle.output_queued.specs.Switches.{served_in, AreEmptied}
use Rattle.reference_run.specs.RunLines.{run_matches_under}
use Rattle.reference_run.proofs.Matches.{matches-long, served-run}

module _ (scheduler : Scheduler) (scheduling : IsScheduler scheduler) (plan : SwitchPlan) (good : IsGood plan) where
  queue_ends : (i j level : ℕ) (kind : Kind) (t : ℕ) → i < ports_of plan → j < ports_of plan → level < LEVELS
      → is_done_at (ports_of plan) (posts_under scheduler plan) t ≡ true
      → waiting (queue_before (card_at plan i) (queue_to j level kind) (served_in (run_matches_under scheduler plan (suc t)) i)
      (length (run_matches_under scheduler plan (suc t)))) ≡ []
  queue_ends i j level kind t inside to below done =
      let card = card_at plan i in
      let mine = good-card plan good i inside in
      let q = queue_to j level kind in
      let served = parts_under scheduler plan i (suc t) in
      let row = last_row scheduler scheduling plan good i t inside done in
      ap (λ parts. waiting (queue_before card q parts (length (run_matches_under scheduler plan (suc t))))) (served-run scheduler plan (suc t) i)
      ∙ ap (λ n. waiting (queue_before card q served n)) (matches-long scheduler plan (suc t))
      ∙ stays_empty card q j served t (none_waits card mine.good served t row j level kind (omega (arith, mine.ports, to)) below)

  ended_at : (t : ℕ) → is_done_at (ports_of plan) (posts_under scheduler plan) t ≡ true → AreEmptied plan.cards (run_matches_under scheduler plan (suc t))
  ended_at t done = record {
    unicast = λ i j level inside to below. queue_ends i j level Uni t inside to below done;
    multicast = λ i level inside below. queue_ends i i level Multi t inside inside below done;
  }

  pub run-emptied : (slots : ℕ) → IsLengthUnder scheduler plan slots → AreEmptied plan.cards (run_matches_under scheduler plan slots)
  run-emptied slots end =
      let count : suc end.last ≡ slots = omega (arith, end.count) in
      subst (λ n. AreEmptied plan.cards (run_matches_under scheduler plan n)) count (ended_at end.last end.done)
