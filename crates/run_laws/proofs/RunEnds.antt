-- A run ends: from the last arrival on each slot that is not done grants a cell, and no more are granted than were admitted.
use Rattle.std.proofs.Common.{◌≡◌, ℕ, zero, suc, ◌+◌, ◌-◌, ◌<◌, ◌≤◌, false, refl, ap, subst, arith, inl, inr}
use Rattle.std.proofs.lemmas.Bool.{cases_lt, cases_Bool}
use Rattle.eslip_rounds.specs.Schedulers.{Scheduler, IsScheduler}
use Rattle.slot_histories.specs.Slots.{is_done_at, is_done_before}
use Rattle.switch_plan.specs.Totals.{greatest_slots, total_work}
use Rattle.switch_plan.specs.GoodPlans.{SwitchPlan, IsGood, packets_in}
use Rattle.run_laws.specs.Runs.{ports_of, posts_under}
use Rattle.run_laws.specs.Ends.{IsLengthUnder}
use Rattle.run_laws.specs.Sums.{total_under}
use Rattle.run_laws.proofs.FirstDone.{not_done, first_done}
use Rattle.run_laws.proofs.BusySlots.{going_matches}
use Rattle.run_laws.proofs.RunWork.{all_grants, all_grants-le, pair_grants, all_grants-few, total_admitted-le}

module _ (scheduler : Scheduler) (scheduling : IsScheduler scheduler) (plan : SwitchPlan) (good : IsGood plan) where
  -- so many slots after the last arrival that are not done grant a cell each
  going_grants : (k : ℕ) → ((u : ℕ) → u < greatest_slots (packets_in plan) + k → is_done_at (ports_of plan) (posts_under scheduler plan) u ≡ false)
      → k ≤ all_grants scheduler plan (greatest_slots (packets_in plan) + k)
  going_grants zero going = omega arith
  going_grants (suc k) going =
      let last = greatest_slots (packets_in plan) + k in
      let next : suc last ≡ greatest_slots (packets_in plan) + suc k = omega arith in
      let before = going_grants k (λ u below. going u (omega arith)) in
      let pair = going_matches scheduler scheduling plan good last (omega arith) (going last (omega arith)) in
      let one = pair_grants scheduler scheduling plan good last pair.0 pair.1 pair.2 pair.3 pair.4 in
      subst (λ t. suc k ≤ all_grants scheduler plan t) next (omega arith)

  pub run_bound : (slots : ℕ) → IsLengthUnder scheduler plan slots → slots ≤ greatest_slots (packets_in plan) + total_under scheduler plan slots + 1
  run_bound slots ends =
      let first = greatest_slots (packets_in plan) in
      let count = ends.count in
      elim (cases_lt ends.last first) [
        | inl early ↦ omega arith
        | inr late ↦
            let k = ends.last - first in
            let whole : first + k ≡ ends.last = omega arith in
            let slots_are : suc ends.last ≡ slots = omega arith in
            let grants = going_grants k (λ u below. not_done (ports_of plan) (posts_under scheduler plan) ends.last u (omega arith) ends.going) in
            let grants' : k ≤ all_grants scheduler plan ends.last = subst (λ t. k ≤ all_grants scheduler plan t) whole grants in
            let more = all_grants-le scheduler plan ends.last in
            let few = all_grants-few scheduler scheduling plan good (suc ends.last) in
            let same = ap (total_under scheduler plan) slots_are in
            omega arith
      ]

  pub run_ends : (slots : ℕ) × IsLengthUnder scheduler plan slots × (slots ≤ plan.max_slots)
  run_ends =
      let n = ports_of plan in
      let most = total_work (packets_in plan) + 1 in
      let bound = greatest_slots (packets_in plan) + most in
      let limit = good.max_slots in
      elim (cases_Bool (is_done_before n (posts_under scheduler plan) bound)) [
        | inl done ↦
            let first = first_done n (posts_under scheduler plan) bound done in
            (first.0 + 1, record { last = first.0; count = refl; done = first.2; going = first.3 }, omega arith)
        | inr going ↦
            let grants = going_grants most (λ u below. not_done n (posts_under scheduler plan) bound u below going) in
            let few = all_grants-few scheduler scheduling plan good bound in
            let all = total_admitted-le scheduler plan bound in
            absurd (omega arith)
      ]
