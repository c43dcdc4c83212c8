-- The cells of a run are served as those of a switch with maximal matches.
use Rattle.std.proofs.Common.{◌≡◌, ℕ, zero, suc, ◌+◌, ◌<◌, ◌≤◌, ◌⊎◌, refl, sym, subst, arith, add-one, inl, inr}
use Rattle.std.proofs.lemmas.Bool.{cases_eq}
use Rattle.rotating_pick.specs.declared.limits.TheConstants.{LEVELS}
use Rattle.eslip_rounds.specs.Schedulers.{Scheduler}
use Rattle.card_core.specs.Plans.{OfOutput}
use Rattle.card_core.proofs.CellCounts.{granted_few}
use Rattle.switch_plan.specs.GoodPlans.{SwitchPlan}
use Rattle.run_laws.specs.Runs.{ports_of, card_at, parts_under}
use Rattle.run_laws.proofs.Base.{good-card, servable}
use Rattle.arrival_bounds.specs.Counts.{of_input, for_output, AreServed}
use Rattle.arrival_bounds.specs.Waits.{IsUnicastRun, came_under, gone_under}
use Rattle.arrival_bounds.proofs.Taking.{gone-le, slot_takes}
use Rattle.arrival_bounds.proofs.Coming.{came-more}

-- a count that falls in no slot
rising : (f : ℕ → ℕ) → ((t : ℕ) → f t ≤ f (suc t)) → (t u : ℕ) → t ≤ u → f t ≤ f u
rising f step t zero le = subst (λ v. f t ≤ f v) (none t le) (same (f t)) where
  none : (x : ℕ) → x ≤ 0 → x ≡ 0
  none x le = omega arith

  same : (x : ℕ) → x ≤ x
  same x = omega arith
rising f step t (suc u) le = elim (cases_eq t (suc u)) [
  | inl is ↦ subst (λ v. f t ≤ f v) is (same (f t))
  | inr other ↦ both (rising f step t u (below t u le other)) (step u)
] where
  same : (x : ℕ) → x ≤ x
  same x = omega arith

  below : (x y : ℕ) → x ≤ suc y → (x ≡ suc y → ⊥) → x ≤ y
  below x y le other = omega arith

  both : {x y z : ℕ} → x ≤ y → y ≤ z → x ≤ z
  both p q = omega arith

pub counts_are_served : (scheduler : Scheduler) (plan : SwitchPlan) → IsUnicastRun scheduler plan
    → AreServed (ports_of plan) LEVELS (came_under scheduler plan) (gone_under scheduler plan)
counts_are_served scheduler plan run = record {
  none = λ i j l. refl;
  comes = λ i j l t u le. rising (came_under scheduler plan i j l) (λ v. more _ _ _ (came-more scheduler plan i j l v)) t u le;
  goes = λ i j l t u le. rising (gone_under scheduler plan i j l) (gone-le scheduler plan i j l) t u le;
  few = λ i j l t i_in j_in. granted_few (card_at plan i) (good-card plan run.good i i_in).good (parts_under scheduler plan i t) (OfOutput j l) j t
      (λ u below. servable scheduler run.scheduling plan run.good i u t i_in below);
  takes = λ i j l t i_in j_in l_in left.
      subst (λ u. (of_input (ports_of plan) LEVELS (gone_under scheduler plan) i t < of_input (ports_of plan) LEVELS (gone_under scheduler plan) i u)
      ⊎ (for_output (ports_of plan) LEVELS (gone_under scheduler plan) j t < for_output (ports_of plan) LEVELS (gone_under scheduler plan) j u))
      (sym (add-one t))
      (slot_takes scheduler plan run i j l t i_in j_in l_in
      (subst (λ u. gone_under scheduler plan i j l u < came_under scheduler plan i j l u) (add-one t) left));
} where
  more : (x y z : ℕ) → x ≡ y + z → y ≤ x
  more x y z e = omega arith
