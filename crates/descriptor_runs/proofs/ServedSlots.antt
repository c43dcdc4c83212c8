-- What the outputs of a switch have after a slot that is decided, when they are fed.
use Rattle.std.proofs.Common.{◌≡◌, ◌∙◌, ℕ, ◌+◌, List, length, sym, ap, subst, arith}
use Rattle.std.specs.Vec.{with_items}
use Rattle.std_lemmas.proofs.Lists.{whole_back}
use Rattle.eslip_rounds.specs.Schedulers.{Scheduler}
use Rattle.switch_plan.specs.GoodPlans.{SwitchPlan}
use Rattle.descriptor_runs.specs.declared.switch.Switch.{Switch}
use Rattle.descriptor_runs.specs.OutputSteps.{OutputValue}
use Rattle.descriptor_runs.specs.SwitchSteps.{AreOutputs, IsDecided}

-- they were given so, and are these when they are fed
module _ (scheduler : Scheduler) (plan : SwitchPlan) (t : ℕ) (switch : Switch) (is : IsDecided scheduler plan t switch)
    (given : List OutputValue) (same : given ≡ switch.outputs.items) where
  pub outputs-given : AreOutputs scheduler plan (t + 1) given
  outputs-given = subst (AreOutputs scheduler plan (t + 1)) (sym same) is.outputs

  pub outputs-fed : (outputs : List OutputValue) → length outputs ≡ length given → AreOutputs scheduler plan (t + 2) outputs
      → AreOutputs scheduler plan (t + 1 + 1) (with_items switch.outputs outputs).items
  outputs-fed outputs long fed =
      let two : t + 2 ≡ t + 1 + 1 = omega arith in
      subst (λ slots. AreOutputs scheduler plan slots (with_items switch.outputs outputs).items) two
      (subst (AreOutputs scheduler plan (t + 2))
      (sym (whole_back switch.outputs.len outputs switch.outputs.items switch.outputs.ok.0 (long ∙ ap length same))) fed)
