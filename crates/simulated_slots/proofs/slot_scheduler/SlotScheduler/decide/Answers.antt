use Rattle.std.proofs.Common.{◌≡◌, ◌∙◌, sym}
use Rattle.scheduler_names.specs.declared.names.SchedulerName.TheVariants.{Islip}
use Rattle.simulated_slots.proofs.slot_scheduler.SlotScheduler.decide.Goals as goal

pub returns-in-Islip-clause-decided : goal.returns-in-Islip-clause-decided
returns-in-Islip-clause-decided c =
    let named : c.args.self.now ≡ Islip = sym c.self.view_is ∙ c.in-Islip.is in
    rw named (c.decide.ensures c.args.slot)
