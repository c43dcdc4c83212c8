-- What the scheduler of each name decides, and how its pointers move.
use Rattle.scheduler_names.specs.declared.names.SchedulerName.{SchedulerName}
use Rattle.scheduler_names.specs.declared.names.SchedulerName.TheVariants.{Islip, Firm, Rrm}
use Rattle.eslip_rounds.specs.Slots.{Moving, AreMoved}
use Rattle.eslip_rounds.specs.Schedulers.{Scheduler}
use Rattle.eslip_rounds.specs.Decisions.{decision_of}
use Rattle.firm_rounds.specs.Slots.{AreMovedByFirm}
use Rattle.firm_rounds.specs.Decisions.{firm_decision}
use Rattle.rrm_rounds.specs.Slots.{AreMovedByRrm}
use Rattle.rrm_rounds.specs.Decisions.{rrm_decision}

-- the scheduler of a name, as a function of rows and pointers
abbrev pub decision_named : SchedulerName → Scheduler
decision_named Islip = decision_of
decision_named Firm = firm_decision
decision_named Rrm = rrm_decision

-- how its pointers move
abbrev pub moves_named : SchedulerName → Moving
moves_named Islip = AreMoved
moves_named Firm = AreMovedByFirm
moves_named Rrm = AreMovedByRrm
