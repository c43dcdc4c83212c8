use Rattle.eslip_rounds.specs.Slots.{AreMoved}
use Rattle.eslip_rounds.specs.Schedulers.{StayAtPorts}
use Rattle.eslip_rounds.specs.Decisions.{decision_of}
use Rattle.eslip_rounds.proofs.Scheduling.{IsSchedulerBy-decision_of, IsScheduler-decision_of}
use Rattle.firm_rounds.specs.Slots.{AreMovedByFirm}
use Rattle.firm_rounds.specs.Decisions.{firm_decision}
use Rattle.rrm_rounds.specs.Slots.{AreMovedByRrm}
use Rattle.rrm_rounds.specs.Decisions.{rrm_decision}
use Rattle.rrm_rounds.proofs.Scheduling.{IsSchedulerBy-rrm_decision, IsScheduler-rrm_decision}
use Rattle.named_schedulers.proofs.FirmScheduler.{IsSchedulerBy-firm_decision, IsScheduler-firm_decision}
use Rattle.journal_check.proofs.Scheduling.{file_schedule, file_kept, file_all_within, file_matches}
use Rattle.journal_check.proofs.laws.lawful_files_are_schedules.Goals as goal

pub returns-clause-schedule : goal.returns-clause-schedule
returns-clause-schedule c file good lawful = file_schedule decision_of IsScheduler-decision_of file good lawful AreMoved IsSchedulerBy-decision_of

pub returns-clause-by_firm : goal.returns-clause-by_firm
returns-clause-by_firm c file good lawful = file_schedule firm_decision IsScheduler-firm_decision file good lawful AreMovedByFirm IsSchedulerBy-firm_decision

pub returns-clause-by_rrm : goal.returns-clause-by_rrm
returns-clause-by_rrm c file good lawful = file_schedule rrm_decision IsScheduler-rrm_decision file good lawful AreMovedByRrm IsSchedulerBy-rrm_decision

pub returns-clause-by_any : goal.returns-clause-by_any
returns-clause-by_any c scheduler file scheduling good lawful = file_schedule scheduler scheduling file good lawful StayAtPorts scheduling

pub returns-clause-within : goal.returns-clause-within
returns-clause-within c scheduler file good = file_all_within scheduler file good

pub returns-clause-kept : goal.returns-clause-kept
returns-clause-kept c scheduler file scheduling good lawful = file_kept scheduler scheduling file good lawful

pub returns-clause-matches : goal.returns-clause-matches
returns-clause-matches c scheduler file lawful = file_matches scheduler file lawful
