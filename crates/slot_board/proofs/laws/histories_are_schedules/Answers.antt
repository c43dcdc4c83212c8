use Rattle.slot_board.proofs.DecidedSlots.{schedule_of_history, within_of_history, kept_of_history}
use Rattle.slot_board.proofs.laws.histories_are_schedules.Goals as goal

pub returns-clause-schedule : goal.returns-clause-schedule
returns-clause-schedule c = schedule_of_history

pub returns-clause-within : goal.returns-clause-within
returns-clause-within c = within_of_history

pub returns-clause-kept : goal.returns-clause-kept
returns-clause-kept c = kept_of_history
