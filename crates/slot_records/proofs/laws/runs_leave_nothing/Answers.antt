use Rattle.slot_records.proofs.Adding.{leaves_nothing}
use Rattle.slot_records.proofs.laws.runs_leave_nothing.Goals as goal

pub returns-clause-ends : goal.returns-clause-ends
returns-clause-ends c = λ scheduler plan slots j scheduling good ends to. leaves_nothing scheduler scheduling plan good slots j ends
