use Rattle.std.proofs.Common.{◌∙◌}
use Rattle.scheduler_c.proofs.decisions.decide_slot.Goals as goal

pub returns-in-Islip-clause-slot : goal.returns-in-Islip-clause-slot
returns-in-Islip-clause-slot c = rw c.in-Islip.is c.decide_in.ensures.slot

pub returns-in-Islip-clause-ports : goal.returns-in-Islip-clause-ports
returns-in-Islip-clause-ports c = c.decide_in.ensures.slot.moved.ports ∙ c.requires.pointers

pub returns-in-Firm-clause-slot : goal.returns-in-Firm-clause-slot
returns-in-Firm-clause-slot c = rw c.in-Firm.is c.decide_firm_in.ensures.slot

pub returns-in-Firm-clause-ports : goal.returns-in-Firm-clause-ports
returns-in-Firm-clause-ports c = c.decide_firm_in.ensures.slot.moved.ports ∙ c.requires.pointers

pub returns-in-Rrm-clause-slot : goal.returns-in-Rrm-clause-slot
returns-in-Rrm-clause-slot c = rw c.in-Rrm.is c.decide_rrm_in.ensures.slot

pub returns-in-Rrm-clause-ports : goal.returns-in-Rrm-clause-ports
returns-in-Rrm-clause-ports c = c.decide_rrm_in.ensures.slot.moved.ports ∙ c.requires.pointers
