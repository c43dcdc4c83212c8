use Rattle.scheduler_c.proofs.Again.{AreInRange-written}
use Rattle.scheduler_c.proofs.many_slots.decide_many_by.Goals as goal

pub returns-clause-again : goal.returns-clause-again
returns-clause-again c done =
    let decided = c.decide_all.ensures in
    AreInRange-written c.args.n c.decide_all.new.p c.put_tables.new.tables decided.at_ports decided.ports c.put_tables.ensures.value
