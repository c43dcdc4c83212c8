use Rattle.scheduler_c.proofs.Again.{AreInRange-written}
use Rattle.scheduler_c.proofs.decisions.decide_by.Goals as goal

pub returns-clause-again : goal.returns-clause-again
returns-clause-again c done =
    let decided = c.decide_tested.ensures in
    AreInRange-written c.args.n c.decide_tested.new.p c.put_tables.new.tables decided.at_ports decided.ports c.put_tables.ensures.value
