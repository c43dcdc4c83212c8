use Rattle.scheduler_laws.proofs.Synchronised.{turned, stay_together, stay_apart}
use Rattle.scheduler_laws.proofs.round_robin.rrm_pointers_turn.Goals as goal

pub returns-clause-turn : goal.returns-clause-turn
returns-clause-turn c n rounds t level j places slot slots some j_in loaded = turned n rounds t level some places slot slots loaded j j_in

pub returns-clause-together : goal.returns-clause-together
returns-clause-together c n rounds t level j k places slots some j_in k_in = stay_together n rounds level some j k j_in k_in t places slots

pub returns-clause-apart : goal.returns-clause-apart
returns-clause-apart c n rounds t level j k places slots some j_in k_in = stay_apart n rounds level some j k j_in k_in t places slots
