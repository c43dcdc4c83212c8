use Rattle.scheduler_laws.proofs.LoadedTurns.{served_each_turn}
use Rattle.scheduler_laws.proofs.full_load.full_load_is_served_in_turn.Goals as goal

pub returns : goal.returns
returns c = λ n rounds t level i j k places slots some i_in j_in loaded late long. served_each_turn n rounds level i j i_in j_in k t places slots some loaded
    late long
