use Rattle.std.proofs.Common.{arith}
use Rattle.std.proofs.lemmas.Grind.{common_steps}
use Rattle.islip_rounds.proofs.Lasts.{last_of-append}
use Rattle.islip_rounds.proofs.numbers.RoundsUsed.after_round.Goals as goal

pub returns-then-used-rounds-clause-numbers : goal.returns-then-used-rounds-clause-numbers
returns-then-used-rounds-clause-numbers c each long was = grind (arith, common_steps, last_of-append 0 c.args.added each)
