use Rattle.forward_table.proofs.Fans.{named}
use Rattle.forward_table.proofs.laws.named_ports_are_the_members.Goals as goal

pub returns : goal.returns
returns c = named
