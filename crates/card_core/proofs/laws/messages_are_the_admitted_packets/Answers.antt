use Rattle.card_core.proofs.Messaging.{messages-are}
use Rattle.card_core.proofs.laws.messages_are_the_admitted_packets.Goals as goal

pub returns : goal.returns
returns c plan q served output t good = messages-are plan q output served t good
