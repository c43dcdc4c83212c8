use Rattle.card_core.proofs.Admitting.{entered-is}
use Rattle.card_core.proofs.laws.entered_are_the_admitted.Goals as goal

pub returns : goal.returns
returns c plan q served t good = entered-is plan q served good t
