use Rattle.output_queued.proofs.Switching.{cards-good}
use Rattle.output_queued.proofs.laws.inputs_are_cards.Goals as goal

pub returns : goal.returns
returns c ports depth inputs is = cards-good ports depth inputs is
