use Rattle.word_grammar.proofs.Orders.{in_any_order}
use Rattle.word_grammar.proofs.laws.options_stand_in_any_order.Goals as goal

pub returns : goal.returns
returns c = in_any_order
