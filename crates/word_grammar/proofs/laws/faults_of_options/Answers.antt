use Rattle.word_grammar.proofs.Orders.{twice_is_usage}
use Rattle.word_grammar.proofs.Refusals.{unknown_is_usage}
use Rattle.word_grammar.proofs.laws.faults_of_options.Goals as goal

pub returns : goal.returns
returns c = record { twice = twice_is_usage; unknown = unknown_is_usage }
