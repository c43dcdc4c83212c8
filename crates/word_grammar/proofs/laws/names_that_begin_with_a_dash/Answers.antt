use Rattle.word_grammar.proofs.Dashes.{any_file, behind_dashes, dash_file}
use Rattle.word_grammar.proofs.laws.names_that_begin_with_a_dash.Goals as goal

pub returns : goal.returns
returns c = record { behind = behind_dashes; file = any_file; dash = dash_file }
