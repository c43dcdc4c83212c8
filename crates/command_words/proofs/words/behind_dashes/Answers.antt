use Rattle.std.proofs.Common.{◌∙◌, None, lit<, sym}
use Rattle.std.proofs.lemmas.Str.Pattern.{split_once_first}
use Rattle.command_words.proofs.Lexing.{behind_dashes-name}
use Rattle.command_words.proofs.words.behind_dashes.Goals as goal

pub returns-in-None : goal.returns-in-None
returns-in-None c = behind_dashes-name c.args.text.now (sym c.is_empty.ensures ∙ c.if-is_empty.false)
    (split_once_first 61 c.args.text.now None c.in-None.ensures.cases (lit< tt))
