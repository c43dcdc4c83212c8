use Rattle.std.proofs.Common.{◌∙◌}
use Rattle.clap.specs.Matches.{found_of}
use Rattle.switch_words.proofs.Rows.{first_text-is}
use Rattle.switch_words.proofs.reader.text.Goals as goal

pub returns : goal.returns
returns c = c.get_str.ensures ∙ first_text-is (found_of c.args.matches.now) c.args.id.now
