use Rattle.std.proofs.Common.{◌∙◌}
use Rattle.command_words.proofs.Lookups.{any_now}
use Rattle.command_words.proofs.options.is_among.Goals as goal

pub returns : goal.returns
returns c = c.contains.ensures.value ∙ any_now c.args.names.now c.args.name.now
