use Rattle.std.proofs.Common.{◌≡◌, drop, map}
use Rattle.command_words.specs.PartsSteps.{setting_of, text_among}
use Rattle.command_words.proofs.parts.text_among.Given as goal

abbrev pub invariant-loop-name : goal.invariant-loop-name
invariant-loop-name l = text_among (map setting_of (drop l.name-index l.settings)) l.option ≡ text_among (map setting_of l.settings) l.option
