use Rattle.std.proofs.Common.{◌≡◌, map, take}
use Rattle.clap.specs.Words.{app_of}
use Rattle.switch_words.specs.LineSteps.{option_arg, with_rules}
use Rattle.switch_words.proofs.options.with_options.Given as goal

abbrev pub invariant-loop-id : goal.invariant-loop-id
invariant-loop-id l = app_of l.line ≡ with_rules (app_of l.fn.line) (map option_arg (map (λ id. id.now) (take l.id-index l.ids)))
