use Rattle.std.proofs.Common.{◌∙◌, ap₂}
use Rattle.clap.specs.Simple.{with_rule}
use Rattle.clap.specs.Words.{app_of}
use Rattle.switch_words.specs.LineSteps.{option_arg}
use Rattle.switch_words.proofs.RuleLists.{with_rules-more}
use Rattle.switch_words.proofs.options.with_options.Goals as goal

pub loop-id-preserved : goal.loop-id-preserved
loop-id-preserved c =
    c.in_ok-line.ensures.shape c.option.ensures.local
    ∙ (ap₂ with_rule c.loop-id.invariant c.option.ensures.rule
    ∙ with_rules-more option_arg (app_of c.args.line) c.args.ids.now c.loop-id.id-index _ c.loop-id-test.true)
