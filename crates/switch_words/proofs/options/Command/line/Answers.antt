use Rattle.std.proofs.Common.{◌∙◌, ap₂, List, map}
use Rattle.std.proofs.lemmas.Result.{IfOk-weaker}
use Rattle.clap.specs.Simple.{App, with_rule}
use Rattle.clap.specs.Walk.{Text}
use Rattle.switch_words.specs.LineSteps.{flag_arg, option_arg, with_rules}
use Rattle.switch_words.proofs.RuleLists.{line_is}
use Rattle.switch_words.proofs.options.Command.line.Goals as goal

pub returns : goal.returns
returns c = IfOk-weaker c.arg.result _ _ (λ line added.
    let first = c.in_ok-line.ensures
    ∙ ap₂ (λ (line : App) (ids : List Text). with_rules line (map option_arg ids)) c.bare_line.ensures c.options.ensures in
    let second = c.in_ok-line-2.ensures ∙ ap₂ (λ (line : App) (ids : List Text). with_rules line (map flag_arg ids)) first c.flags.ensures in
    added.shape c.names.ensures.local ∙ (ap₂ with_rule second c.names.ensures.rule ∙ line_is c.args.self)) c.arg.ensures
