use Rattle.std.proofs.Common.{◌∙◌}
use Rattle.std.proofs.lemmas.Result.{IfOk-weaker, err_from_is_err_and}
use Rattle.command_words.proofs.Steps.{next_is_read, next_is_refused, none_is_left}
use Rattle.command_words.proofs.reader.parts_of.Goals as goal

pub returns-in_err-read-clause-usage : goal.returns-in_err-read-clause-usage
returns-in_err-read-clause-usage c = λ is.
    let error = err_from_is_err_and c.from_residual.result c.from_residual.ensures.1 in
    next_is_refused c.args.names.now c.loop-word.reader c.args.words.now c.loop-word.word-index c.word-item.result c.as_str.result.now _
    c.loop-word-test.true c.word-item.is c.as_str.ensures.value (c.in_err-read.ensures.refused (cc)) c.loop-word.invariant

pub loop-word-preserved : goal.loop-word-preserved
loop-word-preserved c = next_is_read c.args.names.now c.loop-word.reader c.read.new.self c.args.words.now c.loop-word.word-index c.word-item.result
    c.as_str.result.now _ c.loop-word-test.true c.word-item.is c.as_str.ensures.value c.in_ok-read.ensures.read c.loop-word.invariant

pub returns-clause-parts : goal.returns-clause-parts
returns-clause-parts c = IfOk-weaker c.finish.result _ _
    (λ parts is. none_is_left c.args.names.now c.loop-word.reader c.args.words.now c.loop-word.word-index _ c.loop-word-test.false c.loop-word.invariant ∙ is)
    c.finish.ensures.parts

pub returns-clause-usage : goal.returns-clause-usage
returns-clause-usage c = λ is.
    none_is_left c.args.names.now c.loop-word.reader c.args.words.now c.loop-word.word-index _ c.loop-word-test.false c.loop-word.invariant
    ∙ c.finish.ensures.usage is
