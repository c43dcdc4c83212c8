use Rattle.std.proofs.Common.{arith, string_bytes}
use Rattle.std_lemmas.proofs.Appending.{one_more, all_of}
use Rattle.simulation_text.specs.Texts.{number_text}
use Rattle.simulation_text.proofs.lines.put_numbers.Goals as goal

pub loop-number-preserved : goal.loop-number-preserved
loop-number-preserved c = one_more number_text c.args.numbers.now c.loop-number.number-index _ (string_bytes c.args.text.now)
    (string_bytes c.loop-number.text) _ c.loop-number-test.true c.loop-number.invariant c.in_ok-put_number.ensures

pub returns : goal.returns
returns c = all_of number_text c.args.numbers.now c.loop-number.number-index (string_bytes c.args.text.now) (string_bytes c.loop-number.text)
    (omega arith) c.loop-number.invariant
