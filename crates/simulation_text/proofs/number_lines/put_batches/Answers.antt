use Rattle.std.proofs.Common.{arith, string_bytes}
use Rattle.simulation_text.specs.Texts.{batch_line}
use Rattle.simulation_text.proofs.Placing.{place_more, places_all}
use Rattle.simulation_text.proofs.number_lines.put_batches.Goals as goal

pub loop-number-preserved : goal.loop-number-preserved
loop-number-preserved c = place_more batch_line c.args.batches.now c.loop-number.number _ (string_bytes c.args.text.now) (string_bytes c.loop-number.text) _
    (omega arith) c.loop-number.invariant c.in_ok-put_batch.ensures

pub returns : goal.returns
returns c = places_all batch_line c.args.batches.now c.loop-number.number (string_bytes c.args.text.now) (string_bytes c.loop-number.text)
    (omega arith) c.loop-number.invariant
