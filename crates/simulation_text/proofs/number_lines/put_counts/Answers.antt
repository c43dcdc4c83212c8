use Rattle.std.proofs.Common.{arith, string_bytes}
use Rattle.std_lemmas.proofs.Appending.{one_more, all_of}
use Rattle.simulation_text.specs.Texts.{count_line}
use Rattle.simulation_text.proofs.number_lines.put_counts.Goals as goal

pub loop-count-preserved : goal.loop-count-preserved
loop-count-preserved c = one_more count_line c.args.counts.now c.loop-count.count-index _ (string_bytes c.args.text.now)
    (string_bytes c.loop-count.text) _ c.loop-count-test.true c.loop-count.invariant c.in_ok-put_count.ensures

pub returns : goal.returns
returns c = all_of count_line c.args.counts.now c.loop-count.count-index (string_bytes c.args.text.now) (string_bytes c.loop-count.text)
    (omega arith) c.loop-count.invariant
