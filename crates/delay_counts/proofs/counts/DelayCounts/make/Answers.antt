use Rattle.std.proofs.Common.{[], ◌∙◌, sym}
use Rattle.delay_counts.proofs.Counting.{HasCounted-none}
use Rattle.delay_counts.proofs.Numbers.{place_count-is}
use Rattle.delay_counts.proofs.counts.DelayCounts.make.Goals as goal

pub invariant_of-result : goal.invariant_of-result
invariant_of-result c =
    ([], HasCounted-none c.in_ok-no_counts.field-0.items (c.in_ok-no_counts.ensures.length ∙ sym place_count-is) c.in_ok-no_counts.ensures.none)

pub returns : goal.returns
returns c = HasCounted-none c.in_ok-no_counts.field-0.items (c.in_ok-no_counts.ensures.length ∙ sym place_count-is) c.in_ok-no_counts.ensures.none
