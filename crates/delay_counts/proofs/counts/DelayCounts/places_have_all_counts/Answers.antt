use Rattle.delay_counts.proofs.Shares.{counts_of-places}
use Rattle.delay_counts.proofs.counts.DelayCounts.places_have_all_counts.Goals as goal

pub returns : goal.returns
returns c = counts_of-places c.args.self.now
