use Rattle.std.proofs.Common.{sym}
use Rattle.random_picks.proofs.Listing.{length-members}
use Rattle.random_picks.proofs.members.count.Goals as goal

pub returns-clause-value : goal.returns-clause-value
returns-clause-value c = sym (length-members c.args.ports c.ranges.ports.fits)
