use Rattle.random_picks.proofs.Listing.{first-is}
use Rattle.random_picks.proofs.members.first.Goals as goal

pub returns : goal.returns
returns c = first-is c.args.ports c.lowest.result c.ranges.ports.fits c.lowest.ensures.none c.lowest.ensures.member c.lowest.ensures.least
