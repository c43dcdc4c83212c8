use Rattle.std.proofs.Common.{arith}
use Rattle.random_picks.proofs.Rounding.{round-is}
use Rattle.random_picks.proofs.picks.RandomPicks.round.Goals as goal

pub offered_by-offered-requires-clause-inputs : goal.offered_by-offered-requires-clause-inputs
offered_by-offered-requires-clause-inputs c = λ i j is.
    let p = c.pick_each-granted.ensures.members j i is in
    let q = (c.asked_by-asked.ensures j i p.0).0 p.1 in
    omega (arith, q.2, c.requires.size)

pub feed-requires-clause-free : goal.feed-requires-clause-free
feed-requires-clause-free c = λ i j is.
    let p = c.pick_each-granted.ensures.members j i is in
    let q = (c.asked_by-asked.ensures j i p.0).0 p.1 in
    (q.2, q.1, q.0)

pub returns-clause-round : goal.returns-clause-round
returns-clause-round c = λ rows are. round-is c.args.n rows (record { matched = c.args.out.now; stream = c.args.self.now }) c.args.columns.now
    c.asked_by-asked.result c.pick_each-granted.result c.offered_by-offered.result c.pick_each-accepted.result c.pick_each-granted.new.self
    c.pick_each-accepted.new.self c.feed.new.out
    (record {
      size = c.requires.size;
      whole = c.requires.whole;
      columns_are = are;
      asked_are = c.asked_by-asked.ensures;
      granted_are = c.pick_each-granted.ensures.picks;
      granting = c.pick_each-granted.ensures.stream;
      members_are = c.pick_each-granted.ensures.members;
      offered_are = c.offered_by-offered.ensures;
      accepted_are = c.pick_each-accepted.ensures.picks;
      accepting = c.pick_each-accepted.ensures.stream;
      count = c.feed.ensures.whole.count;
      fed = c.feed.ensures.fed;
    })
