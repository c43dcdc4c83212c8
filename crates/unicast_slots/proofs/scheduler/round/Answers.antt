use Rattle.unicast_slots.proofs.Granting.{AreOpen-granted}
use Rattle.unicast_slots.proofs.Rounding.{IsRound-taken}
use Rattle.unicast_slots.proofs.scheduler.round.Goals as goal

pub accept_all-requires-clause-open : goal.accept_all-requires-clause-open
accept_all-requires-clause-open c =
    AreOpen-granted c.args.n c.args.rows.now c.args.p.now c.args.out.now c.grant_all.new.offers c.requires.at_ports c.requires.ports c.grant_all.ensures

pub returns-clause-round : goal.returns-clause-round
returns-clause-round c t =
    IsRound-taken c.args.n t c.args.rows.now c.args.p.now c.requires.unicast c.args.out.now c.grant_all.new.offers c.grant_all.ensures c.accept_all.new.out
    c.accept_all.ensures.whole.count c.accept_all.ensures.pairs
