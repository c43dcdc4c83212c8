use Rattle.std.proofs.Common.{◌∙◌, ap, sym}
use Rattle.std.specs.Prelude.{slice_get}
use Rattle.card_worker.proofs.tests.groups.finish.Goals as goal

pub close_with-state-requires-clause-seats : goal.close_with-state-requires-clause-seats
close_with-state-requires-clause-seats c =
    (c.disbanded_groups_agree.ensures.seats c.args.board c.args.groups.items c.disband-seats.result.0.items c.disband-seats.result.1.items c.requires
    c.disband-seats.ensures).0

pub close_with-state-requires-clause-members : goal.close_with-state-requires-clause-members
close_with-state-requires-clause-members c = λ i hand seat at too.
    c.disbanded_groups_agree.ensures.members c.args.board c.args.groups.items c.disband-seats.result.0.items c.disband-seats.result.1.items c.requires
    c.disband-seats.ensures i hand seat (ap (λ hs. slice_get hs i) (sym c.deref.ensures.value) ∙ at) too
