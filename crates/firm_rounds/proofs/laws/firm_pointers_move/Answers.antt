use Rattle.rotating_pick.specs.declared.kinds.Kind.TheVariants.{Uni}
use Rattle.eslip_rounds.proofs.FirstRounds.{AreAccepted-round}
use Rattle.firm_rounds.proofs.laws.firm_pointers_move.Goals as goal

pub returns-clause-paired : goal.returns-clause-paired
returns-clause-paired c n t rows first_match matched before after moved i j level served =
    (moved.granted i j level served, moved.accepted i j level served)

pub returns-clause-refused : goal.returns-clause-refused
returns-clause-refused c n t rows first_match matched before after moved i j level refused = moved.held i j level refused

pub returns-clause-grant_stays : goal.returns-clause-grant_stays
returns-clause-grant_stays c n t rows first_match matched before after round moved j level nobody =
    moved.grant_stays j level
    (λ i served. let accepts = AreAccepted-round n t rows before first_match round i j level Uni served in nobody i accepts.taken.member)
    (λ i refused. nobody i refused.0)

pub returns-clause-accept_stays : goal.returns-clause-accept_stays
returns-clause-accept_stays c n t rows first_match matched before after moved i level none = moved.accept_stays i level none
