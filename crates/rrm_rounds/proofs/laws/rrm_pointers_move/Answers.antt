use Rattle.rrm_rounds.proofs.laws.rrm_pointers_move.Goals as goal

pub returns-clause-granted : goal.returns-clause-granted
returns-clause-granted c n t rows first_match matched before after moved = moved.granted

pub returns-clause-grant_stays : goal.returns-clause-grant_stays
returns-clause-grant_stays c n t rows first_match matched before after moved = moved.grant_stays

pub returns-clause-accepted : goal.returns-clause-accepted
returns-clause-accepted c n t rows first_match matched before after moved = moved.accepted

pub returns-clause-accept_stays : goal.returns-clause-accept_stays
returns-clause-accept_stays c n t rows first_match matched before after moved = moved.accept_stays
