use Rattle.std.proofs.Common.{◌≡◌, ◌∙◌, ◌+◌, suc, ap, arith}
use Rattle.card_core.specs.Posts.{granted_at}
use Rattle.card_core.proofs.Granting.{first_granted}
use Rattle.card_core.proofs.laws.granted_cell_is_the_first.Goals as goal

pub returns : goal.returns
returns c plan q served output t good may is =
    let next : t + 1 ≡ suc t = omega arith in
    ap (granted_at plan served) next ∙ first_granted plan good served q output t may is
