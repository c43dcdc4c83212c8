use Rattle.rotating_pick.proofs.Bits.{no_member-zero}
use Rattle.slot_match.proofs.matching.rest_of.Goals as goal

pub returns-in-Uni : goal.returns-in-Uni
returns-in-Uni c j = (λ has. absurd (no_member-zero j has), λ p. absurd (let multi = p.0 in let uni = c.in-Uni.is in cc))
