use Rattle.std.proofs.Common.{w64, arith, inl, inr}
use Rattle.std.specs.Int.{trailing_zeros}
use Rattle.std.proofs.lemmas.Bool.{cases_lt}
use Rattle.std.proofs.lemmas.Nat.Bits.{bit_at-trailing_zeros}
use Rattle.rotating_pick.proofs.rotation.lowest.Goals as goal

pub returns-else-ports-eq0-clause-member : goal.returns-else-ports-eq0-clause-member
returns-else-ports-eq0-clause-member c = (bit_at-trailing_zeros w64 c.args.ports (omega arith) c.ranges.ports.fits).1

pub returns-else-ports-eq0-clause-least : goal.returns-else-ports-eq0-clause-least
returns-else-ports-eq0-clause-least c y has =
    let place = bit_at-trailing_zeros w64 c.args.ports (omega arith) c.ranges.ports.fits in
    elim (cases_lt y (trailing_zeros w64 c.args.ports)) [
      | inl before ↦ absurd (omega (arith, has, place.2 y before))
      | inr after ↦ after
    ]
