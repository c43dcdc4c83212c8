use Rattle.std.proofs.Common.{inl, inr, arith}
use Rattle.std.proofs.lemmas.Nat.Bits.{bit_at_or, bit_at-lt}
use Rattle.std.proofs.lemmas.Bool.{cases_eq}
use Rattle.std.specs.Int.{bit_at}
use Rattle.rotating_pick.proofs.port_set.union.Goals as goal

pub returns : goal.returns
returns c y =
    let e = bit_at_or c.args.a c.args.b y in
    let la = bit_at-lt c.args.a y in
    let lb = bit_at-lt c.args.b y in (
      λ h. elim (cases_eq (bit_at c.args.a y) 1) [ inl a ↦ inl a | inr not_a ↦ inr (omega (arith, h)) ],
      λ s. elim s [ inl a ↦ omega (arith, a) | inr b ↦ omega (arith, b) ],
    )
