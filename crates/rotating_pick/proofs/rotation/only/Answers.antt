use Rattle.std.proofs.Common.{◌≡◌, ◌^◌, ◌∙◌, Some, arith, refl, sym, ap, subst}
use Rattle.rotating_pick.specs.PortSets.{HasSeveral}
use Rattle.rotating_pick.proofs.Bits.{Has-lt}
use Rattle.rotating_pick.proofs.Members.{not_several, power-left, power-same, several-left}
use Rattle.rotating_pick.proofs.rotation.only.Goals as goal

pub without-requires : goal.without-requires
without-requires c = Has-lt 64 c.args.ports c.in_ok-port.port (omega (arith, c.ranges.ports)) (c.in_ok-port.ensures).member

pub returns-in-Some-clause-exact : goal.returns-in-Some-clause-exact
returns-in-Some-clause-exact c x =
    let several = several-left c.args.ports c.without.result c.in_ok-port.port c.in-Some.field-0 (c.in_ok-port.ensures).member c.without.ensures.members
    (c.in-Some.ensures).member in
    (λ e. absurd (cc), λ power. absurd (not_several x (subst HasSeveral power several)))

-- the set has its lowest member alone
alone : (c : goal.In-None) → c.args.ports ≡ 2 ^ c.in_ok-port.port
alone c = power-left c.args.ports c.without.result c.in_ok-port.port (c.in_ok-port.ensures).member c.without.ensures.members ((c.in-None.ensures).none.0 refl)

pub returns-in-None-clause-one : goal.returns-in-None-clause-one
returns-in-None-clause-one c = (Has-lt 64 c.args.ports c.in_ok-port.port (omega (arith, c.ranges.ports)) (c.in_ok-port.ensures).member, alone c)

pub returns-in-None-clause-exact : goal.returns-in-None-clause-exact
returns-in-None-clause-exact c x = (
  λ e. let same : c.in_ok-port.port ≡ x = cc in subst (λ y. c.args.ports ≡ 2 ^ y) same (alone c),
  λ power. ap Some (power-same c.in_ok-port.port x (sym (alone c) ∙ power)),
)
