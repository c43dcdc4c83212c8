use Rattle.std.proofs.Common.{ap, refl, arith}
use Rattle.rotating_pick.proofs.Bits.{Has-lt}
use Rattle.rotating_pick.specs.PortSets.{Has}
use Rattle.std.proofs.Common.{subst, sym}
use Rattle.std.proofs.lemmas.Nat.Bits.{bit_at-pow_same}
use Rattle.card_core.proofs.Sets.{several-of}
use Rattle.queue_lengths.specs.Lengths.{place_of}
use Rattle.queue_lengths.proofs.Places.{queue_unicast, queue_multicast}
use Rattle.queue_lengths.proofs.counters.queue_place.Goals as goal

pub returns-in-Some-clause-place : goal.returns-in-Some-clause-place
returns-in-Some-clause-place c =
    let place = ap (place_of c.args.ports) (queue_unicast c.args.fan c.args.level c.in-Some.output c.in-Some.ensures.one.1 c.in-Some.ensures.one.0) in
    omega (arith, place)

pub returns-in-Some-clause-inside : goal.returns-in-Some-clause-inside
returns-in-Some-clause-inside c =
    let member = subst (λ f. Has f c.in-Some.output) (sym c.in-Some.ensures.one.1) (bit_at-pow_same c.in-Some.output) in
    let inside = Has-lt c.args.ports c.args.fan c.in-Some.output c.requires.among member in
    let level = c.requires.level in
    omega arith

pub returns-in-None-clause-place : goal.returns-in-None-clause-place
returns-in-None-clause-place c =
    let several = several-of c.args.fan (c.in-None.ensures.none.0 refl) c.requires.some in
    let place = ap (place_of c.args.ports) (queue_multicast c.args.fan c.args.level several) in
    omega (arith, place)
