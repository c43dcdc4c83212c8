use Rattle.std.proofs.Common.{◌+◌, ◌<◌, ◌≤◌, arith, refl, sym, subst, slice_index_or}
use Rattle.card_core.proofs.Ascending.{RisesTo, rises_none, rises_more, rises_all, rises_not}
use Rattle.card_core.specs.Plans.{no_packet}
use Rattle.card_core.proofs.plan_checks.are_rising.Goals as goal

pub returns : goal.returns
returns c = (λ yes_. rises_all c.args.packets.now c.loop-packet.packet-index c.loop-packet.least c.loop-packet-test.false c.loop-packet.invariant, λ all. refl)

pub loop-packet-init : goal.loop-packet-init
loop-packet-init c = rises_none c.args.packets.now

pub loop-packet-preserved : goal.loop-packet-preserved
loop-packet-preserved c =
    let from : c.loop-packet.least ≤ (slice_index_or c.args.packets.now c.loop-packet.packet-index no_packet).arrival = omega arith in
    subst (λ a. RisesTo c.args.packets.now (c.loop-packet.packet-index + 1) (a + 1)) (sym c.from-arrival.ensures)
    (rises_more c.args.packets.now c.loop-packet.packet-index c.loop-packet.least no_packet c.loop-packet.invariant from)

pub returns-then-arrival-least : goal.returns-then-arrival-least
returns-then-arrival-least c = (
  λ no_. absurd (cc),
  λ rising.
      let less : (slice_index_or c.args.packets.now c.loop-packet.packet-index no_packet).arrival < c.loop-packet.least = omega arith in
      absurd (rises_not c.args.packets.now c.loop-packet.packet-index c.loop-packet.least no_packet c.loop-packet.invariant c.loop-packet-test.true less
      rising),
)
