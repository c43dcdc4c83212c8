use Rattle.std.proofs.Common.{arith, refl}
use Rattle.std.proofs.lemmas.Option.{slice_get_within, slice_get-get_or}
use Rattle.card_core.proofs.Ascending.{planned_more}
use Rattle.card_core.proofs.plan_checks.are_planned.Goals as goal

pub returns : goal.returns
returns c = (
  λ yes_ k packet there.
      let inside = slice_get_within c.args.packets.now k packet there in
      c.loop-packet.invariant k packet (omega arith) there,
  λ all. refl,
)

pub loop-packet-preserved : goal.loop-packet-preserved
loop-packet-preserved c =
    planned_more c.args.n c.args.bytes c.args.packets.now c.loop-packet.packet-index _ c.loop-packet.invariant
    (c.is_planned.ensures.0 c.if-not-is_planned.false)

pub loop-packet-init : goal.loop-packet-init
loop-packet-init c k packet less there = absurd (omega arith)

pub returns-then-not-is_planned : goal.returns-then-not-is_planned
returns-then-not-is_planned c = (
  λ no_. absurd (cc),
  λ all.
      let there = slice_get-get_or c.args.packets.now c.loop-packet.packet-index _ c.loop-packet-test.true in
      let yes_ = c.is_planned.ensures.1 (all c.loop-packet.packet-index _ there) in
      let f = c.if-not-is_planned.true in
      absurd (cc),
)
