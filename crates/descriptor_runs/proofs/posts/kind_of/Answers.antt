use Rattle.std.proofs.Common.{refl, sym, ap, inl, inr}
use Rattle.card_core.specs.Plans.{kind_of}
use Rattle.card_core.proofs.Arriving.{queue-unicast, queue-multicast}
use Rattle.descriptor_runs.proofs.posts.kind_of.Goals as goal

pub returns-in-Some : goal.returns-in-Some
returns-in-Some c =
    let (inside, alone) = c.in-Some.ensures.one in
    sym (ap kind_of (queue-unicast c.args.packet.now c.in-Some.field-0 alone inside))

pub returns-in-None : goal.returns-in-None
returns-in-None c =
    elim (c.in-None.ensures.none.0 refl) [
      | inl nowhere ↦ absurd (c.requires nowhere)
      | inr several ↦ sym (ap kind_of (queue-multicast c.args.packet.now several))
    ]
