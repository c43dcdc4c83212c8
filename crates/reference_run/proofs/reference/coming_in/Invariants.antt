use Rattle.std.proofs.Common.{◌≡◌, map, take}
use Rattle.std.specs.Prelude.{filter}
use Rattle.card_core.specs.Queues.{is_routed}
use Rattle.reference_run.specs.Meeting.{coming_of}
use Rattle.reference_run.proofs.reference.coming_in.Given as goal

abbrev pub invariant-loop-packet : goal.invariant-loop-packet
invariant-loop-packet l = l.coming.items ≡ map coming_of (filter is_routed (take l.packet-index l.card.packets.items))
