use Rattle.std.proofs.Common.{◌≡◌, length, take}
use Rattle.std.specs.List.{sum_by}
use Rattle.descriptor_runs.proofs.ends.packet_count.Given as goal

abbrev pub invariant-loop-card : goal.invariant-loop-card
invariant-loop-card l = l.count ≡ sum_by (λ card. length card.packets.items) (take l.card-index l.cards)
