use Rattle.std.proofs.Common.{ℕ, ◌<◌, ◌↔◌, slice_index}
use Rattle.rotating_pick.specs.PortSets.{Has}
use Rattle.eslip_rounds.proofs.asks.Asks.named.Given as goal

abbrev pub invariant-loop-set : goal.invariant-loop-set
invariant-loop-set l = (j : ℕ) → Has l.named j ↔ ((s : ℕ) × (s < l.set) × Has (slice_index l.self.outputs s) j)
