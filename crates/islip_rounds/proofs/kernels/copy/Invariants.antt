use Rattle.std.proofs.Common.{◌≡◌, ℕ, ◌<◌, ◌≤◌, length, slice_index}
use Rattle.islip_rounds.proofs.kernels.copy.Given as goal

abbrev pub invariant-loop-k : goal.invariant-loop-k
invariant-loop-k l =
    (length l.to ≡ length l.fn.to) × ((j : ℕ) → j < l.k → slice_index l.to j ≡ slice_index l.from j)
    × ((j : ℕ) → l.k ≤ j → slice_index l.to j ≡ slice_index l.fn.to j)
