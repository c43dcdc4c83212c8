use Rattle.std.proofs.Common.{◌≡◌, ℕ, ◌≤◌, None, slice_index_or}
use Rattle.islip_rounds.specs.Choices.{AreChoices}
use Rattle.islip_rounds.proofs.kernels.picks.Given as goal

abbrev pub invariant-loop-k : goal.invariant-loop-k
invariant-loop-k l = record {
  choices : AreChoices l.n l.from l.masks l.free l.k l.chosen;
  rest : (k : ℕ) → l.n ≤ k → slice_index_or l.chosen k None ≡ slice_index_or l.fn.chosen k None;
}
