use Rattle.std.proofs.Common.{◌≡◌, ℕ, [], Some, length}
use Rattle.std.specs.Prelude.{slice_get}
use Rattle.card_worker.specs.declared.hands.Group.{Group}
use Rattle.card_worker.proofs.tests.groups.empty_groups.Given as goal

abbrev pub invariant-loop-worker : goal.invariant-loop-worker
invariant-loop-worker l = record {
  count : length l.groups.items ≡ l.worker;
  empty : (p : ℕ) (g : Group) → slice_get l.groups.items p ≡ Some g → g.members.items ≡ [];
}
