use Rattle.std.proofs.Common.{◌≡◌, ◌<◌, ℕ, Some}
use Rattle.std.specs.Prelude.{slice_get}
use Rattle.card_worker.specs.declared.hands.Member.{Member}
use Rattle.card_worker.specs.declared.hands.Group.{Group}
use Rattle.card_worker.proofs.disbandment.place_of.Given as goal

abbrev pub invariant-loop-group : goal.invariant-loop-group
invariant-loop-group l = record {
  place : l.place ≡ l.group-index;
  none : (g : ℕ) (group : Group) (k : ℕ) (m : Member) → g < l.group-index → slice_get l.groups g ≡ Some group → slice_get group.members.items k ≡ Some m
      → m.seat.number ≡ l.card → ⊥;
}
