use Rattle.std.proofs.Common.{◌≡◌, ◌<◌, ℕ, Some}
use Rattle.std.specs.Prelude.{slice_get}
use Rattle.card_worker.specs.declared.hands.Member.{Member}
use Rattle.card_worker.proofs.disbandment.find.Given as goal

abbrev pub invariant-loop-place : goal.invariant-loop-place
invariant-loop-place l = (k : ℕ) (m : Member) → k < l.place → slice_get l.members k ≡ Some m → m.seat.number ≡ l.card → ⊥
