use Rattle.std.proofs.Common.{◌≡◌, ◌<◌, ℕ, Some, false, slice_index}
use Rattle.std.specs.Prelude.{slice_get}
use Rattle.card_worker.specs.declared.hands.Member.{Member}
use Rattle.card_worker.specs.DrivingSteps.{is_patient}
use Rattle.card_worker.proofs.driver.some_go_on.Given as goal

abbrev pub invariant-loop-place : goal.invariant-loop-place
invariant-loop-place l = (j : ℕ) (m : Member) → j < l.place → slice_get l.members j ≡ Some m → is_patient l.patience m (slice_index l.refused j) ≡ false
