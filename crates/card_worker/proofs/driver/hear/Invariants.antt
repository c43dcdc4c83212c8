use Rattle.std.proofs.Common.{◌≡◌, ◌<◌, ℕ, Some}
use Rattle.std.specs.Prelude.{slice_get}
use Rattle.slot_board.specs.Calls.{IsSeat}
use Rattle.card_worker.specs.declared.hands.Member.{Member}
use Rattle.card_worker.proofs.driver.hear.Given as goal

abbrev pub invariant-loop-member : goal.invariant-loop-member
invariant-loop-member l = (j : ℕ) (m : Member) → j < l.member-index → slice_get l.members j ≡ Some m → IsSeat m.seat
