use Rattle.std.proofs.Common.{◌≡◌, ℕ, ◌<◌, length, slice_index}
use Rattle.islip_rounds.proofs.Moving.{AreGrantsMoved, AreAcceptsMoved}
use Rattle.islip_rounds.proofs.slot.move_pointers.Given as goal

abbrev pub invariant-loop-j : goal.invariant-loop-j
invariant-loop-j l = record {
  grant_long : length l.grant ≡ 64;
  accept_long : length l.accept ≡ 64;
  grant_in : (j : ℕ) → j < l.n → slice_index l.grant j < l.n;
  accept_in : (i : ℕ) → i < l.n → slice_index l.accept i < l.n;
  grants : AreGrantsMoved l.n l.j l.first l.fn.grant l.grant;
  accepts : AreAcceptsMoved l.n l.j l.first l.fn.accept l.accept;
}
