use Rattle.std.proofs.Common.{◌≡◌, ℕ, ◌<◌, true}
use Rattle.slot_histories.specs.Events.{takes_of, posted}
use Rattle.slot_histories.specs.Slots.{is_done_before}
use Rattle.board_state.proofs.state.BoardState.finished.Given as goal

abbrev pub invariant-loop-taker : goal.invariant-loop-taker
invariant-loop-taker l = (i : ℕ) → i < l.taker → is_done_before l.self.setup.ports (posted l.self.events) (takes_of i l.self.events) ≡ true
