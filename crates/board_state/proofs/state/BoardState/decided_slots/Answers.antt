use Rattle.std.proofs.Common.{arith}
use Rattle.board_state.proofs.Keeping.{decided_few}
use Rattle.board_state.proofs.state.BoardState.decided_slots.Goals as goal

pub overflow_cast-result : goal.overflow_cast-result
overflow_cast-result c =
    let kept = c.self.invariant.kept in
    omega (arith, decided_few kept, kept.setup.slots_few, kept.decided.decided, c.len.ensures, c.self.inside.matches.ok)
