use Rattle.std.proofs.Common.{sym, subst}
use Rattle.slot_histories.specs.Legal.{MayDecide}
use Rattle.board_state.specs.Boards.{BoardValue}
use Rattle.slot_board.proofs.Settled.{settled-decide}
use Rattle.slot_board.proofs.acts.decide_if_full.Goals as goal

pub returns-then-may_settle-clause-settled : goal.returns-then-may_settle-clause-settled
returns-then-may_settle-clause-settled c =
    let board = c.args.state.now in
    let may : MayDecide board.setup board.events = c.may_settle.ensures.may.0 c.if-may_settle.true in
    subst (λ (b : BoardValue). MayDecide b.setup b.events → ⊥) (sym c.settle.ensures)
    (settled-decide board.setup board.events c.legal.ensures.setup.ports_some may)
