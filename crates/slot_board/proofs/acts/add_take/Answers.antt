use Rattle.std.proofs.Common.{sym, subst}
use Rattle.slot_histories.specs.Legal.{MayDecide}
use Rattle.board_state.specs.Boards.{BoardValue}
use Rattle.slot_board.proofs.Settled.{settled-take}
use Rattle.slot_board.proofs.acts.add_take.Goals as goal

pub returns-then-may_draw-clause-settled : goal.returns-then-may_draw-clause-settled
returns-then-may_draw-clause-settled c =
    let board = c.args.state.now in
    subst (λ (b : BoardValue). MayDecide b.setup b.events → ⊥) (sym c.draw-taken.ensures.board)
    (settled-take board.setup board.events c.args.card c.requires)
