use Rattle.std.proofs.Common.{◌∙◌, arith}
use Rattle.slot_histories.proofs.LegalLists.{AreInStep-legal}
use Rattle.board_state.proofs.Deciding.{done_at}
use Rattle.board_state.proofs.state.BoardState.is_done.Goals as goal

pub overflow_add-slot : goal.overflow_add-slot
overflow_add-slot c =
    let setup = c.legal.ensures.setup in
    let step = AreInStep-legal c.args.self.now.setup c.args.self.now.events c.legal.ensures.legal in
    omega (arith, c.requires, step.decided_posted 0 setup.ports_some, step.posts_within 0 setup.ports_some, setup.slots_few)

pub returns : goal.returns
returns c =
    let board = c.args.self.now in
    let legal = c.legal.ensures in
    c.is_done_before.ensures ∙ done_at board.setup board.events legal.setup.ports_some legal.legal c.args.slot c.requires
