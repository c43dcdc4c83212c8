use Rattle.std.proofs.Common.{◌∙◌, true, ap, sym, subst}
use Rattle.slot_histories.specs.Legal.{IsLegal}
use Rattle.slot_board.specs.States.{StateValue}
use Rattle.card_worker.specs.Alone.{IsHandOf}
use Rattle.card_worker.specs.AloneSteps.{AfterAct}
use Rattle.card_worker.proofs.Columns.{level, card_slot, servable, hand-taken, AfterAct-take}
use Rattle.card_worker.proofs.alone.take_alone.Goals as goal

pub give-requires-clause-posted : goal.give-requires-clause-posted
give-requires-clause-posted c =
    let b = c.args.state.now in
    (level b.setup c.args.card b.events c.legal.ensures.setup c.legal.ensures.legal c.requires.may.card_in c.args.hand.now c.requires.hand
    c.requires.may.posted).2

pub give-requires-clause-slot : goal.give-requires-clause-slot
give-requires-clause-slot c =
    let b = c.args.state.now in
    ap (λ t. t.slot) c.draw-taken.ensures.taken
    ∙ sym (card_slot b.setup c.args.card b.events c.legal.ensures.setup c.legal.ensures.legal c.requires.may.card_in c.args.hand.now c.requires.hand
    c.requires.may.posted)

pub give-requires-clause-served : goal.give-requires-clause-served
give-requires-clause-served c =
    let b = c.args.state.now in
    let next = subst (λ (board : StateValue). IsLegal board.setup board.events) c.draw-taken.ensures.board c.legal-2.ensures.legal in
    servable b.setup c.args.card b.events c.legal.ensures.setup c.legal.ensures.legal c.requires.may.card_in c.args.hand.now c.requires.hand
    c.requires.may.posted c.draw-taken.result c.draw-taken.ensures.taken next

pub returns-clause-hand : goal.returns-clause-hand
returns-clause-hand c =
    let b = c.args.state.now in
    subst (λ (board : StateValue). IsHandOf (record { card = c.give.new.card; kept = c.args.hand.now.kept }) board.setup c.args.card board.events)
    (sym c.draw-taken.ensures.board)
    (hand-taken b.setup c.args.card b.events c.legal.ensures.setup c.legal.ensures.legal c.requires.may.card_in c.args.hand.now c.requires.hand
    c.requires.may.posted c.give.new.card c.draw-taken.result c.draw-taken.ensures.taken c.give.ensures)

pub returns-clause-act : goal.returns-clause-act
returns-clause-act c =
    let b = c.args.state.now in
    subst (λ (board : StateValue). AfterAct c.args.card b board true) (sym c.draw-taken.ensures.board) (AfterAct-take c.args.card b)
