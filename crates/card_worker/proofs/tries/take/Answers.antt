use Rattle.std.proofs.Common.{◌∙◌, refl, sym}
use Rattle.card_worker.proofs.Members.{level, card_slot, servable, taken_next}
use Rattle.card_worker.proofs.tries.take.Goals as goal

pub give-requires-clause-posted : goal.give-requires-clause-posted
give-requires-clause-posted c = (level c.args.board.now c.args.member.now c.requires.sound c.requires.posted).2

pub give-requires-clause-slot : goal.give-requires-clause-slot
give-requires-clause-slot c = c.in-Ok.ensures.after.own ∙ sym (card_slot c.args.board.now c.args.member.now c.requires.sound c.requires.posted)

pub give-requires-clause-served : goal.give-requires-clause-served
give-requires-clause-served c =
    servable c.args.board.now c.args.member.now c.requires.sound c.requires.posted c.try_take.new.seat c.in-Ok.taken c.legal-in-Ok.ensures
    c.in-Ok.ensures.column

pub returns-in-Ok : goal.returns-in-Ok
returns-in-Ok c =
    taken_next c.args.board.now c.args.member.now c.requires.sound _ c.try_take.new.seat c.in-Ok.ensures.same c.legal-in-Ok.ensures c.give.ensures.plan
    c.requires.posted c.in-Ok.taken refl c.give.ensures c.in-Ok.ensures.after c.in-Ok.ensures.column
