use Rattle.card_worker.proofs.ClosedColumns.{AreHandsOf-closed}
use Rattle.card_worker.proofs.close.close_with.Goals as goal

pub returns-clause-hands : goal.returns-clause-hands
returns-clause-hands c = AreHandsOf-closed c.args.board c.args.seats.items c.args.hands.now c.legal.ensures c.requires.seats c.requires.count
    c.requires.members c.close.result c.close.ensures.closed.setup c.close.ensures.columns
