use Rattle.std.proofs.Common.{◌∙◌, ap}
use Rattle.board_state.proofs.Journaling.{is_decided, slot_is}
use Rattle.board_state.proofs.journal.Journal.used.Goals as goal

pub used-requires : goal.used-requires
used-requires c = is_decided c.self.inside.board c.self.view_is c.args.slot c.requires

pub returns : goal.returns
returns c = c.used.ensures ∙ ap (λ x. x.numbers) (slot_is c.self.inside.board c.self.view_is c.args.slot c.requires)
