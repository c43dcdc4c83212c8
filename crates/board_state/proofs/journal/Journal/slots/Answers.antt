use Rattle.std.proofs.Common.{◌∙◌, sym}
use Rattle.board_state.proofs.Journaling.{slots_are}
use Rattle.board_state.proofs.journal.Journal.slots.Goals as goal

pub returns : goal.returns
returns c = c.decided_slots.ensures ∙ sym (slots_are c.self.inside.board c.self.view_is)
