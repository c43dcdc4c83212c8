use Rattle.std.proofs.Common.{subst}
use Rattle.board_state.specs.Boards.{JournalValue, IsSetup}
use Rattle.board_state.specs.JournalRows.{AreJournalRows}
use Rattle.board_state.proofs.journal.Journal.legal.Goals as goal

pub returns-clause-setup : goal.returns-clause-setup
returns-clause-setup c = subst (λ (j : JournalValue). IsSetup j.setup) c.self.view_is c.legal.ensures.setup

pub returns-clause-rows : goal.returns-clause-rows
returns-clause-rows c = subst (λ (j : JournalValue). AreJournalRows j.setup.ports j.slots) c.self.view_is c.legal.ensures.rows
