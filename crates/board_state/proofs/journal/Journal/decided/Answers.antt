use Rattle.std.proofs.Common.{◌∙◌, ap}
use Rattle.board_state.proofs.Journaling.{is_decided, slot_is}
use Rattle.board_state.proofs.journal.Journal.decided.Goals as goal

pub matched-requires : goal.matched-requires
matched-requires c = is_decided c.self.inside.board c.self.view_is c.args.slot c.requires

pub returns-clause-matched : goal.returns-clause-matched
returns-clause-matched c =
    c.matched.ensures.matched ∙ ap (λ x. x.matched) (slot_is c.self.inside.board c.self.view_is c.args.slot c.requires)

pub returns-clause-ports : goal.returns-clause-ports
returns-clause-ports c = c.matched.ensures.ports ∙ ap (λ j. j.setup.ports) c.self.view_is
