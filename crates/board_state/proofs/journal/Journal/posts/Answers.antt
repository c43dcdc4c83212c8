use Rattle.std.proofs.Common.{◌∙◌, ap}
use Rattle.board_state.proofs.Journaling.{is_decided, slot_is}
use Rattle.board_state.proofs.journal.Journal.posts.Goals as goal

pub decided_posts-requires : goal.decided_posts-requires
decided_posts-requires c = is_decided c.self.inside.board c.self.view_is c.args.slot c.requires

pub returns-clause-posts : goal.returns-clause-posts
returns-clause-posts c =
    c.decided_posts.ensures.posts ∙ ap (λ x. x.posts) (slot_is c.self.inside.board c.self.view_is c.args.slot c.requires)

pub returns-clause-ports : goal.returns-clause-ports
returns-clause-ports c = c.decided_posts.ensures.ports ∙ ap (λ j. j.setup.ports) c.self.view_is
