use Rattle.std.proofs.Common.{length}
use Rattle.card_core.specs.Posts.{granted_at}
use Rattle.descriptor_runs.proofs.PostedInputs.{is_post}
use Rattle.descriptor_runs.proofs.posts.post_of.Goals as goal

pub cell_of-requires : goal.cell_of-requires
cell_of-requires c =
    let (served, was, name) = c.requires in
    (granted_at c.args.input.now.plan served (length served), was.plan, name)

pub returns : goal.returns
returns c = λ served was row name.
    is_post c.args.input.now served was c.args.row.now c.cell_of.result c.has_more.result row
    (c.cell_of.ensures (granted_at c.args.input.now.plan served (length served)) was.plan name) c.has_more.ensures
