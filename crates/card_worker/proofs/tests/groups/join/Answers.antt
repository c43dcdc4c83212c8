use Rattle.std.proofs.Common.{◌≡◌, ◌∙◌, ap}
use Rattle.std.specs.Prelude.{Some, slice_get}
use Rattle.std.proofs.lemmas.Option.{slice_get-get_or}
use Rattle.card_worker.proofs.tests.groups.join.Goals as goal

pub returns-clause-groups : goal.returns-clause-groups
returns-clause-groups c =
    let groups = c.args.groups.now.items in
    let group = c.index_mut-group.result.now in
    let found : slice_get groups c.args.place ≡ Some group = slice_get-get_or groups c.args.place group c.requires.place
    ∙ ap Some (let is = c.index_mut-group.ensures.value in cc) in
    c.groups_grow.ensures c.args.board.now c.args.card groups c.args.place group _ c.args.member c.requires.groups found c.in_ok-push.ensures.items
    c.requires.member c.requires.card
