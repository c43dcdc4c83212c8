use Rattle.std.proofs.Common.{◌≡◌, ◌∙◌, ◌+◌, ◌≤◌, ap, arith}
use Rattle.std.specs.Prelude.{Some, slice_get, vec_capacity}
use Rattle.std.proofs.lemmas.Option.{slice_get-get_or}
use Rattle.card_worker.proofs.Grouping.{few_members}
use Rattle.switch_jobs.proofs.Planning.{ArePlanned-more, AreUnrefused-more, HaveRoomFor-set}
use Rattle.switch_jobs.proofs.groups.join.Goals as goal

pub push_reserved-requires : goal.push_reserved-requires
push_reserved-requires c =
    let groups = c.args.groups.now.items in
    let group = c.index_mut-group.result.now in
    let found : slice_get groups c.args.place ≡ Some group = slice_get-get_or groups c.args.place group c.requires.place
    ∙ ap Some (let is = c.index_mut-group.ensures.value in cc) in
    let few = few_members groups c.args.place group found in
    let count = c.requires.groups.count in
    let room : c.args.card + 1 ≤ vec_capacity group.members = c.requires.room c.args.place group found in
    let held = group.members.ok.0 in
    omega arith

pub returns-clause-groups : goal.returns-clause-groups
returns-clause-groups c =
    let groups = c.args.groups.now.items in
    let group = c.index_mut-group.result.now in
    let found : slice_get groups c.args.place ≡ Some group = slice_get-get_or groups c.args.place group c.requires.place
    ∙ ap Some (let is = c.index_mut-group.ensures.value in cc) in
    c.groups_grow.ensures c.args.board.now c.args.card groups c.args.place group _ c.args.member c.requires.groups found c.push_reserved.ensures.items
    c.requires.member c.requires.number

pub returns-clause-planned : goal.returns-clause-planned
returns-clause-planned c = λ plans planned own.
    let groups = c.args.groups.now.items in
    let group = c.index_mut-group.result.now in
    let found : slice_get groups c.args.place ≡ Some group = slice_get-get_or groups c.args.place group c.requires.place
    ∙ ap Some (let is = c.index_mut-group.ensures.value in cc) in
    ArePlanned-more groups c.args.place group _ c.args.member found c.push_reserved.ensures.items plans planned (ap (slice_get plans) c.requires.number ∙ own)

pub returns-clause-unrefused : goal.returns-clause-unrefused
returns-clause-unrefused c = λ unrefused own.
    let groups = c.args.groups.now.items in
    let group = c.index_mut-group.result.now in
    let found : slice_get groups c.args.place ≡ Some group = slice_get-get_or groups c.args.place group c.requires.place
    ∙ ap Some (let is = c.index_mut-group.ensures.value in cc) in
    AreUnrefused-more groups c.args.place group _ c.args.member found c.push_reserved.ensures.items unrefused own

pub returns-clause-room : goal.returns-clause-room
returns-clause-room c = λ room have.
    let groups = c.args.groups.now.items in
    let group = c.index_mut-group.result.now in
    let found : slice_get groups c.args.place ≡ Some group = slice_get-get_or groups c.args.place group c.requires.place
    ∙ ap Some (let is = c.index_mut-group.ensures.value in cc) in
    HaveRoomFor-set groups c.args.place group _ room found c.push_reserved.ensures.capacity have
