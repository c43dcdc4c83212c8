use Rattle.std.proofs.Common.{◌≡◌, subst, get_or, arith}
use Rattle.std.proofs.lemmas.Option.{slice_get_within, slice_get-get_or, get_or_from_slice_get}
use Rattle.card_worker.specs.declared.hands.Group.{Group}
use Rattle.card_worker.specs.Groups.{IsDrivenGroup}
use Rattle.card_worker.proofs.Grouping.{few_members}
use Rattle.card_worker.proofs.tests.groups.drive_groups.Goals as goal

pub drive_each-requires-clause-groups : goal.drive_each-requires-clause-groups
drive_each-requires-clause-groups g c κs within = λ k d inside.
    let olds = c.args.groups.now in
    let found = slice_get-get_or olds k d inside in
    let count = c.requires.groups.count in
    let seats = c.legal.ensures.seats in
    let ports = c.legal.ensures.setup.ports_few in
    record {
      few = let few = few_members olds k (get_or olds k d) found in omega arith;
      members = λ j m mine. c.requires.groups.members m (record { place = k; group = get_or olds k d; within = j; found = found; at = mine });
    }

pub returns : goal.returns
returns g c =
    let board = c.args.board.now in
    let olds = c.args.groups.now in
    let news = c.drive_each.new.groups in
    let patience = c.args.way.now.patience in
    c.driven_groups_stay.ensures board board.seats patience olds news c.requires.groups c.drive_each.auto.groups (λ p old new at too.
    let was : get_or olds p old ≡ old = get_or_from_slice_get olds p old old at in
    let is : get_or news p old ≡ new = get_or_from_slice_get news p new old too in
    let one : IsDrivenGroup board patience (get_or olds p old) (get_or news p old) = c.drive_each.ensures p old (slice_get_within olds p old at) in
    let driven : IsDrivenGroup board patience old new =
    subst (λ (x : Group). IsDrivenGroup board patience old x) is (subst (λ (x : Group). IsDrivenGroup board patience x (get_or news p old)) was one) in
    (driven.made, driven.passes))
