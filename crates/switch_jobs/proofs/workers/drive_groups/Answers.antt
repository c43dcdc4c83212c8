use Rattle.std.proofs.Common.{get_or, arith}
use Rattle.std.proofs.lemmas.Option.{slice_get-get_or}
use Rattle.card_worker.specs.Groups.{IsDrivenGroup}
use Rattle.card_worker.proofs.Grouping.{few_members}
use Rattle.switch_jobs.proofs.Planning.{driven_at, ArePlanned-driven, HaveWaited-driven}
use Rattle.switch_jobs.proofs.workers.drive_groups.Goals as goal

pub drive_each-requires-clause-groups : goal.drive_each-requires-clause-groups
drive_each-requires-clause-groups g c κs within = λ k d inside.
    let olds = c.args.groups.now in
    let found = slice_get-get_or olds k d inside in
    let count = c.requires.groups.count in
    let seats = c.legal.ensures.seats in
    let ports = c.legal.ensures.setup.ports_few in
    record {
      few = let few = few_members olds k (get_or olds k d) found in omega arith;
      members = λ j m mine. c.requires.groups.members m (record { place = k; group = get_or olds k d; within = j; found = found; at = mine });
    }

pub returns-clause-groups : goal.returns-clause-groups
returns-clause-groups g c =
    let board = c.args.board.now in
    let olds = c.args.groups.now in
    let news = c.drive_each.new.groups in
    let patience = c.args.patience in
    let long = c.drive_each.auto.groups in
    c.driven_groups_stay.ensures board board.seats patience olds news c.requires.groups long (λ p old new at too.
    let driven : IsDrivenGroup board patience old new = driven_at board patience olds news long c.drive_each.ensures p old new at too in
    (driven.made, driven.passes))

pub returns-clause-planned : goal.returns-clause-planned
returns-clause-planned g c =
    ArePlanned-driven c.args.board.now c.args.patience c.args.groups.now c.drive_each.new.groups c.drive_each.auto.groups c.drive_each.ensures

pub returns-clause-waited : goal.returns-clause-waited
returns-clause-waited g c =
    HaveWaited-driven c.args.board.now c.args.patience c.args.groups.now c.drive_each.new.groups c.drive_each.auto.groups c.drive_each.ensures
