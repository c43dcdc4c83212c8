use Rattle.std.proofs.Common.{◌≡◌, List, Option, Some, true, length, sym, subst}
use Rattle.cell_cutter.specs.declared.cell.CellName.{CellName}
use Rattle.slot_match.specs.declared.matching.Served.{Served}
use Rattle.multicast_queue.specs.FanQueues.{first_name}
use Rattle.slot_histories.specs.Parts.{IsPartOf}
use Rattle.card_core.specs.Queues.{waiting, queue_in}
use Rattle.card_core.specs.Posts.{queue_served}
use Rattle.card_core.specs.StateSteps.{row_of}
use Rattle.descriptor_runs.specs.InputSteps.{InputValue, HasServed, ChangesAt, row_in}
use Rattle.descriptor_runs.specs.contracts.inputs.Input.{the_view}
use Rattle.descriptor_runs.proofs.ServedInputs.{may_leave_in, left_in, first_leaves}
use Rattle.descriptor_runs.proofs.ChangedSets.{changed-by-leaving}
use Rattle.descriptor_runs.proofs.inputs.Input.leave.Goals as goal

-- what is known of an input, of the input that is the same
served_at : (input other : InputValue) (served : List (Option Served)) → input ≡ other → HasServed other served true → HasServed input served true
served_at input other served same was = subst (λ (i : InputValue). HasServed i served true) (sym same) was

part_at : (input other : InputValue) (part : Served) → input ≡ other → IsPartOf (row_in other) part → IsPartOf (row_in input) part
part_at input other part same may = subst (λ (i : InputValue). IsPartOf (row_in i) part) (sym same) may

pub leave-requires : goal.leave-requires
leave-requires c =
    let (served, was, may) = c.requires in
    may_leave_in (the_view c.self.inside) served (served_at _ _ served c.self.view_is was) c.args.part (part_at _ _ c.args.part c.self.view_is may)

pub returns-clause-left : goal.returns-clause-left
returns-clause-left c served was may =
    left_in (the_view c.self.inside) served (served_at _ _ served c.self.view_is was) c.args.part c.leave.result c.leave.new.self.unicast
    c.leave.new.self.multicast (part_at _ _ c.args.part c.self.view_is may) c.leave.ensures

pub returns-clause-name : goal.returns-clause-name
returns-clause-name c served was may =
    subst (λ (i : InputValue). ◌≡◌ {A = Option CellName} (Some c.leave.result)
    (first_name (waiting (queue_in i.plan (queue_served c.args.part) served (length served))))) c.self.view_is
    (first_leaves (the_view c.self.inside) served (served_at _ _ served c.self.view_is was) c.args.part c.leave.result c.leave.new.self.unicast
    c.leave.new.self.multicast (part_at _ _ c.args.part c.self.view_is may) c.leave.ensures)

pub returns-clause-changed : goal.returns-clause-changed
returns-clause-changed c =
    let (served, was, may) = c.requires in
    let old = the_view c.self.inside in
    let new = c.leave.new.self in
    let part = c.args.part in
    subst (λ (i : InputValue). ChangesAt (row_in i) (row_of new.unicast new.multicast) (Some (part.level, part.kind))) c.self.view_is
    (changed-by-leaving part.kind part c.leave.result old.banks new.unicast old.fans new.multicast
    (may_leave_in old served (served_at _ _ served c.self.view_is was) part (part_at _ _ part c.self.view_is may)) c.leave.ensures)
