use Rattle.std.proofs.Common.{◌≡◌, ◌≢◌, ◌∙◌, ◌<◌, length, slice_index_or, Option, Some, sym, ap, subst}
use Rattle.std.specs.Prelude.{slice_get}
use Rattle.std.proofs.lemmas.Option.{get_or_from_slice_get}
use Rattle.cell_cutter.specs.declared.cell.Cell.{Cell}
use Rattle.cell_cutter.specs.declared.cell.CellName.{CellName}
use Rattle.cell_cutter.specs.Cells.{cell_of}
use Rattle.card_core.specs.declared.plan.Planned.{Planned}
use Rattle.card_core.specs.Plans.{Plan, IsGoodPlan, IsPlanned, no_packet, size_of, kind_of, queue_of, message_of, cell_in, cell_named}
use Rattle.card_core.proofs.After.{level-queue}
use Rattle.descriptor_runs.specs.SwitchSteps.{IsNameOf}
use Rattle.descriptor_runs.proofs.posts.cell_of.Goals as goal

-- the packet of a name
module _ (plan : Plan) (good : IsGoodPlan plan) (cell : Option Cell) (name : CellName) (is : IsNameOf plan cell (Some name)) (packet : Planned)
    (found : Some packet ≡ slice_get plan.packets name.packet) where
  same : slice_index_or plan.packets name.packet no_packet ≡ packet
  same = get_or_from_slice_get plan.packets name.packet packet no_packet (sym found)

  planned : IsPlanned plan.ports (length plan.bytes) packet
  planned = good.packets name.packet packet (sym found)

  routed : packet.fan ≢ 0
  routed = subst (λ (p : Planned). p.fan ≢ 0) same is.3

  number_in : name.number < size_of packet
  number_in = subst (λ (p : Planned). name.number < size_of p) same is.2

  cut_of : cell_of plan.card packet.level (kind_of (queue_of packet)) (message_of plan packet) name.number ≡ cell_named plan name
  cut_of =
      ap (λ level. cell_of plan.card level (kind_of (queue_of packet)) (message_of plan packet) name.number) (sym (level-queue packet))
      ∙ ap (λ (p : Planned). cell_in plan p name.number) (sym same)

pub cell_for-requires-clause-place : goal.cell_for-requires-clause-place
cell_for-requires-clause-place c =
    let (cell, good, is) = c.requires in
    let plan = c.args.input.now.plan in
    (planned plan good cell c.in_ok-name.name (subst (IsNameOf plan cell) c.in_ok-name.was is) c.packet-packet.result.now c.packet-packet.ensures).place

pub cell_for-requires-clause-len : goal.cell_for-requires-clause-len
cell_for-requires-clause-len c =
    let (cell, good, is) = c.requires in
    let plan = c.args.input.now.plan in
    let named = subst (IsNameOf plan cell) c.in_ok-name.was is in
    (planned plan good cell c.in_ok-name.name named c.packet-packet.result.now c.packet-packet.ensures).forwarded
    (routed plan good cell c.in_ok-name.name named c.packet-packet.result.now c.packet-packet.ensures)

pub cell_for-requires-clause-level : goal.cell_for-requires-clause-level
cell_for-requires-clause-level c =
    let (cell, good, is) = c.requires in
    let plan = c.args.input.now.plan in
    (planned plan good cell c.in_ok-name.name (subst (IsNameOf plan cell) c.in_ok-name.was is) c.packet-packet.result.now c.packet-packet.ensures).level

pub cell_for-requires-clause-number : goal.cell_for-requires-clause-number
cell_for-requires-clause-number c =
    let (cell, good, is) = c.requires in
    let plan = c.args.input.now.plan in
    number_in plan good cell c.in_ok-name.name (subst (IsNameOf plan cell) c.in_ok-name.was is) c.packet-packet.result.now c.packet-packet.ensures

pub returns : goal.returns
returns c = λ cell good is.
    let plan = c.args.input.now.plan in
    let packet = c.packet-packet.result.now in
    let named : IsNameOf plan cell (Some c.in_ok-name.name) = subst (IsNameOf plan cell) c.in_ok-name.was is in
    ap Some (c.cell_for.ensures
    ∙ ap (λ kind. cell_of plan.card packet.level kind (message_of plan packet) c.in_ok-name.name.number) c.kind_of.ensures
    ∙ cut_of plan good cell c.in_ok-name.name named packet c.packet-packet.ensures)
    ∙ sym named.0
