use Rattle.std.proofs.Common.{◌∙◌, ◌+◌, ◌≤◌, ◌==◌, [], ◌∷◌, sym, ap, subst, arith, length-append}
use Rattle.std.specs.Prelude.{sum_by}
use Rattle.std.proofs.lemmas.List.Sums.{sum_by_push, fold_push}
use Rattle.card_core.specs.declared.plan.Planned.{Planned}
use Rattle.switch_plan.specs.Totals.{work_of}
use Rattle.switch_plan.specs.OutputSteps.{no_room, with_packet}
use Rattle.switch_plan.specs.PortSteps.{is_long}
use Rattle.switch_plan.proofs.Ports.{one_most, counted_more}
use Rattle.switch_plan.proofs.port_rooms.Brought.add.Goals as goal

pub overflow_add-self : goal.overflow_add-self
overflow_add-self c =
    let few = c.requires.few.oversize in
    let one : c.from.result ≤ 1 = subst (λ n. n ≤ 1) (sym c.from.ensures) (one_most _) in
    omega arith

pub overflow_add-self-2 : goal.overflow_add-self-2
overflow_add-self-2 c =
    let few = c.requires.few.aside in
    let one : c.from-2.result ≤ 1 = subst (λ n. n ≤ 1) (sym c.from-2.ensures) (one_most _) in
    omega arith

pub overflow_add-self-3 : goal.overflow_add-self-3
overflow_add-self-3 c =
    let few = c.requires.few.work in
    let more = c.work_of.ensures.few in
    omega arith

pub add_packet-requires-clause-few : goal.add_packet-requires-clause-few
add_packet-requires-clause-few c = c.requires.few.rooms

pub returns : goal.returns
returns c packets before =
    let p = c.args.packet.now in
    let light = before.light in
    let more = c.work_of.ensures.few in
    let long = length-append packets (p ∷ []) in
    record {
      rooms = λ output inside.
          c.add_packet.ensures output inside
          ∙ ap (λ room. with_packet output room p) (before.rooms output inside)
          ∙ sym (fold_push (with_packet output) no_room packets p);
      work = ap (λ n. n + c.work_of.result) before.work
          ∙ ap (λ n. sum_by work_of packets + n) c.work_of.ensures.value
          ∙ sym (sum_by_push work_of packets p);
      aside = counted_more (λ (x : Planned). x.fan == 0) packets p c.args.self.now.aside c.from-2.result before.aside c.from-2.ensures;
      oversize = counted_more is_long packets p c.args.self.now.oversize c.from.result before.oversize c.from.ensures;
      light = omega arith;
    }
