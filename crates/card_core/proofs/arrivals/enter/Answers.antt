use Rattle.std.proofs.Common.{◌∙◌, ◌≢◌, true, false, not, sym, subst, refl}
use mir.Val.{bool_byte}
use Rattle.card_core.specs.StateSteps.{MayEnter, Enters, MayArrive, Arrives}
use Rattle.card_core.proofs.Sets.{counted-routed, byte_is}
use Rattle.card_core.proofs.arrivals.enter.Goals as goal

pub returns : goal.returns
returns c =
    let p = c.in-Some.packet in
    let fits = c.enter-admitted.result in
    let some : p.fan ≢ 0 = λ none. let e = c.is_empty.ensures.zero.1 none in let f = c.if-is_empty.false in absurd (cc) in
    subst (λ a. Arrives c.args.number a
    (record {
      packets = 1;
      admitted = c.from.result;
      dropped = c.from-2.result;
    }) c.args.queues.now.unicast c.args.queues.now.multicast c.enter-admitted.new.self.unicast c.enter-admitted.new.self.multicast) (sym c.in-Some.is) (
      fits,
      subst (λ cells. Enters c.args.number p.fan p.level cells fits c.args.queues.now.unicast c.args.queues.now.multicast c.enter-admitted.new.self.unicast
          c.enter-admitted.new.self.multicast) c.cells_of-cells.ensures c.enter-admitted.ensures,
      refl,
      c.from.ensures ∙ byte_is bool_byte refl refl fits ∙ counted-routed true p fits some,
      c.from-2.ensures ∙ byte_is bool_byte refl refl (not fits) ∙ counted-routed false p fits some,
    )

pub enter-admitted-requires : goal.enter-admitted-requires
enter-admitted-requires c =
    let some : c.in-Some.packet.fan ≢ 0 = λ none. let e = c.is_empty.ensures.zero.1 none in let f = c.if-is_empty.false in absurd (cc) in
    let may = subst (MayArrive c.args.queues.now.unicast c.args.queues.now.multicast) c.in-Some.is c.requires in
    subst (MayEnter c.args.queues.now.unicast c.args.queues.now.multicast c.in-Some.packet.fan c.in-Some.packet.level) (sym c.cells_of-cells.ensures) (may some)
