use Rattle.std.proofs.Common.{◌≡◌, ◌∙◌, ◌∷◌, [], ◌++◌, List, length, sym, ap, subst, arith}
use Rattle.std.specs.Prelude.{slice_get}
use Rattle.std.specs.Vec.Iter.{into_iter_items}
use Rattle.std.proofs.lemmas.List.{append-nil, nil_from_length}
use Rattle.std.proofs.lemmas.Option.{slice_get_within}
use Rattle.std_lemmas.proofs.Lists.{gone_more, here_of}
use Rattle.card_core.specs.declared.plan.CardPlan.{CardPlan}
use Rattle.switch_plan.specs.declared.port_plans.PortPlan.{PortPlan}
use Rattle.switch_plan.specs.JobSteps.{packets_of_ports, IsCardOfPort}
use Rattle.switch_plan.proofs.RoomBounds.{messages_within}
use Rattle.switch_plan.proofs.PortSums.{ports_long, messages_are, ports_summable}
use Rattle.switch_plan.proofs.AllPorts.{both_push, brought_long, card_made}
use Rattle.switch_plan.proofs.output_rooms.cards_of.Goals as goal

pub card_of-requires-clause-number : goal.card_of-requires-clause-number
card_of-requires-clause-number c =
    let at = c.loop-port in
    let ports = c.args.ports.items in
    let whole : at.yielded ++ into_iter_items at.port-iterator ≡ ports = at.invariant.rest ∙ c.into_iter-port-iterator.ensures.into_iter_gives.0 in
    let here = here_of at.yielded (into_iter_items at.port-iterator) (into_iter_items c.next.new.self) ports c.in-Some.port whole c.in-Some.ensures.steps.0 in
    let made = at.invariant.made in
    let few = c.requires.few in
    omega (arith, few, slice_get_within ports (length at.yielded) c.in-Some.port here)

pub card_of-requires-clause-few : goal.card_of-requires-clause-few
card_of-requires-clause-few c =
    let ports = c.args.ports.items in
    let few = c.requires.few in
    omega (arith, few, ports_long ports, brought_long (packets_of_ports ports) c.args.brought.now c.requires.brought)

pub card_of-requires-clause-bytes : goal.card_of-requires-clause-bytes
card_of-requires-clause-bytes c =
    (ports_summable c.args.ports.items c.args.brought.now c.requires.few c.requires.brought).bytes c.len-number.result (card_of-requires-clause-number c)

pub card_of-requires-clause-messages : goal.card_of-requires-clause-messages
card_of-requires-clause-messages c =
    let k = c.len-number.result in
    let packets = packets_of_ports c.args.ports.items in
    let below = card_of-requires-clause-number c in
    let work = c.requires.work in
    omega (arith, messages_are k below packets c.args.brought.now c.requires.brought, messages_within k packets)

pub loop-port-preserved : goal.loop-port-preserved
loop-port-preserved c =
    let at = c.loop-port in
    let ports = c.args.ports.items in
    let k = c.len-number.result in
    let x = c.in-Some.port in
    let card = c.in_ok-card_of.field-0 in
    let rest = into_iter_items at.port-iterator in
    let steps : rest ≡ x ∷ into_iter_items c.next.new.self = c.in-Some.ensures.steps.0 in
    let whole : at.yielded ++ rest ≡ ports = at.invariant.rest ∙ c.into_iter-port-iterator.ensures.into_iter_gives.0 in
    let inside = slice_get_within ports (length at.yielded) x (here_of at.yielded rest (into_iter_items c.next.new.self) ports x whole steps) in
    let made = at.invariant.made in
    let few = c.requires.few in
    let done : k ≡ length at.yielded = omega arith in
    let own : IsCardOfPort ports c.args.depth k x card = card_made ports c.args.brought.now c.args.depth k x card c.requires.brought
    (omega (arith, few, inside)) c.in_ok-card_of.ensures in
    let pushed : c.push.new.self.items ≡ at.cards.items ++ card ∷ [] = c.in_ok-push.ensures.items in
    let more = both_push (IsCardOfPort ports c.args.depth) at.yielded at.cards.items x card
    (record { count = at.invariant.made; each = at.invariant.cards }) (subst (λ n. IsCardOfPort ports c.args.depth n x card) done own) in
    record {
      rest = gone_more at.yielded rest (into_iter_items c.next.new.self) _ x at.invariant.rest steps;
      left = let was = at.invariant.left in let gone = c.in-Some.ensures.steps.1 in let short = ap length steps in omega arith;
      made = ap length pushed ∙ more.count;
      cards = λ j port it at_port at_card. more.each j port it at_port (ap (λ (cards : List CardPlan). slice_get cards j) (sym pushed) ∙ at_card);
    }

pub returns : goal.returns
returns c =
    let at = c.loop-port in
    let ports = c.args.ports.items in
    let none : into_iter_items at.port-iterator ≡ [] =
    nil_from_length (into_iter_items at.port-iterator) (let left = at.invariant.left in let n = c.in-None.ensures.steps.0 in omega arith) in
    let all : at.yielded ≡ ports = sym (append-nil at.yielded) ∙ ap (λ (xs : List PortPlan). at.yielded ++ xs) (sym none) ∙ at.invariant.rest
    ∙ c.into_iter-port-iterator.ensures.into_iter_gives.0 in
    record {
      count = at.invariant.made ∙ ap length all;
      each = λ k port card at_port at_card.
          at.invariant.cards k port card (ap (λ (xs : List PortPlan). slice_get xs k) all ∙ at_port) at_card;
    }
