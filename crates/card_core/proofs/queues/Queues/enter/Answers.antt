use Rattle.std.proofs.Common.{◌≡◌, ◌∙◌, ◌<◌, ◌^◌, ◌++◌, Bool, List, [], if◌then◌else◌, ap, sym, subst, refl}
use Rattle.std.proofs.lemmas.Nat.Bits.{bit_at-pow_same}
use Rattle.rotating_pick.specs.PortSets.{Has, HasSeveral}
use Rattle.rotating_pick.proofs.Bits.{Has-lt}
use Rattle.rotating_pick.proofs.Members.{only_member, not_several}
use Rattle.voq_banks.specs.CellQueues.{names_of_packet, cells_with_fan}
use Rattle.voq_banks.specs.Queues.{queue_at as uni_at, spare_at}
use Rattle.multicast_queue.specs.FanQueues.{FanCell, queue_at as fan_at}
use Rattle.card_core.specs.InputQueues.{InputQueues}
use Rattle.card_core.specs.StateSteps.{rest_after, EntersUnicast, EntersMulticast, Enters}
use Rattle.card_core.proofs.Sets.{several-of}
use Rattle.card_core.proofs.Offering.{less_one, cells-in, rest-in, spare-in}
use Rattle.card_core.proofs.queues.Queues.enter.Goals as goal

pub offer-requires-clause-output : goal.offer-requires-clause-output
offer-requires-clause-output c =
    Has-lt c.self.inside.unicast.ports c.args.fan c.in-Some.output
    (subst (λ (q : InputQueues). c.args.fan < 2 ^ q.unicast.ports) (sym c.self.view_is) c.requires.among)
    (subst (λ f. Has f c.in-Some.output) (sym c.in-Some.ensures.one.1) (bit_at-pow_same c.in-Some.output))

pub offer-requires-in-None-clause-several : goal.offer-requires-in-None-clause-several
offer-requires-in-None-clause-several c = several-of c.args.fan (c.in-None.ensures.none.0 refl) c.requires.routed

pub returns-in-Some : goal.returns-in-Some
returns-in-Some c =
    let number = c.args.packet in
    let fan = c.args.fan in
    let level = c.args.level in
    let count = c.args.cells in
    let i = c.in-Some.output in
    let one : fan ≡ 2 ^ i = c.in-Some.ensures.one.1 in
    let old = c.self.inside.unicast in
    let new = c.offer.new.self in
    let e = c.offer.ensures in
    let entered : EntersUnicast i number level count c.offer.result old new = record {
      test = e.fits;
      queue = e.queue ∙ ap (λ b. uni_at old i level ++ (if b then names_of_packet number count else [])) e.fits;
      spare = less_one (spare_at old i level) (spare_at new i level) c.offer.result e.spare;
      others = e.others;
    } in
    subst (λ (q : InputQueues). Enters number fan level count c.offer.result q.unicast q.multicast new c.self.inside.multicast) c.self.view_is (record {
      nowhere = λ none. absurd (c.requires.routed none);
      unicast = λ _ j at. (
        subst (λ k. EntersUnicast k number level count c.offer.result old new)
            (only_member j i (subst (λ f. Has f i) (sym one ∙ at) (bit_at-pow_same i))) entered,
        refl,
      );
      multicast = λ _ several. absurd (not_several i (subst HasSeveral one several));
    })

pub returns-in-None : goal.returns-in-None
returns-in-None c =
    let number = c.args.packet in
    let fan = c.args.fan in
    let level = c.args.level in
    let count = c.args.cells in
    let several = several-of fan (c.in-None.ensures.none.0 refl) c.requires.routed in
    let fits = c.offer-in-None.result in
    let new = c.offer-in-None.new.self in
    let e = c.offer-in-None.ensures in
    let q = fan_at c.self.inside.multicast level in
    let next = fan_at new level in
    let added : Bool → List FanCell = λ b. if b then cells_with_fan number count fan else [] in
    let entered : EntersMulticast number fan level count fits c.self.inside.multicast new = record {
      test = e.fits;
      cells = cells-in q next number count fan fits e.queue ∙ ap (λ b. q.cells ++ added b) e.fits;
      rest = rest-in q next number count fan fits c.requires.some e.queue ∙ ap (λ b. rest_after q.cells q.rest (added b)) e.fits;
      spare = spare-in q next number count fan fits e.queue;
      others = e.others;
    } in
    subst (λ (b : InputQueues). Enters number fan level count fits b.unicast b.multicast c.self.inside.unicast new) c.self.view_is (record {
      nowhere = λ none. absurd (c.requires.routed none);
      unicast = λ _ j is. absurd (not_several j (subst HasSeveral is several));
      multicast = λ _ _. (entered, refl);
    })
