use Rattle.std.proofs.Common.{ℕ, sym, subst}
use Rattle.rotating_pick.specs.declared.kinds.Kind.TheVariants.{Uni}
use Rattle.slot_match.specs.Matches.{IsMatch, Serves}
use Rattle.eslip_rounds.specs.Slots.{IsSlot}
use Rattle.eslip_rounds.proofs.Decided.{IsSlot-from, enough_rounds, nothing_added}
use Rattle.eslip_rounds.proofs.Meeting.{AreMet-along}
use Rattle.eslip_rounds.proofs.Settling.{decision_of-only}
use Rattle.unicast_slots.proofs.Rounding.{AreMoved-met, pairs-unicast}
use Rattle.unicast_slots.proofs.scheduler.UnicastScheduler.decide.Goals as goal

pub meet-requires-clause-whole : goal.meet-requires-clause-whole
meet-requires-clause-whole c = subst (λ (n : ℕ). IsMatch n c.make_rounds-made.new.out) (sym c.requires.pointers) c.make_rounds-made.ensures.whole

pub meet-requires-clause-outputs : goal.meet-requires-clause-outputs
meet-requires-clause-outputs c j has = rw c.requires.pointers (((c.make_rounds-made.ensures.made 0).firsts j).0 has).0

pub meet-requires-clause-unicast : goal.meet-requires-clause-unicast
meet-requires-clause-unicast c =
    let made = c.make_rounds-made.ensures.made 0 in
    pairs-unicast c.args.n 0 c.args.rows.now c.args.p.now c.are_unicast.ensures c.make_rounds-made.new.out made.steps made.result made.chain

pub returns : goal.returns
returns c t =
    let n = c.args.n in
    let rounds = c.args.rounds in
    let rows = c.args.rows.now in
    let places = c.args.p.now in
    let can = c.requires in
    let now = c.make_rounds-made.new.out in
    let made = c.make_rounds-made.result in
    let whole = c.make_rounds-made.ensures.whole in
    let are = c.make_rounds-made.ensures.made t in
    let after = c.meet.new.p in
    let slot : IsSlot n rounds t rows places (record { matched = now; numbers = made.numbers; places = after }) =
    IsSlot-from n rounds t rows places now (record { numbers = made.numbers; first_outputs = made.first_outputs }) can.rounds_some are whole after
    (λ first_match pairs. AreMoved-met n t rows places c.are_unicast.ensures first_match now after can.pointers
    (AreMet-along _ (λ i j level. Serves first_match i j level Uni) places after pairs c.meet.ensures.met)) in
    record {
      slot = slot;
      decision = decision_of-only n t rows places can.within c.ports.ensures.at_ports can.pointers rounds
          (record { matched = now; numbers = made.numbers; places = after }) c.meet.ensures.at_ports slot;
      whole = whole;
      at_ports = c.meet.ensures.at_ports;
      unused = nothing_added n rounds t rows places now (record { numbers = made.numbers; first_outputs = made.first_outputs }) can.rounds_some are
          c.ports.ensures.at_ports can.pointers can.within;
      enough = enough_rounds n rounds t rows places now (record { numbers = made.numbers; first_outputs = made.first_outputs }) can.rounds_some are
          c.ports.ensures.at_ports can.pointers can.within;
    }
